-- Tests of several parts, and what they decide.
-- Assumes nothing.
use Rattle.std.specs.Prelude.{refl, Bool, true, false, cond, ◌&&◌, ℕ, ◌≤◌, leb}
use Rattle.std.specs.Bool.{Decides}
use Rattle.std.proofs.Common.{sym, true≢false}
use Rattle.std.proofs.Math.Bool.{and_comm}
use Rattle.std.proofs.lemmas.Bool.Decides.{Decides-and, Decides-below_and, Decides-like}
use Rattle.finite.specs.Finite.{Below, all_to}
use Rattle.finite.proofs.laws.Tests.{leb_decides}

-- a second test need decide only where the first passes
pub under : (a : Bool) {b : Bool} {P Q : Type 0} → Decides a P → (P → Decides b Q) → Decides (a && b) (P × Q)
under true p q = (λ e. (p.0 refl, (q (p.0 refl)).0 e), λ h. (q h.0).1 h.1)
under false p q = (λ e. absurd (true≢false (sym e)), λ h. absurd (true≢false (sym (p.1 h.0))))

pub three : {a b c : Bool} {P Q R : Type 0} → Decides a P → Decides b Q → Decides c R → Decides (a && b && c) (P × Q × R)
three p q r = Decides-like _ (λ t. (t.0.0, t.0.1, t.1)) (λ t. ((t.0, t.1), t.2)) (Decides-and _ _ (Decides-and _ _ p q) r)

pub within_decides : (least most v : ℕ) → Decides (leb least v && leb v most) ((least ≤ v) × (v ≤ most))
within_decides least most v = Decides-and _ _ (leb_decides least v) (leb_decides v most)

test_cases : (a : Bool) {b c : Bool} {E P Q : Type 0} → Decides a E → Decides b P → Decides c Q → Decides (cond a b c) ((E → P) × (¬ E → Q))
test_cases true e p q = (λ h. (λ x. p.0 h, λ n. absurd (n (e.0 refl))), λ t. p.1 (t.0 (e.0 refl)))
test_cases false e p q = (λ h. (λ x. absurd (true≢false (sym (e.1 x))), λ n. q.0 h), λ t. q.1 (t.1 (λ x. true≢false (sym (e.1 x)))))

pub by_test : {a b c : Bool} {E P Q : Type 0} → Decides a E → Decides b P → Decides c Q → Decides (cond a b c) ((E → P) × (¬ E → Q))
by_test {a} e p q = test_cases a e p q

pub every : (n : ℕ) (p : ℕ → Bool) (P : ℕ → Type 0) → ((i : ℕ) → Decides (p i) (P i)) → Decides (all_to n p) (Below n P)
unfolding all_to
every n p P d = Decides-below_and p P (λ n. all_to n p) d refl (λ n. and_comm (all_to n p) (p n)) n
