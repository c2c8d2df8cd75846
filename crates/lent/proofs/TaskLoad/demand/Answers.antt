-- `TaskLoad::demand` meets its contract: the term of a task, by the test of its deadline. Assumes nothing.
use Rattle.std.proofs.Common.{◌≡◌, ℕ, ◌+◌, ◌-◌, ◌*◌, ◌/◌, ◌<◌, ◌≤◌, Option, Some, None, SomeIff, sym, ◌∙◌, ap, arith}
use Rattle.std.specs.Option.{unwrap_or}
use native.Mathlib.Nat.{div-zero}
use Rattle.lent.specs.declared.TaskLoad.{TaskLoad}
use Rattle.lent.specs.laws.Running.{told, term_of}
use Rattle.lent.proofs.laws.Running.{told_within, told_past, checked_told, term_none, term_some}
use Rattle.lent.proofs.TaskLoad.demand.Goals as goal

-- the quotient, which is 0 where the divisor is 0
quotient : (r : Option ℕ) (n d : ℕ) → SomeIff r (0 < d) (n / d) → unwrap_or r 0 ≡ n / d
quotient None n d h = let zero : d ≡ 0 = omega arith in sym (ap (λ (k : ℕ). n / k) zero ∙ div-zero n)
quotient (Some q) n d h = h.1

-- a task's term as it is formed here: the budget for the further jobs, and once more for the first
term_as : (t : ℕ) (s : TaskLoad) (r : Option ℕ) {more : ℕ} → s.deadline ≤ t → SomeIff r (0 < s.spacing) ((t - s.deadline) / s.spacing) → more ≡ unwrap_or r 0
    → term_of t s ≡ more * s.budget + s.budget
term_as t s r {more} h q e = term_some t s h ∙ rw (← whole) (omega arith)
  where
    whole : more ≡ (t - s.deadline) / s.spacing
    whole = e ∙ quotient r (t - s.deadline) s.spacing q

pub returns-then-t-self : goal.returns-then-t-self
returns-then-t-self c = rw (term_none c.args.t c.args.self.now (omega arith)) (sym (told_within 0 (omega arith)))

pub returns-in_err-further : goal.returns-in_err-further
returns-in_err-further c =
    let term = term_as c.args.t c.args.self.now _ c.if-t-self.false c.checked_div.ensures c.unwrap_or-more.ensures in
    c.from_residual.ensures ∙ sym (told_past _ (omega (arith, c.in_err-further.ensures)))

pub returns : goal.returns
returns c =
    let term = term_as c.args.t c.args.self.now _ c.if-t-self.false c.checked_div.ensures c.unwrap_or-more.ensures in
    checked_told _ _ c.checked_add.ensures ∙ ap told (omega (arith, c.in_ok-further.ensures))
