-- The test that decides test points, and the count of them.
-- Assumes nothing.
use Rattle.std.specs.Prelude.{◌≡◌, ◌&&◌, ℕ, suc, ◌+◌, ◌-◌, ◌*◌, ◌/◌, ◌%◌, ◌≤◌, ◌<◌, leb, eqb}
use Rattle.std.proofs.Common.{div-add-mod', arith}
use Rattle.std.proofs.Math.Nat.{mul-mod_left}
use Rattle.finite.specs.Finite.{sum_to}
use Rattle.finite.proofs.laws.Searches.{any_decides}
use Rattle.finite.proofs.laws.Tests.{fails, leb_decides}
use Rattle.std.proofs.lemmas.Bool.Decides.{Decides-and, Decides-eqb}
use Rattle.std.specs.Bool.{Decides}
use Rattle.model.specs.Tasks.{Sane, Tasks}
use Rattle.model.specs.TestPoints.{TestPoint, is_test, points}
use Rattle.model.specs.Works.{Counted}

on_time : (S : Tasks) → Sane S → (t i : ℕ) → i < S.n
    → Decides (leb (S.D i) t && eqb ((t - S.D i) % S.T i) 0) ((k : ℕ) × (t ≡ k * S.T i + S.D i))
on_time S sane t i l =
    let d = Decides-and (leb (S.D i) t) (eqb ((t - S.D i) % S.T i) 0) (leb_decides (S.D i) t) (Decides-eqb ((t - S.D i) % S.T i) 0) in
    (λ e. there (d.0 e), λ h. d.1 (back h))
  where
    there : (S.D i ≤ t) × ((t - S.D i) % S.T i ≡ 0) → (k : ℕ) × (t ≡ k * S.T i + S.D i)
    there h =
        let q : (t - S.D i) / S.T i * S.T i + (t - S.D i) % S.T i ≡ t - S.D i = div-add-mod' (t - S.D i) (S.T i) in
        ((t - S.D i) / S.T i, omega arith)

    back : (k : ℕ) × (t ≡ k * S.T i + S.D i) → (S.D i ≤ t) × ((t - S.D i) % S.T i ≡ 0)
    back h =
        let e : t - S.D i ≡ h.0 * S.T i = omega (arith, h.1) in
        (omega (arith, h.1), rw (e, mul-mod_left h.0 (S.T i)))

pub is_test_decides : (S : Tasks) → Sane S → (t : ℕ) → Decides (is_test S t) (TestPoint S t)
unfolding is_test
is_test_decides S sane t = any_decides S.n _ _ (on_time S sane t)

-- a test point is not below the shortest deadline
pub test_counted : (S : Tasks) (t : ℕ) → TestPoint S t → Counted S t
test_counted S t (i, l, (k, e)) = (i, l, omega arith)

no_test_at_zero : (S : Tasks) → Sane S → ¬ TestPoint S 0
no_test_at_zero S sane p =
    let c = test_counted S 0 p in
    omega (arith, c.2, sane.D_least c.0 c.1)

pub points_zero : (S : Tasks) → Sane S → points S 0 ≡ 0
unfolding points sum_to
points_zero S sane = rw (fails (is_test_decides S sane 0) (no_test_at_zero S sane))

pub points_test : (S : Tasks) → Sane S → (t : ℕ) → TestPoint S (suc t) → points S (suc t) ≡ suc (points S t)
unfolding points sum_to
points_test S sane t p = rw ((is_test_decides S sane (suc t)).1 p) (omega arith)

pub points_skip : (S : Tasks) → Sane S → (t : ℕ) → ¬ TestPoint S (suc t) → points S (suc t) ≡ points S t
unfolding points sum_to
points_skip S sane t f = rw (fails (is_test_decides S sane (suc t)) f) (omega arith)
