-- Laws of the model's greatest common divisors and least common multiples, as the code works them out. Assumes nothing.
use mathlib.Core.Path.{◌≡◌, refl, sym, ap, ap₂, ◌∙◌}
use mathlib.Core.List.{List}
use mathlib.Core.Bool.{Bool, true, false, cond}
use mathlib.Core.Logic.{◌⊎◌, inl, inr}
use Prim.Native.Nat.{ℕ, zero, suc, ◌+◌, ◌*◌, ◌/◌, ◌%◌, ◌≤◌, ◌<◌}
use native.Mathlib.Nat.{mod-lt, lt-suc_self, not-suc-le-zero, eq-or-lt_of_le, le_of_suc-le-suc, le_refl, le_trans, zero-mul, suc-mul, le-div_iff_mul-le, div-lt_iff_lt-mul, pos_of_ne-zero, div-le_self}
use native.Mathlib.Numerals.{add-one}
use native.Mathlib.Omega.{arith}
use lib.ListN.{get_or, take}
use Rattle.std.proofs.lemmas.List.{get_or-take}
use lib.Dec.{eqb}
use borrow.Author.Tests.{eq-eqb, ne_eqb}
use Rattle.finite.specs.Finite.{Below, sum_to}
use Rattle.model.specs.TestPoints.{gcd, gcd_in, lcm, lcm_to}
use Rattle.model.proofs.laws.Lcm.{Multiple, gcd_ok, lcm_ok, lcm_to_ok}
use Rattle.std.proofs.lemmas.Bool.{cond_below, cond_above, cond-false, cond-true, eqb-false}
use Rattle.std.proofs.lemmas.Bool.Decides.{nat_tests}
use Rattle.std.specs.Prelude.{Some, None}
use Rattle.table.specs.Horizon.{none_above, Spacings}

-- ---- the greatest common divisor

same_else : (t : Bool) (a : ℕ) {x y : ℕ} → (t ≡ false → x ≡ y) → cond t a x ≡ cond t a y
same_else true a h = refl
same_else false a h = h refl

-- any number of calls that is enough gives the same
enough : (f g a b : ℕ) → b < f → b < g → gcd_in f a b ≡ gcd_in g a b
unfolding gcd_in
enough zero g a b l m = absurd (not-suc-le-zero l)
enough (suc f) zero a b l m = absurd (not-suc-le-zero m)
enough (suc f) (suc g) a b l m = same_else (eqb b 0) a (λ e. go (enough f g b (a % b)) (pos_of_ne-zero (eqb-false b 0 e)))
  where
    go : (a % b < f → a % b < g → gcd_in f b (a % b) ≡ gcd_in g b (a % b)) → 0 < b → gcd_in f b (a % b) ≡ gcd_in g b (a % b)
    go ih pos = let less = mod-lt a pos in ih (omega arith) (omega arith)

pub gcd_zero : (a b : ℕ) → b ≡ 0 → gcd a b ≡ a
unfolding gcd gcd_in
gcd_zero a b e = cond-true (eqb b 0) a _ (eq-eqb b 0 e)

pub gcd_step : (a b : ℕ) → (b ≡ 0 → ⊥) → gcd a b ≡ gcd b (a % b)
unfolding gcd gcd_in
gcd_step a b some = cond-false (eqb b 0) a _ (ne_eqb b 0 some) ∙ enough b (suc (a % b)) b (a % b) (mod-lt a (pos_of_ne-zero some)) (lt-suc_self (a % b))

gcd_positive : (a b : ℕ) → 0 < b → 0 < gcd a b
gcd_positive a b pos = let (k, e) = (gcd_ok a b).of_right in go (gcd a b) k e
  where
    go : (g k : ℕ) → b ≡ k * g → 0 < g
    go zero k e = absurd (omega arith)
    go (suc g) k e = omega arith

-- ---- the least common multiple, under a limit

pub divisor_positive : (a b : ℕ) {g : ℕ} → g ≡ gcd a b → 0 < b → 0 < g
divisor_positive a b is pos = rw is (gcd_positive a b pos)

module _ (limit a b : ℕ) {g : ℕ} (is : g ≡ gcd a b) (pos : 0 < b) where
  product_fits : a / g ≤ limit / b → a / g * b ≤ limit
  product_fits l = (le-div_iff_mul-le pos).0 l

  product : a / g * b ≡ lcm a b
  unfolding lcm
  product = ap (λ (z : ℕ). a / z * b) is

  pub within_under : a / g ≤ limit / b → Some (a / g * b) ≡ none_above limit (lcm a b)
  within_under l = cond_above limit (lcm a b) None (Some (lcm a b)) (Some (a / g * b)) (omega (arith, product, product_fits l)) (ap Some product)

  pub within_above : limit / b < a / g → None ≡ none_above limit (lcm a b)
  within_above l = cond_below limit (lcm a b) None (Some (lcm a b)) (omega (arith, product, (div-lt_iff_lt-mul pos).0 l))

-- what is said by a number, where it is within the limit, and by none
module _ (limit v : ℕ) where
  pub was_above : None ≡ none_above limit v → limit < v
  was_above e = grind (arith, nat_tests)

  pub was_under : {r : ℕ} → Some r ≡ none_above limit v → (r ≡ v) × (v ≤ limit)
  was_under e = grind (arith, nat_tests)

-- ---- the horizon of some spacings

not_above : (h a : ℕ) → 1 ≤ h → Multiple h a → a ≤ h
not_above h a pos (zero, e) = absurd (omega (arith, zero-mul a))
not_above h a pos (suc k, e) = omega (arith, suc-mul k a)

module _ (f : ℕ → ℕ) where
  pub lcm_to_more : (i : ℕ) → lcm_to (i + 1) f ≡ lcm (lcm_to i f) (f i)
  unfolding lcm_to
  lcm_to_more i = ap (λ (n : ℕ). lcm_to n f) (add-one i)

  -- of more spacings it is no less
  pub lcm_to_grows : (n i : ℕ) → Below n (λ k. 1 ≤ f k) → i ≤ n → lcm_to i f ≤ lcm_to n f
  unfolding lcm_to
  lcm_to_grows zero i pos le = let z : i ≡ 0 = omega arith in rw z (le_refl 1)
  lcm_to_grows (suc n) i pos le = go (eq-or-lt_of_le le) (lcm_to_grows n i (λ k l. pos k (omega arith)))
    where
      go : (i ≡ suc n) ⊎ (i < suc n) → (i ≤ n → lcm_to i f ≤ lcm_to n f) → lcm_to i f ≤ lcm (lcm_to n f) (f n)
      go (inl e) ih = rw e (le_refl (lcm (lcm_to n f) (f n)))
      go (inr l) ih =
          let all = lcm_to_ok n f (λ k m. pos k (omega arith)) in
          let more = lcm_ok (lcm_to n f) (f n) all.positive (pos n (lt-suc_self n)) in
          le_trans (ih (le_of_suc-le-suc l)) (not_above (lcm (lcm_to n f) (f n)) (lcm_to n f) more.positive more.of_left)

-- a spacing of a table, behind those whose least common multiple is h
pub record Spaced (ts : List ℕ) (n i h t : ℕ) : Type 0 where
  pub sp : Spacings ts n
  pub so_far : h ≡ lcm_to i (λ k. get_or ts k 0)
  pub here : t ≡ get_or (take n ts) i 0
  pub some : i < n

module _ {ts : List ℕ} {n i h t : ℕ} (u : Spaced ts n i h t) where
  here : t ≡ get_or ts i 0
  here = u.here ∙ get_or-take n ts i 0 u.some

  pub horizon_positive : 0 < h
  horizon_positive = rw u.so_far (lcm_to_ok i (λ k. get_or ts k 0) (λ k m. u.sp.least k (omega (arith, u.some)))).positive

  pub spacing_positive : 0 < t
  spacing_positive = rw here (u.sp.least i u.some)

  both : lcm h t ≡ lcm_to (i + 1) (λ k. get_or ts k 0)
  both = rw (u.so_far, here) (sym (lcm_to_more (λ k. get_or ts k 0) i))

  -- where one spacing more takes it above the limit, all do
  pub horizon_above : (limit : ℕ) → None ≡ none_above limit (lcm h t) → None ≡ none_above limit (lcm_to n (λ k. get_or ts k 0))
  horizon_above limit e =
      let above = was_above limit (lcm h t) e in
      let grows = lcm_to_grows (λ k. get_or ts k 0) n (i + 1) u.sp.least (omega (arith, u.some)) in
      cond_below limit (lcm_to n (λ k. get_or ts k 0)) None _ (omega (arith, both))

  pub horizon_more : (limit : ℕ) {l : ℕ} → Some l ≡ none_above limit (lcm h t) → (l ≡ lcm_to (i + 1) (λ k. get_or ts k 0)) × (l ≤ limit)
  horizon_more limit e = let w = was_under limit (lcm h t) e in (w.0 ∙ both, omega (arith, w))

-- ---- the sum of H/T

-- a spacing of a table, behind those over which h was summed
pub record Summed (limit h : ℕ) (ts : List ℕ) (n i sum t : ℕ) : Type 0 where
  pub sp : Spacings ts n
  pub small : h ≤ limit
  pub below : sum ≤ i * limit
  pub so_far : sum ≡ sum_to i (λ k. h / get_or ts k 0)
  pub here : t ≡ get_or (take n ts) i 0
  pub some : i < n

module _ {limit h : ℕ} {ts : List ℕ} {n i sum t : ℕ} (u : Summed limit h ts n i sum t) where
  pub sum_more : sum + h / t ≡ sum_to (i + 1) (λ k. h / get_or ts k 0)
  unfolding sum_to
  sum_more = ap₂ (λ (a b : ℕ). a + h / b) u.so_far (u.here ∙ get_or-take n ts i 0 u.some) ∙ sym (ap (λ (m : ℕ). sum_to m (λ k. h / get_or ts k 0)) (add-one i))

  -- each task adds at most the limit
  pub sum_small : sum + h / t ≤ (i + 1) * limit
  sum_small = omega (arith, div-le_self h t, u.small, u.below)
