-- The horizon is the least common multiple of the spacings, built from greatest common divisors, each by remainders.
-- Assumes nothing.
use Rattle.std.specs.Prelude.{◌≡◌, refl, ◌⊎◌, Bool, true, false, ℕ, zero, suc, ◌+◌, ◌-◌, ◌*◌, ◌/◌, ◌%◌, ◌≤◌, ◌<◌, eqb}
use Rattle.std.proofs.lemmas.Bool.{eqb-false, eqb-true}
use Rattle.std.proofs.Common.{sym, ◌∙◌, ap, inl, inr, le_trans, le_refl, mod-lt, div-add-mod', mul_assoc, mul_comm, mul-div_cancel, mul-pos, eq-or-lt_of_le, le_of_suc-le-suc, lt-suc_self, not-suc-le-zero, zero-mul, arith}
use Rattle.std.proofs.Math.Nat.{eq_of_mul-eq-mul_right, mul-sub, le_step}
use Rattle.finite.specs.Finite.{Below}
use Rattle.model.specs.Tasks.{Sane, Tasks}
use Rattle.model.specs.TestPoints.{gcd, gcd_in, horizon_of, lcm, lcm_to}
use Rattle.model.proofs.laws.Horizon.{Horizon}

-- a is a multiple of d
abbrev pub Multiple : ℕ → ℕ → Type 0
Multiple a d = (k : ℕ) × (a ≡ k * d)

-- ---- the greatest common divisor

-- g divides both, and is a difference of multiples of the two
pub record IsGcd (a b g : ℕ) : Type 0 where
  pub of_left : Multiple a g
  pub of_right : Multiple b g
  pub spanned : (s : ℕ) × (t : ℕ) × ((s * a ≡ t * b + g) ⊎ (s * a + g ≡ t * b))

gcd_step : (a b g q r : ℕ) → q * b + r ≡ a → IsGcd b r g → IsGcd a b g
gcd_step a b g q r e h =
    let (k, ek) = h.of_left in
    let (l, el) = h.of_right in
    let (s, t, c) = h.spanned in
    let ea : a ≡ (q * k + l) * g = rw (← e, ek, el) (omega arith) in
    record { of_left = (q * k + l, ea); of_right = (k, ek); spanned = (t, s + t * q, flip s t c) }
  where
    flip : (s t : ℕ) → (s * b ≡ t * r + g) ⊎ (s * b + g ≡ t * r) → (t * a ≡ (s + t * q) * b + g) ⊎ (t * a + g ≡ (s + t * q) * b)
    flip s t (inl h) = inr (rw (← e) (omega arith))
    flip s t (inr h) = inl (rw (← e) (omega arith))

gcd_last : (a b : ℕ) → b ≡ 0 → IsGcd a b a
gcd_last a b e = record { of_left = (1, omega arith); of_right = (0, omega arith); spanned = (1, 0, inl (omega arith)) }

gcd_in_ok : (f a b : ℕ) → b < f → IsGcd a b (gcd_in f a b)
unfolding gcd_in
gcd_in_ok zero a b l = absurd (not-suc-le-zero l)
gcd_in_ok (suc f) a b l = go (eqb b 0) refl (λ h. gcd_in_ok f b (a % b) (omega (arith, mod-lt a h)))
  where
    go : (v : Bool) → eqb b 0 ≡ v → (0 < b → IsGcd b (a % b) (gcd_in f b (a % b))) → IsGcd a b (gcd_in (suc f) a b)
    go true e ih = rw (e, gcd_in) (gcd_last a b (eqb-true b 0 e))
    go false e ih = rw (e, gcd_in) (gcd_step a b _ (a / b) (a % b) (div-add-mod' a b) (ih (omega (arith, eqb-false b 0 e))))

pub gcd_ok : (a b : ℕ) → IsGcd a b (gcd a b)
unfolding gcd
gcd_ok a b = gcd_in_ok (suc b) a b (lt-suc_self b)

-- ---- the least common multiple

pub record IsLcm (a b h : ℕ) : Type 0 where
  pub positive : 1 ≤ h
  pub of_left : Multiple h a
  pub of_right : Multiple h b
  pub divides : (K : ℕ) → Multiple K a → Multiple K b → Multiple K h

difference : (K p q h : ℕ) → K + p * h ≡ q * h → Multiple K h
difference K p q h e =
    let m : (q - p) * h ≡ q * h - p * h = mul_comm (q - p) h ∙ mul-sub h q p ∙ rw (mul_comm h q, mul_comm h p) in
    (q - p, omega arith)

-- with g the divisor, a = k g and b = l g: the multiple is k b = l a
module _ (a b g k l : ℕ) (ha : 1 ≤ a) (hb : 1 ≤ b) (ea : a ≡ k * g) (eb : b ≡ l * g) where
  g_pos : 1 ≤ g
  g_pos = go g ea
    where
      go : (g : ℕ) → a ≡ k * g → 1 ≤ g
      go zero e = omega arith
      go (suc g) e = omega arith

  k_pos : 1 ≤ k
  k_pos = go k ea
    where
      go : (k : ℕ) → a ≡ k * g → 1 ≤ k
      go zero e = omega (arith, zero-mul g)
      go (suc k) e = omega arith

  both_ways : k * b ≡ l * a
  both_ways = rw (ea, eb) (omega arith)

  common : (s t : ℕ) → (s * a ≡ t * b + g) ⊎ (s * a + g ≡ t * b) → (K : ℕ) → Multiple K a → Multiple K b → Multiple K (k * b)
  common s t c K (u, eu) (v, ev) = go c
    where
      -- K s a and K t b, both as multiples of k b g
      by_left : K * (s * a) ≡ s * v * (k * b) * g
      by_left = ap (λ (z : ℕ). z * (s * a)) ev ∙ rw ea (omega arith)

      by_right : K * (t * b) ≡ t * u * (k * b) * g
      by_right = ap (λ (z : ℕ). z * (t * b)) eu ∙ rw ea (omega arith)

      go : (s * a ≡ t * b + g) ⊎ (s * a + g ≡ t * b) → Multiple K (k * b)
      go (inl c) =
          let e : K * (s * a) ≡ K * (t * b + g) = ap (λ (z : ℕ). K * z) c in
          difference K (t * u) (s * v) (k * b) (eq_of_mul-eq-mul_right g g_pos _ _ (omega (arith, by_left, by_right)))
      go (inr c) =
          let e : K * (s * a + g) ≡ K * (t * b) = ap (λ (z : ℕ). K * z) c in
          difference K (s * v) (t * u) (k * b) (eq_of_mul-eq-mul_right g g_pos _ _ (omega (arith, by_left, by_right)))

pub lcm_ok : (a b : ℕ) → 1 ≤ a → 1 ≤ b → IsLcm a b (lcm a b)
unfolding lcm
lcm_ok a b ha hb =
    let h = gcd_ok a b in
    let (k, ea) = h.of_left in
    let (l, eb) = h.of_right in
    let (s, t, c) = h.spanned in
    let e : a / gcd a b ≡ k = ap (λ (z : ℕ). z / gcd a b) ea ∙ mul-div_cancel k (g_pos a b (gcd a b) k l ha hb ea eb) in
    rw e (record {
      positive = mul-pos (k_pos a b (gcd a b) k l ha hb ea eb) hb;
      of_left = (l, both_ways a b (gcd a b) k l ha hb ea eb);
      of_right = (k, refl);
      divides = common a b (gcd a b) k l ha hb ea eb s t c;
    })

pub record IsLcmTo (n : ℕ) (f : ℕ → ℕ) (h : ℕ) : Type 0 where
  pub positive : 1 ≤ h
  pub multiple : Below n (λ i. Multiple h (f i))
  pub divides : (K : ℕ) → Below n (λ i. Multiple K (f i)) → Multiple K h

pub lcm_to_ok : (n : ℕ) (f : ℕ → ℕ) → Below n (λ i. 1 ≤ f i) → IsLcmTo n f (lcm_to n f)
unfolding lcm_to
lcm_to_ok zero f p = record { positive = le_refl 1; multiple = λ i l. absurd (not-suc-le-zero l); divides = λ K h. (K, omega arith) }
lcm_to_ok (suc n) f p =
    let r = lcm_to_ok n f (λ i l. p i (le_step l)) in
    let q = lcm_ok (lcm_to n f) (f n) r.positive (p n (lt-suc_self n)) in
    record {
      positive = q.positive;
      multiple = λ i l. each (lcm_to n f) (lcm (lcm_to n f) (f n)) r.multiple q.of_left q.of_right i (eq-or-lt_of_le (le_of_suc-le-suc l));
      divides = λ K h. q.divides K (r.divides K (λ i l. h i (le_step l))) (h n (lt-suc_self n));
    }
  where
    each : (a h : ℕ) → Below n (λ i. Multiple a (f i)) → Multiple h a → Multiple h (f n) → (i : ℕ) → (i ≡ n) ⊎ (i < n) → Multiple h (f i)
    each a h r x y i (inl e) = rw e y
    each a h r (k, ek) y i (inr l) = let (j, ej) = r i l in (k * j, ek ∙ ap (λ (z : ℕ). k * z) ej ∙ sym (mul_assoc k j (f i)))

-- ---- the horizon

pub horizon_lcm : (S : Tasks) → Sane S → IsLcmTo S.n S.T (horizon_of S)
unfolding horizon_of
horizon_lcm S sane = lcm_to_ok S.n S.T (λ i l. le_trans (sane.D_least i l) (sane.D_most i l))

pub horizon_is : (S : Tasks) → Sane S → Horizon S (horizon_of S)
horizon_is S sane = let h = horizon_lcm S sane in record { positive = h.positive; multiple = h.multiple }
