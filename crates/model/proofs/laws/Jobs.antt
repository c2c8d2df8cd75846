-- How the number of jobs inside a length goes with the length.
-- Assumes nothing.
use Rattle.std.specs.Prelude.{◌≡◌, ◌⊎◌, ℕ, zero, suc, ◌+◌, ◌-◌, ◌*◌, ◌/◌, ◌%◌, ◌≤◌, ◌<◌}
use Rattle.std.proofs.lemmas.Bool.{le-ltb, lt-ltb}
use Rattle.std.proofs.Common.{sym, ap, ◌∙◌, inl, inr, le-div_iff_mul-le, div-mul-le_self, mod-lt, div-add-mod', arith}
use Rattle.std.proofs.Math.Nat.{div-eq_of_lt, add-div_right}
use Rattle.std.proofs.Math.Arith.{digits_div}
use Rattle.finite.proofs.laws.Tests.{le_or_lt}
use Rattle.model.specs.Demand.{jobs}

pub jobs_before : (T D t : ℕ) → t < D → jobs T D t ≡ 0
unfolding jobs
jobs_before T D t h = rw (lt-ltb t D h)

pub jobs_from : (T D t : ℕ) → D ≤ t → jobs T D t ≡ (t - D) / T + 1
unfolding jobs
jobs_from T D t h = rw (le-ltb t D (omega arith))

-- one spacing more, one job more; also while no job fits, since D is at most T
pub jobs_shift : (T D t : ℕ) → 1 ≤ D → D ≤ T → jobs T D (t + T) ≡ jobs T D t + 1
jobs_shift T D t h1 h2 = go (le_or_lt D t)
  where
    go : (D ≤ t) ⊎ (t < D) → jobs T D (t + T) ≡ jobs T D t + 1
    go (inl h) =
        let e : t + T - D ≡ (t - D) + T = omega arith in
        rw (jobs_from T D (t + T) (omega arith), jobs_from T D t h, e, add-div_right (t - D) {k = T} (omega arith))
    go (inr h) =
        let small : t + T - D < T = omega arith in
        rw (jobs_from T D (t + T) (omega arith), jobs_before T D t h, div-eq_of_lt small)

pub jobs_shifts : (T D t k : ℕ) → 1 ≤ D → D ≤ T → jobs T D (t + k * T) ≡ jobs T D t + k
jobs_shifts T D t zero h1 h2 =
    let e : t + 0 * T ≡ t = omega arith in
    let e' : jobs T D t + 0 ≡ jobs T D t = omega arith in
    rw (e, e')
jobs_shifts T D t (suc k) h1 h2 =
    let e : t + suc k * T ≡ t + k * T + T = omega arith in
    rw (e, jobs_shift T D (t + k * T) h1 h2, jobs_shifts T D t k h1 h2) (omega arith)

div_steady : (T a : ℕ) → 0 < T → ¬ (suc a % T ≡ 0) → suc a / T ≡ a / T
div_steady T a pos h =
    let r : suc a % T < T = mod-lt (suc a) pos in
    let e : suc a / T * T + suc a % T ≡ suc a = div-add-mod' (suc a) T in
    let e' : a ≡ suc a / T * T + (suc a % T - 1) = omega arith in
    sym (ap (λ (x : ℕ). x / T) e' ∙ digits_div (suc a / T) (omega arith))

-- the jobs change only where a length of the form k T + D is reached
pub jobs_steady : (T D t : ℕ) → 0 < T → ((k : ℕ) → ¬ (suc t ≡ k * T + D)) → jobs T D (suc t) ≡ jobs T D t
jobs_steady T D t pos h = go (le_or_lt D t)
  where
    off : D ≤ t → ¬ (suc (t - D) % T ≡ 0)
    off l e =
        let q : suc (t - D) / T * T + suc (t - D) % T ≡ suc (t - D) = div-add-mod' (suc (t - D)) T in
        h (suc (t - D) / T) (omega arith)

    not_here : ¬ (suc t ≡ D)
    not_here e = h 0 (omega arith)

    go : (D ≤ t) ⊎ (t < D) → jobs T D (suc t) ≡ jobs T D t
    go (inl l) =
        let e : suc t - D ≡ suc (t - D) = omega arith in
        rw (jobs_from T D (suc t) (omega arith), jobs_from T D t l, e, div_steady T (t - D) pos (off l))
    go (inr l) = rw (jobs_before T D (suc t) (omega (arith, not_here)), jobs_before T D t l)

pub jobs_mono : (T D t u : ℕ) → 0 < T → t ≤ u → jobs T D t ≤ jobs T D u
jobs_mono T D t u pos h = go (le_or_lt D t)
  where
    go : (D ≤ t) ⊎ (t < D) → jobs T D t ≤ jobs T D u
    go (inl d) =
        let less : (t - D) / T ≤ (u - D) / T = (le-div_iff_mul-le pos).1 (omega (arith, div-mul-le_self (t - D) T)) in
        omega (arith, jobs_from T D t d, jobs_from T D u (omega arith))
    go (inr d) = omega (arith, jobs_before T D t d)

-- the first of the jobs inside t takes a spacing; the others are those inside the rest
pub jobs_after_one : (T D t : ℕ) → 1 ≤ D → D ≤ T → D ≤ t → jobs T D t ≡ jobs T D (t - T) + 1
jobs_after_one T D t h1 h2 d = go (le_or_lt T t)
  where
    go : (T ≤ t) ⊎ (t < T) → jobs T D t ≡ jobs T D (t - T) + 1
    go (inl h) =
        let e : t - T + T ≡ t = omega arith in
        rw e at (jobs_shift T D (t - T) h1 h2)
    go (inr h) = omega (arith, jobs_from T D t d, div-eq_of_lt {n = t - D} {m = T} (omega arith), jobs_before T D (t - T) (omega arith))
