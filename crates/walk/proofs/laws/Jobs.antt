-- How the number of jobs inside a length moves on from one length to a later one. Assumes nothing.
use Rattle.std.specs.Prelude.{◌≡◌, ℕ, ◌+◌, ◌*◌, ◌-◌, ◌/◌, ◌≤◌, ◌<◌}
use Rattle.std.proofs.Common.{sym, ap, ◌∙◌, ⊎_elim, add-mul, one-mul, div-mul-le_self, arith}
use Rattle.std.proofs.Math.Nat.{div-eq_of_lt-le}
use Rattle.model.specs.Demand.{jobs}
use Rattle.model.proofs.laws.Jobs.{jobs_before, jobs_from}
use Rattle.finite.proofs.laws.Tests.{le_or_lt}

-- the number of jobs by the deadlines on either side
pub jobs_is : (spacing d t k : ℕ) → d + k * spacing ≤ t → t < d + k * spacing + spacing → jobs spacing d t ≡ k + 1
jobs_is spacing d t k low high =
    let q : (t - d) / spacing ≡ k = div-eq_of_lt-le spacing (omega arith) (rw (add-mul k 1 spacing) (omega (arith, one-mul spacing))) in
    jobs_from spacing d t (omega arith) ∙ ap (λ (n : ℕ). n + 1) q

module _ (spacing d last t : ℕ) (pos : 0 < spacing) (past : last < t) where
  -- before the next deadline the number stays
  pub jobs_stay : t < d + jobs spacing d last * spacing → jobs spacing d t ≡ jobs spacing d last
  jobs_stay l = ⊎_elim after before (le_or_lt d last)
    where
      after : d ≤ last → jobs spacing d t ≡ jobs spacing d last
      after le =
          let k = (last - d) / spacing in
          let some : jobs spacing d last ≡ k + 1 = jobs_from spacing d last le in
          let up : t < d + (k + 1) * spacing = rw some at l in
          jobs_is spacing d t k (omega (arith, div-mul-le_self (last - d) spacing)) (omega (arith, add-mul k 1 spacing, one-mul spacing)) ∙ sym some

      before : last < d → jobs spacing d t ≡ jobs spacing d last
      before lt =
          let none : jobs spacing d last ≡ 0 = jobs_before spacing d last lt in
          let up : t < d + 0 * spacing = rw none at l in
          jobs_before spacing d t (omega arith) ∙ sym none

  -- at the next deadline there is one more
  pub jobs_step : t ≡ d + jobs spacing d last * spacing → jobs spacing d t ≡ jobs spacing d last + 1
  jobs_step e = jobs_is spacing d t (jobs spacing d last) (omega arith) (omega arith)
