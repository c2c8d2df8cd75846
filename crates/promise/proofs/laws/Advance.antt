-- The passing of a tick keeps the invariant; and so, where a job with least time left goes first, no job is ever late.
-- Assumes nothing.
use Rattle.std.specs.Prelude.{ℕ, zero, suc, ◌+◌, ◌≤◌, ◌<◌, min, ◌≡◌, true, false}
use Rattle.std.proofs.Math.Path.{sym}
use Rattle.std.proofs.Common.{ap, ◌∙◌, arith}
use Rattle.std.proofs.Math.Decide.{dec_le}
use Rattle.std.proofs.Math.Nat.{mul-le-mul_right}
use Rattle.finite.proofs.laws.Sums.{sum_mono}
use Rattle.finite.proofs.laws.Tests.{by_cases}
use Rattle.model.proofs.laws.Jobs.{jobs_mono}
use Rattle.promise.proofs.laws.Admit.{admit_safe}
use Rattle.promise.proofs.laws.Pick.{LeastLeft, pick_safe}
use Rattle.promise.proofs.laws.Safe.{Due, Safe, Spare, future, load, load_far, load_idle, load_near, no_late, slice_kept, start_safe, total}
use Rattle.promise.proofs.laws.Sound.{Going, entered_sound, pick_going, picked_sound, sound}
use Rattle.promise.proofs.laws.View.{Advanced, Aged, Ask, Elapsed, Enough, NeverLate, Pass, Ranges, ViewedRun, Safety, StartsBy, Terms, View, Views}
use Rattle.promise.proofs.laws.Work.{work_spare}

module _ (τ : Terms) where
  module _ (ρ : Ranges τ) (s s' : View) (el : Elapsed τ s s') where
    future_ages : (x L i : ℕ) → i < τ.tasks.n → future τ (min (x + 1) (τ.tasks.T i + τ.lag)) L i ≤ future τ x (L + 1) i
    unfolding future
    future_ages x L i l =
        mul-le-mul_right (τ.cost i) (jobs_mono (τ.tasks.T i) (τ.tasks.D i) _ _ (omega (arith, ρ.timed i l, ρ.ordered i l)) (omega arith))

    elapse_load : (L i : ℕ) → i < τ.tasks.n → load τ s' L i ≤ load τ s (L + 1) i
    elapse_load L i l = by_cases (s.busy i) (λ b. job b (dec_le (s.left i) (L + 1))) idle
      where
        α : Aged τ s s' i
        α = el.ages i l

        later : future τ (s'.since i) L i ≤ future τ (s.since i) (L + 1) i
        later = omega (arith, ap (λ x. future τ x L i) α.since, future_ages (s.since i) L i l)

        idle : s.busy i ≡ false → load τ s' L i ≤ load τ s (L + 1) i
        idle b = omega (arith, load_idle τ s (L + 1) i b, load_idle τ s' L i (α.busy ∙ b), later)

        job : s.busy i ≡ true → Dec (s.left i ≤ L + 1) → load τ s' L i ≤ load τ s (L + 1) i
        job b (yes h) =
            omega (arith, load_near τ s (L + 1) i b h, load_near τ s' L i (α.busy ∙ b) (omega (arith, α.left)), α.rem, later)
        job b (no h) =
            omega (
              arith,
              load_far τ s (L + 1) i b (omega arith),
              load_far τ s' L i (α.busy ∙ b) (omega (arith, α.left)),
              slice_kept s s' i el.run el.ticks,
              later,
            )

    elapse_safe : Spare τ s → Safe τ s'
    unfolding total
    elapse_safe spare L i l due =
        let α : Aged τ s s' i = el.ages i l in
        let due₀ : Due s (L + 1) i = record { unfinished = sym α.busy ∙ due.unfinished; near = omega (arith, α.left, due.near) } in
        omega (arith, spare (L + 1) i l due₀, sum_mono τ.tasks.n (load τ s' L) (load τ s (L + 1)) (elapse_load L))

-- ---- the invariant followed from tick to tick
module _ (τ : Terms) (w : Enough τ) (ask : ℕ → Ask) (pass : ℕ → Pass) (v : Views) (run : ViewedRun τ ask pass v)
    (first : (t : ℕ) → StartsBy (LeastLeft τ) (v.entered t) (v.picked t)) where
  entered_safe : (t : ℕ) → Safe τ (v.before t) → Safe τ (v.entered t)
  entered_safe t = admit_safe τ w (v.before t) (v.entered t) (ask t) (sound τ w.ranges ask pass v run t) (run.admits t)

  safe : (t : ℕ) → Safe τ (v.before t)
  safe zero = start_safe τ (v.before 0) run.start
  safe (suc t) =
      let ad : Advanced τ (pass t) (v.entered t) (v.picked t) (v.worked t) (v.before (suc t)) = run.advances t in
      let safe₁ : Safe τ (v.picked t) = pick_safe τ (v.entered t) (v.picked t) (first t) ad.picks (entered_safe t (safe t)) in
      let going : Going τ (v.picked t) = pick_going τ (v.entered t) (v.picked t) ad.picks in
      let spare : Spare τ (v.worked t) =
      work_spare τ (v.picked t) (v.worked t) (pass t) (picked_sound τ w.ranges ask pass v run t) going ad.works safe₁ in
      elapse_safe τ w.ranges (v.worked t) (v.before (suc t)) ad.elapses spare

  in_time : NeverLate τ v
  in_time i l t b =
      no_late τ (v.entered t) i (entered_sound τ w.ranges ask pass v run t) (entered_safe t (safe t)) l b

-- where a job with least time left goes first, no job is ever late
pub never_late : (τ : Terms) → Enough τ → Safety τ (LeastLeft τ)
never_late = in_time
