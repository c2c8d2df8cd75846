-- DEMAND 3: where the counts work, the dispatcher keeps its promise.
-- Assumes nothing.
use Rattle.std.specs.Prelude.{ℕ, ◌≤◌, ◌<◌, ◌≡◌}
use Rattle.std.proofs.Common.{subst, arith}
use Rattle.std.proofs.Math.Path.{fun_ext}
use Rattle.finite.specs.Finite.{Below}
use Rattle.finite.proofs.laws.Sums.{sum_member}
use Rattle.model.specs.Phase.{Choice, brings, phases_of}
use Rattle.model.specs.Tasks.{Each, Sane, Tasks}
use Rattle.model.specs.TestPoints.{horizon_of}
use Rattle.model.specs.Verdict.{Accepted, Judged, accepted}
use Rattle.model.specs.Walk.{verdict}
use Rattle.model.specs.Works.{AllAllowed, Works}
use Rattle.model.proofs.laws.Choices.{by_works, least_within}
use Rattle.model.proofs.laws.Judge.{judged}
use Rattle.model.proofs.laws.Plain.{laws_of, pieces_of}
use Rattle.promise.specs.History.{answer_at}
use Rattle.promise.specs.Promise.{Kept}
use Rattle.promise.specs.Rules.{Request, State}
use Rattle.promise.proofs.laws.Advance.{never_late}
use Rattle.promise.specs.laws.Late.{LateKept, LateRequest, LateWorks, late_answer_at}
use Rattle.promise.proofs.laws.Meets.{kept_safely}
use Rattle.promise.proofs.laws.Pick.{LeastLeft}
use Rattle.promise.proofs.laws.Remaining.{Ranged, terms}
use Rattle.promise.proofs.laws.Today.{fresh, today}
use Rattle.promise.proofs.laws.Urgent.{ChoosesUrgent, best_urgent, best_of, urgent_chooses, urgent_least}
use Rattle.promise.proofs.laws.View.{Enough, Ranges}

-- what the theory asks of a task's phases follows from the laws of their pieces, for counts from 1 to the most
pub ranged_of : (S : Tasks) (x : Choice) → Below S.n (λ i. 1 ≤ S.m i) → Each S (λ i j. 1 ≤ x i j) → Each S (λ i j. x i j ≤ (phases_of S).most i j)
    → Below S.n (Ranged S x)
ranged_of S x some_phase counted small i l =
    record {
      phased = some_phase i l;
      counted = λ j k. counted i j l k;
      some = λ j k p h. (pieces_of S).some i j l k (x i j) p (counted i j l k) (small i j l k) h;
      most = λ j k p h. (pieces_of S).most i j l k (x i j) p (counted i j l k) (small i j l k) h;
      all = λ j k. (pieces_of S).all i j l k x (counted i j l k) (small i j l k);
      whole = (pieces_of S).whole x i;
    }

module _ (S : Tasks) (sane : Sane S) (x : Choice) (valid : AllAllowed S (phases_of S) x) (small : Each S (λ i j. x i j ≤ (phases_of S).most i j)) where
  pub counts_ranged : (i : ℕ) → i < S.n → Ranged S x i
  counts_ranged = ranged_of S x sane.some_phase (λ i j l k. (laws_of S sane).one_least i j l k (x i j) (valid i j l k)) small

  costs : (i : ℕ) → i < S.n → 1 ≤ (phases_of S).budget x i
  costs i l =
      let h : 0 < S.m i = sane.some_phase i l in
      let short = (laws_of S sane).short_pieces i 0 l h x (valid i 0 l h) in
      omega (arith, short.0, short.1, (pieces_of S).whole x i, sum_member (S.m i) (brings S x i) 0 h)

  -- the ranges, whatever the lag and whoever goes first
  pub counts_ranges : (lag : ℕ) → Ranges (terms S x lag)
  counts_ranges lag = record { timed = sane.D_least; ordered = sane.D_most; costs = costs }

  enough : (lag : ℕ) → LateWorks S (phases_of S) x lag → Enough (terms S x lag)
  enough lag works = record { ranges = counts_ranges lag; fits = λ t i l d. omega (arith, works t (i, l, d)) }

  -- with ages up to the lag, and any choice among the most urgent
  pub late_kept : (lag : ℕ) → LateWorks S (phases_of S) x lag → (choose : State → ℕ) → ChoosesUrgent S choose → (ask : ℕ → LateRequest)
      → LateKept S x ask (λ t. late_answer_at S x lag choose ask t)
  late_kept lag works choose urgent ask =
      kept_safely S x counts_ranged lag (counts_ranges lag) (LeastLeft (terms S x lag)) (never_late (terms S x lag) (enough lag works)) choose
      (urgent_chooses S choose urgent) (urgent_least S choose urgent) ask

  -- whatever is released and whenever it is flagged
  pub kept : Works S (phases_of S) x → (ask : ℕ → Request) → Kept S x ask (λ t. answer_at S x ask t)
  kept works ask =
      subst
      (Kept S x ask)
      (fun_ext (today S x ask))
      (late_kept 0 (λ t c. omega (arith, works t t c (omega arith))) (best_of S) (best_urgent S) (λ t. fresh (ask t))).kept

-- and so for the counts of every accepted table
pub accepted_kept : (S : Tasks) → Sane S → (H : ℕ) (x : Choice) (p : ℕ) → Accepted S (phases_of S) H x p → (ask : ℕ → Request)
    → Kept S x ask (λ t. answer_at S x ask t)
accepted_kept S sane H x p a =
    kept S sane x a.least.valid
    (least_within S (phases_of S) (laws_of S sane) (Works S (phases_of S)) (by_works S (phases_of S) (laws_of S sane)) x a.least) a.least.good

-- above all for those that the walk gives
pub verdict_kept : (S : Tasks) → Sane S → (x : Choice) (p : ℕ) → verdict S (phases_of S) (horizon_of S) ≡ accepted x p → (ask : ℕ → Request)
    → Kept S x ask (λ t. answer_at S x ask t)
verdict_kept S sane x p e =
    accepted_kept S sane (horizon_of S) x p (subst (Judged S (phases_of S) (horizon_of S)) e (judged S sane))
