-- Who has an unfinished job: picking changes nothing, and the tick of a piece can only finish the job that runs.
-- Assumes nothing.
use Rattle.std.specs.Prelude.{ℕ, zero, suc, ◌≡◌, refl, Bool, true, false}
use Rattle.std.proofs.Common.{sym, ap, ◌∙◌, true≢false, arith}
use Rattle.std.proofs.Math.Decide.{ℕ_discrete}
use Rattle.model.specs.Phase.{Choice}
use Rattle.model.specs.Tasks.{Tasks}
use Rattle.promise.specs.Rules.{PieceOutcome, State, after, done, finishes_of, next_phase, next_piece, on, outcome, put, start, work_at}
use Rattle.promise.specs.laws.Late.{pick_by, pick_by_at}
use Rattle.promise.proofs.laws.Remaining.{put_other, put_same}
use Rattle.promise.proofs.laws.Working.{pass_of}

module _ (S : Tasks) (x : Choice) where
  start_busy : (s : State) (i b : ℕ) → (start S x s b).busy i ≡ s.busy i
  start_busy s i zero = refl
  start_busy s i (suc j) = refl

  pick_at_busy : (choose : State → ℕ) (s : State) (i r : ℕ) → (pick_by_at S x choose s r).busy i ≡ s.busy i
  pick_at_busy choose s i zero = start_busy s i (choose s)
  pick_at_busy choose s i (suc j) = refl

  pub pick_busy : (choose : State → ℕ) (s : State) (i : ℕ) → (pick_by S x choose s).busy i ≡ s.busy i
  pick_busy choose s i = pick_at_busy choose s i s.run

  -- task i is still busy: so it was, and it did not finish
  pub record Stays (s : State) (i r : ℕ) (finished : Bool) : Type 0 where
    pub busy : s.busy i ≡ true
    pub unfinished : ¬ ((r ≡ suc i) × (finished ≡ true))

  after_stays : (s : State) (i j : ℕ) (o : PieceOutcome) → (after s j o).busy i ≡ true → Stays s i (suc j) (finishes_of o)
  after_stays s i j on b = record { busy = b; unfinished = λ e. true≢false (sym e.1) }
  after_stays s i j next_piece b = record { busy = b; unfinished = λ e. true≢false (sym e.1) }
  after_stays s i j next_phase b = record { busy = b; unfinished = λ e. true≢false (sym e.1) }
  after_stays s i j done b = go (ℕ_discrete i j)
    where
      go : Dec (i ≡ j) → Stays s i (suc j) true
      go (yes q) = absurd (true≢false (sym b ∙ ap (put s.busy j false) q ∙ put_same s.busy j false))
      go (no q) = record { busy = sym (put_other s.busy j false i q) ∙ b; unfinished = λ e. q (omega (arith, e.0)) }

  pub work_stays : (flag : Bool) (s : State) (i r : ℕ) → (work_at S x flag s r).busy i ≡ true → Stays s i r (pass_of S x flag s r).finished
  work_stays flag s i zero b = record { busy = b; unfinished = λ e. true≢false (sym e.1) }
  work_stays flag s i (suc j) b = after_stays s i j (outcome S x flag s j) b
