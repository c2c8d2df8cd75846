-- The parts of a tick's answer.
-- Assumes nothing.
use Rattle.std.specs.Prelude.{ℕ, zero, suc, ◌≡◌, refl, Bool}
use Rattle.std.proofs.Common.{subst, arith}
use Rattle.model.specs.Phase.{Choice}
use Rattle.model.specs.Tasks.{Tasks}
use Rattle.promise.specs.Rules.{Answer, State, answer_by, ends_of, finishes_of, outcome}
use Rattle.promise.specs.laws.Late.{pick_by_at}
use Rattle.promise.proofs.laws.Working.{pass_of}

-- ---- the parts of an answer, by the task r (from 1; 0: none) that runs
module _ (S : Tasks) (x : Choice) (entered : ℕ → Bool) (flag : Bool) (s : State) where
  pub answer_ran : (r : ℕ) → (answer_by S x entered flag s r).ran ≡ r
  answer_ran zero = refl
  answer_ran (suc j) = refl

  pub answer_lets : (r i : ℕ) → (answer_by S x entered flag s r).let_in i ≡ entered i
  answer_lets zero i = refl
  answer_lets (suc j) i = refl

  pub record Passes (r : ℕ) : Type 0 where
    pub ran : (answer_by S x entered flag s r).ran ≡ (pass_of S x flag s r).ran
    pub ended : (answer_by S x entered flag s r).ended ≡ (pass_of S x flag s r).ended
    pub finished : (answer_by S x entered flag s r).finished ≡ (pass_of S x flag s r).finished
    pub flagged : (pass_of S x flag s r).flag ≡ flag

  pub answer_pass : (r : ℕ) → Passes r
  answer_pass zero = record { ran = refl; ended = refl; finished = refl; flagged = refl }
  answer_pass (suc j) = record { ran = refl; ended = refl; finished = refl; flagged = refl }

pub record AnswersAt (S : Tasks) (x : Choice) (flag : Bool) (s : State) (i : ℕ) (a : Answer) : Type 0 where
  pub phase : a.phase ≡ s.phase i
  pub piece : a.piece ≡ s.piece i
  pub ended : a.ended ≡ ends_of (outcome S x flag s i)
  pub finished : a.finished ≡ finishes_of (outcome S x flag s i)

pub answer_at_lem : (S : Tasks) (x : Choice) (entered : ℕ → Bool) (flag : Bool) (s : State) (r i : ℕ) → r ≡ suc i
    → AnswersAt S x flag s i (answer_by S x entered flag s r)
answer_at_lem S x entered flag s zero i e = absurd (omega arith)
answer_at_lem S x entered flag s (suc j) i e =
    subst (λ i. AnswersAt S x flag s i (answer_by S x entered flag s (suc j))) (omega arith) (record { phase = refl; piece = refl; ended = refl; finished = refl })

-- a piece that runs is not set aside
pub pick_running : (S : Tasks) (x : Choice) (choose : State → ℕ) (s : State) (i r : ℕ) → s.run ≡ r → s.run ≡ suc i → (pick_by_at S x choose s r).run ≡ suc i
pick_running S x choose s i zero e f = absurd (omega arith)
pick_running S x choose s i (suc j) e f = f
