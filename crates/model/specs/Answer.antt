-- DEFINITIONS. Document 01, "Bytes of table and answer": the numbers of an answer, in its order.
-- Assumes nothing.
use Rattle.std.specs.Prelude.{List, ◌∷◌, ◌++◌, [], ℕ}
use Rattle.finite.specs.Finite.{join_to, list_to}
use Rattle.model.specs.Phase.{Phases}
use Rattle.model.specs.Tasks.{Tasks}
use Rattle.model.specs.Verdict.{Verdict, accepted, refused}
use Rattle.model.specs.Works.{longest}

-- of a task: its counts in phase order and its longest piece
abbrev pub task_answer : Tasks → Phases → (ℕ → ℕ → ℕ) → ℕ → List ℕ
task_answer S P x i = list_to (S.m i) (x i) ++ (longest S P x i ∷ [])

-- Accepted: 0, H, points examined, then each task. Refused: 1, witness, demand, points examined, blocked task, blocked phase.
unfoldable pub answer : Tasks → Phases → ℕ → Verdict → List ℕ
answer S P H (accepted x p) = 0 ∷ H ∷ p ∷ join_to S.n (task_answer S P x)
answer S P H (refused w d p i j) = 1 ∷ w ∷ d ∷ p ∷ i ∷ j ∷ []
