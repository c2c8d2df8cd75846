-- DEFINITIONS. The worked tables A to L of document 01 as one list, and the single claim that the definitions say what the document says.
-- Assumes nothing.
use Rattle.std.specs.Prelude.{◌≡◌, refl, List, ◌∷◌, [], ◌++◌, map, ℕ}
use Rattle.finite.specs.Finite.{any_to, find_to, max_to, sum_to}
use Rattle.groups.specs.Number.{groups}
use Rattle.groups.specs.Encode.{encode_in, encode_all}
use Rattle.model.specs.Demand.{demand, jobs}
use Rattle.model.specs.Phase.{budget, ceil_div, longest_piece, phases_of, piece_length}
use Rattle.model.specs.Tasks.{Tasks}
use Rattle.finite.specs.Finite.{join_to, list_to}
use Rattle.model.specs.Arrays.{empty_arrays}
use Rattle.model.specs.Answer.{answer}
use Rattle.model.specs.TestPoints.{gcd, gcd_in, horizon_of, is_test, lcm, lcm_to}
use Rattle.model.specs.Walk.{blocked_phase, blocked_task, lacks, move, move_at, move_in, raise_low, verdict, walk}
use Rattle.model.specs.Works.{longest}
use Rattle.table.specs.Parse.{table, numbers, task, phase, each, number_in, numbers_in, empty}
use Rattle.table.specs.TaskModel.{jobs_within}
use Rattle.worked.specs.Says.{Saying, writes, turns_away, says, says_of}

-- what the definitions give, and what document 01 says
pub record Example : Type 0 where
  pub given : Saying
  pub said : Saying

infix 20 ◌is◌
abbrev ◌is◌ : Saying → Saying → Example
given is said = record { given = given; said = said }

-- a task T/D with c+q in a table's bytes: one phase; each number is below 128, and so its own byte
abbrev task_bytes : (T D c q : ℕ) → List ℕ
task_bytes T D c q = T ∷ D ∷ 1 ∷ c ∷ q ∷ []

abbrev one : List ℕ → List ℕ
one a = 1 ∷ a

abbrev two : List ℕ → List ℕ → List ℕ
two a b = 2 ∷ a ++ b

-- accepted: H, points examined, then counts and longest piece of each task
abbrev accepted : (H points : ℕ) → List ℕ → Saying
accepted H points tasks = writes (0 ∷ H ∷ points ∷ tasks)

-- refused: witness, demand, points examined, blocked task, blocked phase
abbrev refused : (witness demand points task phase : ℕ) → Saying
refused witness demand points task phase = writes (1 ∷ witness ∷ demand ∷ points ∷ task ∷ phase ∷ [])

-- 10/8 2+1; 20/18 9+1: the bytes and the answer as printed
abbrev pub A : Example
A =
    says (0x02 ∷ 0x0A ∷ 0x08 ∷ 0x01 ∷ 0x02 ∷ 0x01 ∷ 0x14 ∷ 0x12 ∷ 0x01 ∷ 0x09 ∷ 0x01 ∷ [])
    is writes (0x00 ∷ 0x14 ∷ 0x02 ∷ 0x01 ∷ 0x03 ∷ 0x03 ∷ 0x04 ∷ [])

-- 10/5 2+1; 20/18 9+1: refused 18 24 3 0 0
abbrev pub B : Example
B = says (two (task_bytes 10 5 2 1) (task_bytes 20 18 9 1)) is refused 18 24 3 0 0

-- 10/5 2+1; 20/20 4+2: refused 5 3 1 2 1
abbrev pub C : Example
C = says (two (task_bytes 10 5 2 1) (task_bytes 20 20 4 2)) is refused 5 3 1 2 1

-- 10/5 2+1; 20/20 4+1: accepted 20 3; counts 1, 4; longest 3, 2
abbrev pub D : Example
D = says (two (task_bytes 10 5 2 1) (task_bytes 20 20 4 1)) is accepted 20 3 (1 ∷ 3 ∷ 4 ∷ 2 ∷ [])

-- 10/3 2+1; 20/20 4+0: refused 3 3 1 2 1
abbrev pub E : Example
E = says (two (task_bytes 10 3 2 1) (task_bytes 20 20 4 0)) is refused 3 3 1 2 1

-- 5/5 5+0: accepted 5 1; count 1; longest 5
abbrev pub F : Example
F = says (one (task_bytes 5 5 5 0)) is accepted 5 1 (1 ∷ 5 ∷ [])

-- 5/5 5+1: refused 5 6 1 0 0
abbrev pub G : Example
G = says (one (task_bytes 5 5 5 1)) is refused 5 6 1 0 0

-- 10/10 4+1 twice: accepted 10 1; counts 1, 1; longest 5, 5
abbrev pub H : Example
H = says (two (task_bytes 10 10 4 1) (task_bytes 10 10 4 1)) is accepted 10 1 (1 ∷ 5 ∷ 1 ∷ 5 ∷ [])

-- 4/4 3+0; 6/6 2+0: refused 12 13 4 0 0
abbrev pub I : Example
I = says (two (task_bytes 4 4 3 0) (task_bytes 6 6 2 0)) is refused 12 13 4 0 0

-- a task with one phase, c 9 and q 0
abbrev nine : Tasks
nine = record { n = 1; T = λ i. 9; D = λ i. 9; m = λ i. 1; c = λ i j. 9; q = λ i j. 0 }

-- 9 in 4 pieces, q 0: lengths 3, 2, 2, 2
abbrev pub J : Example
J = writes (list_to 4 ((phases_of nine).piece_length 0 0 4)) is writes (3 ∷ 2 ∷ 2 ∷ 2 ∷ [])

-- bytes 80 00: turned away 3 0
abbrev pub K : Example
K = says (0x80 ∷ 0x00 ∷ []) is turns_away 3 0

-- no bytes: turned away 2 0
abbrev pub L : Example
L = says [] is turns_away 2 0

abbrev pub worked : List Example
worked = A ∷ B ∷ C ∷ D ∷ E ∷ F ∷ G ∷ H ∷ I ∷ J ∷ K ∷ L ∷ []

-- THE CLAIM, by computation
pub worked_tables : map (λ e. e.given) worked ≡ map (λ e. e.said) worked
unfolding says says_of jobs_within table numbers task phase each numbers_in number_in groups empty empty_arrays encode_in encode_all sum_to max_to any_to find_to jobs demand is_test gcd_in gcd lcm lcm_to horizon_of ceil_div longest_piece budget piece_length longest raise_low lacks blocked_task blocked_phase move_in move_at move walk verdict list_to join_to answer
worked_tables = refl
