-- Document 01's run of table A, computed from the rules.
-- Assumes nothing.
use Rattle.std.specs.Prelude.{◌≡◌, refl, Bool, false, cond, ◌&&◌, ◌||◌, List, [], ◌∷◌, ℕ, zero, suc, ◌≤◌, eqb, get_or}
use Rattle.std.proofs.Common.{arith}
use Rattle.finite.specs.Finite.{Below, any_to, find_to, list_to, max_to, sum_to}
use Rattle.model.specs.Arrays.{as_tasks, empty_arrays, with_count, with_phase, with_task}
use Rattle.model.specs.Demand.{demand, jobs}
use Rattle.model.specs.Phase.{Choice, budget, ceil_div, longest_piece, phases_of, piece_length}
use Rattle.model.specs.Tasks.{Sane, Tasks}
use Rattle.model.specs.TestPoints.{gcd, gcd_in, horizon_of, is_test, lcm, lcm_to}
use Rattle.model.specs.Verdict.{Verdict, accepted, refused}
use Rattle.model.specs.Walk.{blocked_phase, blocked_task, lacks, move, move_at, move_in, raise_low, verdict, walk}
use Rattle.model.specs.Works.{longest}
use Rattle.promise.specs.History.{answer_at, record_at}
use Rattle.promise.specs.Promise.{Kept}
use Rattle.promise.specs.Rules.{Answer, Request, best, lets_in, outcome, stated}
use Rattle.promise.proofs.laws.Kept.{verdict_kept}

-- 10/8 2+1; 20/18 9+1
abbrev table_a : Tasks
table_a = as_tasks (with_phase 8 (9 ∷ 1 ∷ []) (with_task 1 20 18 1 (with_phase 0 (2 ∷ 1 ∷ []) (with_task 0 10 8 1 (with_count 2 empty_arrays)))))

-- its counts, 1 and 3
abbrev counts_a : Choice
counts_a i j = get_or (1 ∷ 3 ∷ []) i 0

-- both are released in tick 0; task 1 requests in tick 9, and again in tick 10; nothing is flagged
abbrev requests : ℕ → Request
requests t = record { mask = λ i. eqb t 0 || (eqb i 0 && (eqb t 9 || eqb t 10)); flag = false }

-- a number of each of the first 18 ticks
abbrev column : (Answer → ℕ) → List ℕ
column f = list_to 18 (λ t. f (answer_at table_a counts_a requests t))

-- 1 where it holds
abbrev one_if : Bool → ℕ
one_if b = cond b 1 0

-- of each tick: the task that ran; 1 where its piece ended; 1 where its job finished; 1 where task 1 was let in
pub record Lines : Type 0 where
  pub ran : List ℕ
  pub ended : List ℕ
  pub finished : List ℕ
  pub first_in : List ℕ

pub run_of_a : ◌≡◌
    {A = Lines}
    (record {
      ran = column (λ a. a.ran);
      ended = column (λ a. one_if a.ended);
      finished = column (λ a. one_if a.finished);
      first_in = column (λ a. one_if (a.let_in 0));
    })
    (record {
      ran = 1 ∷ 1 ∷ 1 ∷ 2 ∷ 2 ∷ 2 ∷ 2 ∷ 2 ∷ 2 ∷ 2 ∷ 2 ∷ 1 ∷ 1 ∷ 1 ∷ 2 ∷ 2 ∷ 2 ∷ 2 ∷ [];
      ended = 0 ∷ 0 ∷ 1 ∷ 0 ∷ 0 ∷ 0 ∷ 1 ∷ 0 ∷ 0 ∷ 0 ∷ 1 ∷ 0 ∷ 0 ∷ 1 ∷ 0 ∷ 0 ∷ 0 ∷ 1 ∷ [];
      finished = 0 ∷ 0 ∷ 1 ∷ 0 ∷ 0 ∷ 0 ∷ 0 ∷ 0 ∷ 0 ∷ 0 ∷ 0 ∷ 0 ∷ 0 ∷ 1 ∷ 0 ∷ 0 ∷ 0 ∷ 1 ∷ [];
      first_in = 1 ∷ 0 ∷ 0 ∷ 0 ∷ 0 ∷ 0 ∷ 0 ∷ 0 ∷ 0 ∷ 0 ∷ 1 ∷ 0 ∷ 0 ∷ 0 ∷ 0 ∷ 0 ∷ 0 ∷ 0 ∷ [];
    })
unfolding empty_arrays list_to record_at answer_at lets_in best outcome stated piece_length
run_of_a = refl

-- ---- the judge accepts table A, and so the promise is kept for it: what demand 3 requests of a table can be met

-- the counts of an accepted verdict
abbrev counts_of : Verdict → Choice
counts_of (accepted x p) = x
counts_of (refused w d p i j) = λ i j. 0

-- the verdict on table A
abbrev verdict_a : Verdict
verdict_a = verdict table_a (phases_of table_a) (horizon_of table_a)

accepted_a : verdict_a ≡ accepted (counts_of verdict_a) 2
unfolding empty_arrays sum_to max_to any_to find_to jobs demand is_test gcd_in gcd lcm lcm_to horizon_of ceil_div longest_piece budget longest raise_low lacks blocked_task blocked_phase move_in move_at move walk verdict
accepted_a = refl

sane_a : Sane table_a
unfolding empty_arrays
sane_a =
    record {
      some_task = omega arith;
      D_least = both (λ i. 1 ≤ table_a.D i) (omega arith) (omega arith);
      D_most = both (λ i. table_a.D i ≤ table_a.T i) (omega arith) (omega arith);
      some_phase = both (λ i. 1 ≤ table_a.m i) (omega arith) (omega arith);
      some_work = λ i j l k. both (λ i. Below (table_a.m i) (λ j. 1 ≤ table_a.c i j)) (one (λ j. 1 ≤ table_a.c 0 j) (omega arith)) (one (λ j. 1 ≤ table_a.c 1 j) (omega arith)) i l j k;
    }
  where
    one : (P : ℕ → Type 0) → P 0 → Below 1 P
    one P a zero l = a
    one P a (suc j) l = absurd (omega arith)

    both : (P : ℕ → Type 0) → P 0 → P 1 → Below 2 P
    both P a b zero l = a
    both P a b (suc zero) l = b
    both P a b (suc (suc i)) l = absurd (omega arith)

pub kept_a : (ask : ℕ → Request) → Kept table_a (counts_of verdict_a) ask (λ t. answer_at table_a (counts_of verdict_a) ask t)
kept_a = verdict_kept table_a sane_a (counts_of verdict_a) 2 accepted_a
