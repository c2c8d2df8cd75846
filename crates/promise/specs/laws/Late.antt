-- MACHINERY: the rules of one tick and their history in general form, with what later requests change as parameters: a lag (how many ticks ago a
-- release may have come when it is heard of), the age of each release, and the choice of step 2. Nobody need believe them: document 01's rules
-- are the instance with no lag, ages 0 and its own choice `best` (laws/Today), and every law of those is an instance of a law of these. Where the
-- two stand side by side, the general one has the name with `late-`.
-- Assumes nothing.
use Rattle.std.specs.Prelude.{◌≡◌, Bool, true, false, not, ◌&&◌, ◌||◌, ℕ, zero, suc, ◌+◌, ◌-◌, ◌≤◌, ◌<◌, min, leb, ltb}
use Rattle.std.specs.Prelude.{if◌then◌else◌}
use Rattle.model.specs.Demand.{blocking, demand}
use Rattle.model.specs.Phase.{Choice, Phases}
use Rattle.model.specs.Tasks.{Tasks}
use Rattle.model.specs.Works.{Counted, longest}
use Rattle.promise.specs.Promise.{Kept, Meets}
use Rattle.promise.specs.Rules.{Answer, Request, State, answer_by, elapse, initial, start, work_at}

-- what a tick is given: the release mask, the age of each release, the flag
pub record LateRequest : Type 0 where
  pub mask : ℕ → Bool
  pub age : ℕ → ℕ
  pub flag : Bool

-- other spacing counts
abbrev pub with_since : (ℕ → ℕ) → State → State
with_since since s = record { busy = s.busy; since = since; left = s.left; phase = s.phase; piece = s.piece; run = s.run; ticks = s.ticks }

-- at the start every task may release at once, with any age
abbrev pub late_initial : Tasks → ℕ → State
late_initial S lag = with_since (λ i. S.T i + lag) (initial S)

-- 1. a set bit is let in when its task exists, has no unfinished job, its count is at least T + age, and its age is at most the lag
unfoldable pub lets_in_at : Tasks → ℕ → State → (ℕ → Bool) → (ℕ → ℕ) → ℕ → Bool
lets_in_at S lag s mask age i = mask i && ltb i S.n && not (s.busy i) && leb (S.T i + age i) (s.since i) && leb (age i) lag

-- a job let in begins with spacing count age and time left D - age
abbrev pub admit_at : Tasks → ℕ → (ℕ → Bool) → (ℕ → ℕ) → State → State
admit_at S lag mask age s =
    record {
      busy = λ i. lets_in_at S lag s mask age i || s.busy i;
      since = λ i. if lets_in_at S lag s mask age i then age i else s.since i;
      left = λ i. if lets_in_at S lag s mask age i then S.D i - age i else s.left i;
      phase = λ i. if lets_in_at S lag s mask age i then 1 else s.phase i;
      piece = λ i. if lets_in_at S lag s mask age i then 1 else s.piece i;
      run = s.run;
      ticks = s.ticks;
    }

-- 2. if no piece runs, the chosen job starts its next piece: by the running task (0: none), which is not set aside
abbrev pub pick_by_at : Tasks → Choice → (State → ℕ) → State → ℕ → State
pick_by_at S x choose s zero = start S x s (choose s)
pick_by_at S x choose s (suc j) = s

abbrev pub pick_by : Tasks → Choice → (State → ℕ) → State → State
pick_by S x choose s = pick_by_at S x choose s s.run

-- task j, of the first n, has an unfinished job
pub record Waiting (s : State) (n j : ℕ) : Type 0 where
  pub task : j < n
  pub unfinished : s.busy j ≡ true

-- what is asked of a choice: 0 where no job is unfinished, and otherwise, from 1, a task with one; which, is nobody's matter here
abbrev pub Chosen : State → ℕ → ℕ → Type 0
Chosen s n zero = (i : ℕ) → i < n → s.busy i ≡ false
Chosen s n (suc j) = Waiting s n j

abbrev pub Chooses : Tasks → (State → ℕ) → Type 0
Chooses S choose = (s : State) → Chosen s S.n (choose s)

-- 4. spacing counts stop at T + lag
abbrev pub elapse_at : Tasks → ℕ → State → State
elapse_at S lag s = with_since (λ i. min (S.T i + lag) (s.since i + 1)) (elapse S s)

-- steps 2 to 4; 3 is document 01's
abbrev pub late_advance : Tasks → Choice → ℕ → (State → ℕ) → Bool → State → State
late_advance S x lag choose flag s = elapse_at S lag (work_at S x flag (pick_by S x choose s) (pick_by S x choose s).run)

-- all four steps, and what the tick answers
abbrev pub late_tick : Tasks → Choice → ℕ → (State → ℕ) → LateRequest → State → State
late_tick S x lag choose r s = late_advance S x lag choose r.flag (admit_at S lag r.mask r.age s)

abbrev pub late_answer : Tasks → Choice → ℕ → (State → ℕ) → LateRequest → State → Answer
late_answer S x lag choose r s =
    let p : State = pick_by S x choose (admit_at S lag r.mask r.age s) in
    answer_by S x (lets_in_at S lag s r.mask r.age) r.flag p p.run

-- the record before tick t, when tick k is given ask k; and the history
unfoldable pub late_record_at : Tasks → Choice → ℕ → (State → ℕ) → (ℕ → LateRequest) → ℕ → State
late_record_at S x lag choose ask zero = late_initial S lag
late_record_at S x lag choose ask (suc t) = late_tick S x lag choose (ask t) (late_record_at S x lag choose ask t)

unfoldable pub late_answer_at : Tasks → Choice → ℕ → (State → ℕ) → (ℕ → LateRequest) → ℕ → Answer
late_answer_at S x lag choose ask t = late_answer S x lag choose (ask t) (late_record_at S x lag choose ask t)

-- ---- the promises

-- the judge's condition with a lag: demand plus blocking plus the lag is at most t, for each t from the shortest deadline on
abbrev pub LateWorks : Tasks → Phases → Choice → ℕ → Type 0
LateWorks S P x lag = (t : ℕ) → Counted S t → demand S (P.budget x) t + blocking S (longest S P x) t + lag ≤ t

-- a request without its ages
abbrev pub ageless : LateRequest → Request
ageless r = record { mask = r.mask; flag = r.flag }

-- the job of task i let in at tick r meets its deadline, counted from its arrival
pub record MeetsFrom (S : Tasks) (x : Choice) (ask : ℕ → LateRequest) (h : ℕ → Answer) (i r : ℕ) : Type 0 where
  pub meets : Meets S x (λ t. ageless (ask t)) h i r
  pub arrival : meets.finish + (ask r).age i < r + S.D i

-- DEMAND 3 with ages: as it stands, and every job meets its deadline counted from its arrival
pub record LateKept (S : Tasks) (x : Choice) (ask : ℕ → LateRequest) (h : ℕ → Answer) : Type 0 where
  pub kept : Kept S x (λ t. ageless (ask t)) h
  pub arrivals : (r i : ℕ) → i < S.n → (h r).let_in i ≡ true → MeetsFrom S x ask h i r
