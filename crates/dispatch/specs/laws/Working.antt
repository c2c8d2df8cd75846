-- Step 3 on the record's arrays, whichever way it goes: nothing runs, the piece goes on, or it ended and the next piece is due, or the next phase,
-- or the job is finished.
-- Assumes nothing.
use Rattle.std.specs.Prelude.{◌≡◌, Bool, ◌&&◌, ◌||◌, leb, get_or, set}
use Rattle.std.proofs.Math.Path.{refl, ap₂}
use Rattle.std.proofs.Common.{sym, ap, ◌∙◌, true≢false, arith, length-set, le-ltb, lt-ltb, ne_eqb, ext_get_or, get_or-set_other, get_or-set_same}
use Rattle.std.proofs.Math.Bool.{true, false, cond, not}
use Prim.Native.Nat.{ℕ, zero, suc, ◌+◌, ◌-◌, ◌*◌, ◌≤◌, ◌<◌}
use Rattle.std.proofs.Math.Decide.{ℕ_discrete}
use Rattle.std.proofs.Math.Dec.{eqb, ltb, eqb-suc-zero}
use Rattle.finite.specs.Masks.{digit}
use Rattle.finite.specs.Finite.{list_to}
use Rattle.finite.proofs.laws.Lists.{get_or_list, length_list}
use Rattle.std.proofs.lemmas.Bool.{and_parts, cond-false, cond-true}
use Rattle.model.specs.Phase.{Choice}
use Rattle.model.specs.Tasks.{Tasks}
use Rattle.model.proofs.laws.Arrays.{phase_at_lem}
use Rattle.promise.specs.Rules.{PieceOutcome, State, after, answer_by, done, ends_of, finishes_of, next_phase, next_piece, on, outcome, put, work_at}
use Rattle.promise.proofs.laws.Remaining.{At, RunsAt, put_other, put_same}
use Rattle.records.specs.Ranges.{in_range}
use Rattle.records.specs.Record.{state_in}
use Rattle.records.specs.Held.{counts_in, tasks_in}
use Rattle.records.specs.Rules.{due_of}
use Rattle.records.specs.declared.Dispatcher.{Dispatcher}
use Rattle.records.specs.declared.rules.Due.{Due}
use Rattle.records.proofs.laws.Fields.{Fields, Long}
use Rattle.records.proofs.laws.InRange.{range_fields}
use Rattle.dispatch.specs.Steps.{WorksOn, in_state, ran_of}
use Rattle.dispatch.specs.declared.steps.Ran.{Ran}
use Rattle.dispatch.specs.laws.Keeps.{work_keeps}
use Rattle.dispatch.specs.laws.Reads.{few, few_phases, own_keeps, ranged, still_in_range}
use Rattle.dispatch.specs.laws.Updates.{as_it_is, in_state_lem, jobs_alike, own_state, with_jobs, with_run, with_state}

-- its phase has a further piece; its job has a further phase
abbrev pub more_pieces : Due → Bool
more_pieces due = ltb due.piece due.pieces

abbrev pub more_phases : Due → Bool
more_phases due = ltb due.phase due.phases

-- what is answered of the piece due of the running task (0 for none), and of whether it ended
abbrev pub told_of : Due → Bool → Ran
told_of due ended = record {
  task = due.task;
  phase = cond (eqb due.task 0) 0 due.phase;
  piece = cond (eqb due.task 0) 0 due.piece;
  ended = ended;
  finished = ended && not (more_pieces due || more_phases due);
}

-- ---- one place of an array

-- set at one place of a list given place by place
set_places : (f g : ℕ → ℕ) (j v : ℕ) → j < 32 → g j ≡ v → ((i : ℕ) → (i ≡ j → ⊥) → g i ≡ f i) → set (list_to 32 f) j v ≡ list_to 32 g
set_places f g j v l here there =
    ext_get_or 0 (set (list_to 32 f) j v) (list_to 32 g)
    (length-set (list_to 32 f) j v ∙ length_list 32 f ∙ sym (length_list 32 g))
    (λ i h. go i (omega (arith, length-set (list_to 32 f) j v, length_list 32 f)) (ℕ_discrete i j))
  where
    go : (i : ℕ) → i < 32 → Dec (i ≡ j) → get_or (set (list_to 32 f) j v) i 0 ≡ get_or (list_to 32 g) i 0
    go i h (yes e) =
        ap (λ z. get_or (set (list_to 32 f) j v) z 0) e ∙ get_or-set_same (list_to 32 f) j v 0 (omega (arith, length_list 32 f)) ∙ sym here ∙
        sym (get_or_list 32 g j 0 l) ∙ ap (λ z. get_or (list_to 32 g) z 0) (sym e)
    go i h (no e) =
        get_or-set_other (list_to 32 f) j i v 0 e ∙ get_or_list 32 f i 0 h ∙ sym (there i e) ∙ sym (get_or_list 32 g i 0 h)

-- set to v
set_put : (f : ℕ → ℕ) (j v : ℕ) → j < 32 → set (list_to 32 f) j v ≡ list_to 32 (put f j v)
set_put f j v l = set_places f (put f j v) j v l (put_same f j v) (put_other f j v)

-- no job is unfinished at j
set_false : (f : ℕ → Bool) (j : ℕ) → j < 32 → set (list_to 32 (λ i. digit (f i))) j 0 ≡ list_to 32 (λ i. digit (put f j false i))
set_false f j l =
    set_places (λ i. digit (f i)) (λ i. digit (put f j false i)) j 0 l (ap digit (put_same f j false)) (λ i n. ap digit (put_other f j false i n))

-- what is due of the running task
abbrev due_in : Dispatcher → Due
due_in d = due_of d d.running

-- the ticks of the running piece are used, or the flag is set; a piece runs, and ends
abbrev used_up : Dispatcher → Bool → Bool
used_up d flag = flag || leb d.ticks 1

abbrev pub ends_now : Dispatcher → Bool → Bool
ends_now d flag = not (eqb d.running 0) && used_up d flag

-- what the code has found before it changes the record: what is due, what is told of it, and the place of the running task
pub record Found (d : Dispatcher) (flag : Bool) (due : Due) (ran : Ran) (i : ℕ) : Type 0 where
  pub long : Long d
  pub range : in_range d ≡ true
  pub is : due ≡ due_in d
  pub told : ran ≡ told_of due (ends_now d flag)
  pub at : i ≡ d.running - 1

module _ {d : Dispatcher} {flag : Bool} {due : Due} {ran : Ran} {i : ℕ} (found : Found d flag due ran i) where
  abbrev S : Tasks
  S = tasks_in d

  abbrev x : Choice
  x = counts_in d

  abbrev s : State
  s = state_in d

  abbrev f : Fields d
  f = range_fields d found.long found.range

  abbrev long : Long d
  long = found.long

  -- where the running piece is
  record Place (j : ℕ) : Type 0 where
    task : j < 32
    here : due_in d ≡ record { task = suc j; phase = s.phase j; piece = s.piece j; pieces = x j (s.phase j - 1); phases = S.m j }

  place : (j : ℕ) → d.running ≡ suc j → Place j
  place j e =
      let w : RunsAt S x s j = f.jobs.runs j e in
      let at : At S x j (s.phase j) (s.piece j) = f.jobs.job j w.task w.unfinished in
      let l : s.phase j - 1 < 8 = omega (arith, at.phase_least, at.phase_at_most, few_phases d f j w.task) in
      let i : d.running - 1 ≡ j = omega arith in
      record {
        task = omega (arith, w.task, few d f);
        here =
            (λ k. record { task = e k; phase = s.phase (i k); piece = s.piece (i k); pieces = get_or d.counts (8 * i k + (s.phase (i k) - 1)) 0; phases = S.m (i k) }) ∙
            (λ k. record { task = suc j; phase = s.phase j; piece = s.piece j; pieces = sym (phase_at_lem d.counts j (s.phase j - 1) l) k; phases = S.m j });
      }

  -- ---- what is answered

  ends_is : (b y z : Bool) → b ≡ ends_of (cond b (cond y next_piece (cond z next_phase done)) on)
  ends_is true true z = refl
  ends_is true false true = refl
  ends_is true false false = refl
  ends_is false y z = refl

  finishes_is : (b y z : Bool) → (b && not (y || z)) ≡ finishes_of (cond b (cond y next_piece (cond z next_phase done)) on)
  finishes_is true true z = refl
  finishes_is true false true = refl
  finishes_is true false false = refl
  finishes_is false y z = refl

  answers : (entered : ℕ → Bool) → told_of (due_in d) (ends_now d flag) ≡ ran_of (answer_by S x entered flag s d.running)
  unfolding outcome
  answers entered = go d.running refl
    where
      go : (r : ℕ) → d.running ≡ r → told_of (due_in d) (ends_now d flag) ≡ ran_of (answer_by S x entered flag s r)
      go zero e =
          λ k. record {
            task = e k;
            phase = cond (eqb (e k) 0) 0 (due_of d d.running).phase;
            piece = cond (eqb (e k) 0) 0 (due_of d d.running).piece;
            ended = not (eqb (e k) 0) && used_up d flag;
            finished = not (eqb (e k) 0) && used_up d flag && not (more_pieces (due_in d) || more_phases (due_in d));
          }
      go (suc j) e =
          let p : Place j = place j e in
          let some : eqb (suc j) 0 ≡ false = eqb-suc-zero j in
          ap₂ (λ w r. told_of w (not (eqb r 0) && used_up d flag)) p.here e ∙
          (λ k. record {
            task = suc j;
            phase = cond (some k) 0 (s.phase j);
            piece = cond (some k) 0 (s.piece j);
            ended = not (some k) && used_up d flag;
            finished = (not (some k) && used_up d flag) && not (ltb (s.piece j) (x j (s.phase j - 1)) || ltb (s.phase j) (S.m j));
          }) ∙
          (λ k. record {
            task = suc j;
            phase = s.phase j;
            piece = s.piece j;
            ended = ends_is (used_up d flag) (ltb (s.piece j) (x j (s.phase j - 1))) (ltb (s.phase j) (S.m j)) k;
            finished = finishes_is (used_up d flag) (ltb (s.piece j) (x j (s.phase j - 1))) (ltb (s.phase j) (S.m j)) k;
          })

  -- ---- what the tests say

  -- the place of the running task, from the running task's number
  runs_at : (d.running ≡ 0 → ⊥) → d.running ≡ suc i
  runs_at n = go d.running refl
    where
      go : (r : ℕ) → d.running ≡ r → d.running ≡ suc i
      go zero e = absurd (n e)
      go (suc j) e = omega (arith, found.at)

  ends_runs : ends_now d flag ≡ true → d.running ≡ 0 → ⊥
  ends_runs e z = true≢false (sym e ∙ ap (λ r. not (eqb r 0) && used_up d flag) z)

  ends_used : ends_now d flag ≡ true → used_up d flag ≡ true
  ends_used e = (and_parts (not (eqb d.running 0)) (used_up d flag) e).1

  on_used : ends_now d flag ≡ false → (d.running ≡ 0 → ⊥) → used_up d flag ≡ false
  on_used e n = sym (ap (λ b. not b && used_up d flag) (ne_eqb d.running 0 n)) ∙ e

  -- a piece that runs has a tick left
  pub ticks_some : (d.running ≡ 0 → ⊥) → 1 ≤ d.ticks
  ticks_some n = (f.jobs.runs i (runs_at n)).some

  -- ---- the record after it, whichever way it goes
  works_as : (r : Dispatcher) → r ≡ in_state d (work_at S x flag s d.running) → WorksOn d flag r ran
  works_as r moved =
      record {
        moved = moved;
        answered = λ entered. found.told ∙ ap (λ (w : Due). told_of w (ends_now d flag)) found.is ∙ answers entered;
        kept = still_in_range d f (work_at S x flag s d.running) (work_keeps S x (ranged d f) s (own_keeps d f) flag) r moved;
      }

  -- nothing runs
  pub works_none : d.running ≡ 0 → WorksOn d flag d ran
  works_none e = works_as d (as_it_is d long f ∙ ap (λ r. in_state d (work_at S x flag s r)) (sym e))

  -- the running piece has the outcome o
  works_to : d.running ≡ suc i → (o : PieceOutcome) (r : Dispatcher) → outcome S x flag s i ≡ o → r ≡ with_state d (after s i o) → WorksOn d flag r ran
  works_to runs o r e h =
      works_as r (h ∙ in_state_lem d long f (after s i o) ∙ ap (λ o. in_state d (after s i o)) (sym e) ∙ ap (λ r. in_state d (work_at S x flag s r)) (sym runs))

  -- the piece goes on
  pub works_on : ends_now d flag ≡ false → (d.running ≡ 0 → ⊥) → WorksOn d flag (with_run d d.running (d.ticks - 1)) ran
  unfolding outcome
  works_on u n =
      works_to (runs_at n) on _ (cond-false (used_up d flag) _ on (on_used u n))
      (ap (λ (r : Dispatcher). with_run r d.running (d.ticks - 1)) (own_state d long f))

  module _ (ends : ends_now d flag ≡ true) where
    abbrev runs : d.running ≡ suc i
    runs = runs_at (ends_runs ends)

    pub below : i < 32
    below = (place i runs).task

    here : due ≡ record { task = suc i; phase = s.phase i; piece = s.piece i; pieces = x i (s.phase i - 1); phases = S.m i }
    here = found.is ∙ (place i runs).here

    -- the tests, as the rules make them
    more_is : (b : Bool) → more_pieces due ≡ b → ltb (s.piece i) (x i (s.phase i - 1)) ≡ b
    more_is b e = sym (ap more_pieces here) ∙ e

    further_is : (b : Bool) → more_phases due ≡ b → ltb (s.phase i) (S.m i) ≡ b
    further_is b e = sym (ap more_phases here) ∙ e

    -- the next piece is due
    pub works_piece : due.piece < due.pieces → WorksOn d flag (with_jobs d d.since d.unfinished d.left d.phase (set d.piece i (due.piece + 1)) 0 0) ran
    unfolding outcome
    works_piece l =
        works_to runs next_piece _ (cond-true (used_up d flag) _ on (ends_used ends) ∙ cond-true _ next_piece _ (more_is true (lt-ltb _ _ l)))
        (ap₂ (λ (r : Dispatcher) (w : Due). with_jobs r r.since r.unfinished r.left r.phase (set r.piece i (w.piece + 1)) 0 0) (own_state d long f) here ∙
        jobs_alike d refl refl refl refl (set_put s.piece i (s.piece i + 1) below) refl refl)

    -- the first piece of the next phase is due
    pub works_phase : due.pieces ≤ due.piece → due.phase < due.phases →
        WorksOn d flag (with_jobs d d.since d.unfinished d.left (set d.phase i (due.phase + 1)) (set d.piece i 1) 0 0) ran
    unfolding outcome
    works_phase l k =
        works_to runs next_phase _
        (cond-true (used_up d flag) _ on (ends_used ends) ∙ cond-false _ next_piece _ (more_is false (le-ltb _ _ l)) ∙ cond-true _ next_phase done (further_is true (lt-ltb _ _ k)))
        (ap₂ (λ (r : Dispatcher) (w : Due). with_jobs r r.since r.unfinished r.left (set r.phase i (w.phase + 1)) (set r.piece i 1) 0 0) (own_state d long f) here ∙
        jobs_alike d refl refl refl (set_put s.phase i (s.phase i + 1) below) (set_put s.piece i 1 below) refl refl)

    -- the job is finished
    pub works_done : due.pieces ≤ due.piece → due.phases ≤ due.phase →
        WorksOn d flag (with_jobs d d.since (set d.unfinished i 0) (set d.left i 0) (set d.phase i 0) (set d.piece i 0) 0 0) ran
    unfolding outcome
    works_done l k =
        works_to runs done _
        (cond-true (used_up d flag) _ on (ends_used ends) ∙ cond-false _ next_piece _ (more_is false (le-ltb _ _ l)) ∙ cond-false _ next_phase done (further_is false (le-ltb _ _ k)))
        (ap (λ (r : Dispatcher). with_jobs r r.since (set r.unfinished i 0) (set r.left i 0) (set r.phase i 0) (set r.piece i 0) 0 0) (own_state d long f) ∙
        jobs_alike d refl (set_false s.busy i below) (set_put s.left i 0 below) (set_put s.phase i 0 below) (set_put s.piece i 0 below) refl refl)
