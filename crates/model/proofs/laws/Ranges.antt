-- The range of a table, number by number: its test decides it; the arrays of a table in range hold that table; a number put in its range is in it.
-- Assumes nothing.
use Rattle.std.specs.Prelude.{◌≡◌, List, [], ◌∷◌, ℕ, ◌+◌, ◌*◌, ◌/◌, ◌%◌, ◌≤◌, ◌<◌, get_or}
use Rattle.std.proofs.Math.Path.{refl}
use Rattle.std.proofs.Common.{sym, ◌∙◌, subst, length-set}
use Rattle.std.proofs.Math.Decide.{dec_lt}
use native.Mathlib.Omega.{arith}
use Rattle.finite.specs.Finite.{Below}
use Rattle.finite.proofs.laws.Decided.{by_test, every, three, under, within_decides}
use Rattle.std.proofs.lemmas.Bool.Decides.{Decides-and, Decides-eqb, Decides-like, Decides-ltb}
use Rattle.std.specs.Bool.{Decides}
use Rattle.finite.proofs.laws.Lists.{length_list, list_of}
use Rattle.finite.proofs.laws.Tests.{leb_decides}
use Rattle.model.specs.Arrays.{Arrays, Sized, arrays_from, as_tasks, empty_arrays, with_count, with_phase, with_task}
use Rattle.model.specs.Ranges.{InTable, NoPhase, NoTask, PhaseIn, PhaseRange, PhaseZero, TaskIn, TaskRange, TaskZero, cost_most, phase_numbers, phases_most, spacing_most, table_test, task_test, tasks_most, work_most}
use Rattle.model.specs.Tasks.{Tasks}
use Rattle.model.proofs.laws.Arrays.{beyond, phase_else, phase_here, phases_of_lem, task_else, task_here, zeros, zeros_phase}
use Rattle.model.proofs.laws.Places.{AllIn, Few, at_task, at_used, number_decides, number_in}

-- ---- the tasks

pub task_decides : (S : Tasks) (i : ℕ) → Decides (task_test S i) ((i < S.n → TaskIn S i) × (¬ (i < S.n) → NoTask S i))
task_decides S i =
    by_test (Decides-ltb i S.n)
    (Decides-like _
    (λ t. record {
      spacing_least = t.0.0;
      spacing_at_most = t.0.1;
      deadline_least = t.1.0;
      deadline_most = t.1.1;
      phases_least = t.2.0;
      phases_at_most = t.2.1;
    })
    (λ t. ((t.spacing_least, t.spacing_at_most), (t.deadline_least, t.deadline_most), (t.phases_least, t.phases_at_most)))
    (three (within_decides 1 spacing_most (S.T i)) (within_decides 1 (S.T i) (S.D i)) (within_decides 1 phases_most (S.m i))))
    (Decides-like _
    (λ t. record { no_spacing = t.0; no_deadline = t.1; no_phases = t.2 })
    (λ t. (t.no_spacing, t.no_deadline, t.no_phases))
    (three (Decides-eqb (S.T i) 0) (Decides-eqb (S.D i) 0) (Decides-eqb (S.m i) 0)))

-- tasks in range have few phases
few_tasks : (S : Tasks) → S.n ≤ tasks_most → Below S.n (TaskIn S) → ((i : ℕ) → S.n ≤ i → NoTask S i) → Few S
few_tasks S tasks task no_task = record { tasks = tasks; phases = λ i. go i (dec_lt i S.n); none = λ i l. (no_task i l).no_phases }
  where
    go : (i : ℕ) → Dec (i < S.n) → S.m i ≤ phases_most
    go i (yes l) = (task i l).phases_at_most
    go i (no l) = omega (arith, (no_task i (omega arith)).no_phases)

pub few_of : (S : Tasks) → InTable S → Few S
few_of S t = few_tasks S t.tasks t.task t.no_task

-- ---- the test

module _ (a : Arrays) (sized : Sized a) where
  abbrev S : Tasks
  S = as_tasks a

  -- the first two tests
  abbrev TasksIn : Type 0
  TasksIn = (S.n ≤ tasks_most) × Below 32 (λ i. (i < S.n → TaskIn S i) × (¬ (i < S.n) → NoTask S i))

  no_task : TasksIn → (i : ℕ) → S.n ≤ i → NoTask S i
  no_task h i l = go (dec_lt i 32)
    where
      go : Dec (i < 32) → NoTask S i
      go (yes k) = (h.1 i k).1 (λ z. absurd (omega arith))
      go (no k) = record {
        no_spacing = beyond a.spacing 32 i sized.spacing (omega arith);
        no_deadline = beyond a.deadline 32 i sized.deadline (omega arith);
        no_phases = beyond a.phases 32 i sized.phases (omega arith);
      }

  few : TasksIn → Few S
  few h = few_tasks S h.0 (λ i l. (h.1 i (omega (arith, h.0))).0 l) (no_task h)

  -- THE TEST DECIDES THE RANGE
  pub table_decides : Decides (table_test S) (InTable S)
  unfolding table_test
  table_decides =
      Decides-like _
      (λ h. let tasks = h.0.0 in record {
        tasks = tasks.0;
        task = λ i l. (tasks.1 i (omega (arith, tasks.0))).0 l;
        no_task = no_task tasks;
        phase = λ i j l k. record { work_least = (h.0.1.0 i j l k).0; work_at_most = (h.0.1.0 i j l k).1; cost_at_most = (h.1.0 i j l k).1 };
        no_phase = λ i j l. record { no_work = h.0.1.1 i j l; no_cost = h.1.1 i j l };
      })
      (λ t. (
        (
          (t.tasks, λ i l. (λ k. t.task i k, λ k. t.no_task i (omega arith))),
          (λ i j l k. ((t.phase i j l k).work_least, (t.phase i j l k).work_at_most), λ i j l. (t.no_phase i j l).no_work),
        ),
        (λ i j l k. (omega arith, (t.phase i j l k).cost_at_most), λ i j l. (t.no_phase i j l).no_cost),
      ))
      (under _
      (under _
      (Decides-and _ _ (leb_decides S.n tasks_most) (every 32 (task_test S) (λ i. (i < S.n → TaskIn S i) × (¬ (i < S.n) → NoTask S i)) (task_decides S)))
      (λ h. number_decides S (few h) 1 work_most a.work sized.work))
      (λ h. number_decides S (few h.0) 0 cost_most a.cost sized.cost))

-- ---- arrays made of a table, and back

pub sized_from : (S : Tasks) → Sized (arrays_from S)
sized_from S = record {
  spacing = length_list 32 S.T;
  deadline = length_list 32 S.D;
  phases = length_list 32 S.m;
  work = length_list 256 (λ p. S.c (p / 8) (p % 8));
  cost = length_list 256 (λ p. S.q (p / 8) (p % 8));
}

pub from_arrays : (a : Arrays) → Sized a → arrays_from (as_tasks a) ≡ a
from_arrays a sized = λ k.
    record {
      tasks = a.tasks;
      spacing = list_of 32 a.spacing 0 sized.spacing k;
      deadline = list_of 32 a.deadline 0 sized.deadline k;
      phases = list_of 32 a.phases 0 sized.phases k;
      work = phases_of_lem a.work sized.work k;
      cost = phases_of_lem a.cost sized.cost k;
    }

pub as_from : (S : Tasks) → InTable S → as_tasks (arrays_from S) ≡ S
as_from S t = λ k.
    record {
      n = S.n;
      T = λ i. at_task S (few_of S t) S.T (λ i l. (t.no_task i l).no_spacing) i k;
      D = λ i. at_task S (few_of S t) S.D (λ i l. (t.no_task i l).no_deadline) i k;
      m = λ i. at_task S (few_of S t) S.m (λ i l. (t.no_task i l).no_phases) i k;
      c = λ i j. at_used S (few_of S t) S.c (λ i j l. (t.no_phase i j l).no_work) i j k;
      q = λ i j. at_used S (few_of S t) S.q (λ i j l. (t.no_phase i j l).no_cost) i j k;
    }

-- two tables in range without a task are one
pub none_alike : (S S' : Tasks) → InTable S → InTable S' → S.n ≡ 0 → S'.n ≡ 0 → S ≡ S'
none_alike S S' t t' e e' = λ k.
    record {
      n = (e ∙ sym e') k;
      T = λ i. ((t.no_task i (none i)).no_spacing ∙ sym (t'.no_task i (none' i)).no_spacing) k;
      D = λ i. ((t.no_task i (none i)).no_deadline ∙ sym (t'.no_task i (none' i)).no_deadline) k;
      m = λ i. ((t.no_task i (none i)).no_phases ∙ sym (t'.no_task i (none' i)).no_phases) k;
      c = λ i j. ((t.no_phase i j (unused i j)).no_work ∙ sym (t'.no_phase i j (unused' i j)).no_work) k;
      q = λ i j. ((t.no_phase i j (unused i j)).no_cost ∙ sym (t'.no_phase i j (unused' i j)).no_cost) k;
    }
  where
    none : (i : ℕ) → S.n ≤ i
    none i = omega arith

    none' : (i : ℕ) → S'.n ≤ i
    none' i = omega arith

    unused : (i j : ℕ) → S.m i ≤ j
    unused i j = omega (arith, (t.no_task i (none i)).no_phases)

    unused' : (i j : ℕ) → S'.m i ≤ j
    unused' i j = omega (arith, (t'.no_task i (none' i)).no_phases)

-- ---- a table that is filled

-- no task yet
module _ (n : ℕ) where
  abbrev none_yet : Tasks
  none_yet = as_tasks (with_count n empty_arrays)

  pub sized_empty : Sized (with_count n empty_arrays)
  unfolding empty_arrays
  sized_empty = record { spacing = refl; deadline = refl; phases = refl; work = refl; cost = refl }

  pub no_task_yet : (i : ℕ) → NoTask none_yet i
  unfolding empty_arrays
  no_task_yet i = record { no_spacing = zeros 32 i; no_deadline = zeros 32 i; no_phases = zeros 32 i }

  pub no_phase_yet : (i j : ℕ) → NoPhase none_yet i j
  unfolding empty_arrays
  no_phase_yet i j = record { no_work = zeros_phase i j; no_cost = zeros_phase i j }

-- a task put
module _ (a : Arrays) (i spacing deadline phases : ℕ) where
  abbrev put_task : Arrays
  put_task = with_task i spacing deadline phases a

  pub sized_task : Sized a → Sized put_task
  sized_task s = record {
    spacing = length-set a.spacing i spacing ∙ s.spacing;
    deadline = length-set a.deadline i deadline ∙ s.deadline;
    phases = length-set a.phases i phases ∙ s.phases;
    work = s.work;
    cost = s.cost;
  }

  pub task_put : Sized a → i < 32 → (1 ≤ spacing) × (spacing ≤ spacing_most) → (1 ≤ deadline) × (deadline ≤ spacing) → (1 ≤ phases) × (phases ≤ phases_most)
      → TaskIn (as_tasks put_task) i
  task_put s l T D m =
      let e_t = task_here a.spacing spacing i i refl (omega (arith, s.spacing)) in
      let e_d = task_here a.deadline deadline i i refl (omega (arith, s.deadline)) in
      let em = task_here a.phases phases i i refl (omega (arith, s.phases)) in
      record {
        spacing_least = omega (arith, e_t);
        spacing_at_most = omega (arith, e_t);
        deadline_least = omega (arith, e_d);
        deadline_most = omega (arith, e_t, e_d);
        phases_least = omega (arith, em);
        phases_at_most = omega (arith, em);
      }

  -- every other task is as it was, and so is every phase
  module _ (b : ℕ) (other : b ≡ i → ⊥) where
    abbrev e_t : (as_tasks a).T b ≡ (as_tasks put_task).T b
    e_t = sym (task_else a.spacing spacing b i other)

    abbrev e_d : (as_tasks a).D b ≡ (as_tasks put_task).D b
    e_d = sym (task_else a.deadline deadline b i other)

    pub phases_else : (as_tasks a).m b ≡ (as_tasks put_task).m b
    phases_else = sym (task_else a.phases phases b i other)

    pub task_kept : TaskIn (as_tasks a) b → TaskIn (as_tasks put_task) b
    task_kept h = subst (λ (P : Type 0). P) (λ k. TaskRange (e_t k) (e_d k) (phases_else k)) h

    pub no_task_kept : NoTask (as_tasks a) b → NoTask (as_tasks put_task) b
    no_task_kept h = subst (λ (P : Type 0). P) (λ k. TaskZero (e_t k) (e_d k) (phases_else k)) h

-- a phase put
module _ (a : Arrays) (k : ℕ) (numbers : List ℕ) where
  abbrev put_phase : Arrays
  put_phase = with_phase k numbers a

  pub sized_phase : Sized a → Sized put_phase
  sized_phase s = record {
    spacing = s.spacing;
    deadline = s.deadline;
    phases = s.phases;
    work = length-set a.work k (get_or numbers 0 0) ∙ s.work;
    cost = length-set a.cost k (get_or numbers 1 0) ∙ s.cost;
  }

  -- every other phase is as it was, and so is every task
  module _ (b j : ℕ) (other : j < 8 → 8 * b + j ≡ k → ⊥) where
    abbrev ec : (as_tasks a).c b j ≡ (as_tasks put_phase).c b j
    ec = sym (phase_else a.work (get_or numbers 0 0) b j k other)

    abbrev eq : (as_tasks a).q b j ≡ (as_tasks put_phase).q b j
    eq = sym (phase_else a.cost (get_or numbers 1 0) b j k other)

    pub phase_kept : PhaseIn (as_tasks a) b j → PhaseIn (as_tasks put_phase) b j
    phase_kept h = subst (λ (P : Type 0). P) (λ t. PhaseRange (ec t) (eq t)) h

    pub no_phase_kept : NoPhase (as_tasks a) b j → NoPhase (as_tasks put_phase) b j
    no_phase_kept h = subst (λ (P : Type 0). P) (λ t. PhaseZero (ec t) (eq t)) h

-- numbers of a phase, each in its range
pub phase_put : (a : Arrays) (k : ℕ) (numbers : List ℕ) → Sized a → AllIn phase_numbers numbers → (b j : ℕ) → j < 8 → 8 * b + j ≡ k → k < 256
    → PhaseIn (as_tasks (with_phase k numbers a)) b j
phase_put a k numbers s h b j few e l =
    let ec = phase_here a.work (get_or numbers 0 0) b j k few e (omega (arith, s.work)) in
    let eq = phase_here a.cost (get_or numbers 1 0) b j k few e (omega (arith, s.cost)) in
    let c = number_in phase_numbers numbers h 0 (omega arith) in
    let q = number_in phase_numbers numbers h 1 (omega arith) in
    record { work_least = omega (arith, ec, c.0); work_at_most = omega (arith, ec, c.1); cost_at_most = omega (arith, eq, q.1) }

-- and back: a phase in range has its numbers in the ranges of the list
pub phase_numbers_lem : (S : Tasks) (i j : ℕ) → PhaseIn S i j → AllIn phase_numbers (S.c i j ∷ S.q i j ∷ [])
phase_numbers_lem S i j p = (p.work_least, p.work_at_most, (omega arith, p.cost_at_most, tt))
