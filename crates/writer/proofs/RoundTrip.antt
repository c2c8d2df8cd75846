-- Reading a written table gives it back.
use Prim.Native.Nat.{ℕ, zero, suc, ◌+◌, ◌-◌, ◌*◌, ◌/◌, ◌^◌, ◌≤◌, ◌<◌}
use mathlib.Core.Path.{◌≡◌, refl, ap, ap₂, sym, subst, ◌∙◌}
use mathlib.Core.List.{List, [], ◌∷◌, ◌++◌, append_assoc, append-nil}
use native.Mathlib.Omega.{arith}
use native.Mathlib.Nat.{add-zero, zero-add}
use borrow.Author.Tests.{le-ltb}
use lib.ListN.{length, get_or, drop, length-drop}
use lib.Seq.{drop-drop, drop-append_seam, drop-length}
use Rattle.model.specs.Ranges.{cost_most, horizon_most, jobs_most, phases_most, spacing_most, tasks_most, work_most}
use Rattle.finite.specs.Finite.{join_to}
use Rattle.finite.proofs.laws.Lists.{join_alike, join_from}
use Rattle.groups.specs.Encode.{encode, encode_all}
use Rattle.groups.specs.SinkLaws.{none, append, encode_all_append}
use Rattle.groups.proofs.Numbers.{cons}
use Rattle.groups.proofs.RoundTrip.{round_trip}
use Rattle.model.specs.Arrays.{empty_arrays}
use Rattle.model.proofs.laws.Arrays.{phase_at_lem}
use Rattle.model.specs.TestPoints.{horizon_of}
use Rattle.table.specs.declared.Table.{Table}
use Rattle.table.specs.Parse.{Result, got, number_in, numbers_in, each, phase, task, numbers, table, nothing_behind, empty, with_count, with_task, with_phase}
use Rattle.table.specs.TaskModel.{tasks_of, jobs_within}
use Rattle.table.specs.Valid.{Valid}
use Rattle.writer.specs.Written.{phase_items, task_items, table_bytes}
use Rattle.writer.proofs.Sizes.{PhaseAt, phase_of}
use Rattle.writer.proofs.Columns.{Filled, unfilled, fill, skip, whole}

-- the bytes of the numbers ns stand at `at` of s, and r behind them
abbrev pub Stands : (s : List ℕ) (at : ℕ) (ns r : List ℕ) → Type 0
Stands s at ns r = drop at s ≡ encode_all ns ++ r

-- a number is read back, and the others stand behind it
record Next (least most n : ℕ) (s : List ℕ) (at : ℕ) (ns r : List ℕ) : Type 0 where
  next : ℕ
  is : number_in least most s at ≡ got n next
  place : next ≡ at + length (encode n)
  behind : Stands s next ns r

number_back : (least most n : ℕ) (s : List ℕ) (at : ℕ) (ns r : List ℕ) → least ≤ n → n ≤ most → n < 2 ^ 56 → Stands s at (n ∷ ns) r → Next least most n s at ns r
unfolding encode_all number_in
number_back least most n s at ns r low high small e = record {
  next = at + length (encode n);
  is = rw (round_trip n s (encode_all ns ++ r) at small first, le-ltb n least low, le-ltb most n high);
  place = refl;
  behind = sym (drop-drop (length (encode n)) at s) ∙ ap (drop (length (encode n))) first ∙ drop-append_seam (encode n) (encode_all ns ++ r);
}
  where
    first : drop at s ≡ encode n ++ (encode_all ns ++ r)
    first = e ∙ append_assoc (encode n) (encode_all ns) r

-- the table u that is being filled has t's first i tasks, and t's phases below place k
record Upto (t : Table) (i k : ℕ) (u : Table) : Type 0 where
  count : u.tasks ≡ t.tasks
  spacing : Filled i u.spacing t.spacing
  deadline : Filled i u.deadline t.deadline
  phases : Filled i u.phases t.phases
  work : Filled k u.work t.work
  cost : Filled k u.cost t.cost

-- reading numbers gave a table with the property P and stopped behind them
record Back (x : Result Table) (P : Table → Type 0) (s : List ℕ) (at : ℕ) (ns r : List ℕ) : Type 0 where
  filled : Table
  next : ℕ
  is : x ≡ got filled next
  holds : P filled
  place : next ≡ at + length (encode_all ns)
  behind : drop next s ≡ r

-- a task is read number by number, and then its phases
task_is : {T D m a b c next : ℕ} (i : ℕ) (u : Table) {w : Table} (s : List ℕ) (at : ℕ) → number_in 1 spacing_most s at ≡ got T a → number_in 1 T s a ≡ got D b
    → number_in 1 phases_most s b ≡ got m c → each phase m (8 * i) (with_task i T D m u) s c ≡ got w next → task i u s at ≡ got w next
unfolding task
task_is i u s at p q r e = rw (p, q, r) e

-- numbers told otherwise
back_as : {x : Result Table} {P : Table → Type 0} {s : List ℕ} {at : ℕ} {ms ns r : List ℕ} → ms ≡ ns → Back x P s at ns r → Back x P s at ms r
back_as {x} {P} {s} {at} {ms} {ns} {r} e = subst (λ (l : List ℕ). Back x P s at l r) (sym e)

module _ (t : Table) (v : Valid t) (s : List ℕ) where
  -- so many phases from place k on
  phases_from : (left k : ℕ) → List ℕ
  phases_from left k = join_to left (λ j. phase_items t.work t.cost (k + j))

  phase_more : (left k : ℕ) → phases_from (suc left) k ≡ get_or t.work k 0 ∷ get_or t.cost k 0 ∷ phases_from left (k + 1)
  unfolding phases_from
  phase_more left k = join_from left k (phase_items t.work t.cost)

  no_phases : (k : ℕ) → phases_from 0 k ≡ []
  unfolding phases_from join_to
  no_phases k = refl

  phases_back : (left i k : ℕ) (u : Table) (at : ℕ) (r : List ℕ) → k + left ≤ 256 → ((j : ℕ) → k ≤ j → j < k + left → PhaseAt t.work t.cost j) → Upto t i k u
      → Stands s at (phases_from left k) r → Back (each phase left k u s at) (Upto t i (k + left)) s at (phases_from left k) r
  unfolding each phase numbers_in encode_all
  phases_back zero i k u at r fits h up e = back_as (no_phases k) (record {
    filled = u;
    next = at;
    is = refl;
    holds = subst (λ (n : ℕ). Upto t i n u) (sym (add-zero k)) up;
    place = omega (arith, none);
    behind = rw (no_phases k) at e;
  })
  phases_back (suc left) i k u at r fits h up e =
      let ph = h k (omega arith) (omega arith) in
      let c = get_or t.work k 0 in
      let q = get_or t.cost k 0 in
      let rest = phases_from left (k + 1) in
      let a = number_back 1 work_most c s at (q ∷ rest) r (omega arith) (omega arith) (omega arith) (rw (phase_more left k) at e) in
      let b = number_back 0 cost_most q s a.next rest r (omega arith) (omega arith) (omega arith) a.behind in
      let up' : Upto t i (k + 1) (with_phase k (c ∷ q ∷ []) u) = record {
        count = up.count;
        spacing = up.spacing;
        deadline = up.deadline;
        phases = up.phases;
        work = fill up.work (omega (arith, v.in_range.sized.work));
        cost = fill up.cost (omega (arith, v.in_range.sized.cost));
      } in
      let d = phases_back left i (k + 1) (with_phase k (c ∷ q ∷ []) u) b.next r (omega arith) (λ j l m. h j (omega arith) (omega arith)) up' b.behind in
      back_as (phase_more left k) (record {
        filled = d.filled;
        next = d.next;
        is = rw (a.is, b.is) d.is;
        holds = subst (λ (n : ℕ). Upto t i n d.filled) (one_more k left) d.holds;
        place = omega (arith, a.place, b.place, d.place, cons c (q ∷ rest), cons q rest);
        behind = d.behind;
      })
    where
      one_more : (k left : ℕ) → k + 1 + left ≡ k + suc left
      one_more k left = omega arith

  -- the places of task i behind its phases are 0
  unused : (i a : ℕ) → 8 * i + get_or t.phases i 0 ≤ a → a < 8 * (i + 1) → (get_or t.work a 0 ≡ 0) × (get_or t.cost a 0 ≡ 0)
  unused i a l h =
      let j = a - 8 * i in
      let few : j < 8 = omega arith in
      let there : 8 * i + j ≡ a = omega arith in
      let z = v.in_range.items.no_phase i j (omega arith) in (
        ap (λ (k : ℕ). get_or t.work k 0) (sym there) ∙ sym (phase_at_lem t.work i j few) ∙ z.no_work,
        ap (λ (k : ℕ). get_or t.cost k 0) (sym there) ∙ sym (phase_at_lem t.cost i j few) ∙ z.no_cost,
      )

  -- task i's phases are filled, and so is the task
  task_filled : (i : ℕ) (u : Table) → i < t.tasks → Upto t (i + 1) (8 * i + get_or t.phases i 0) u → Upto t (i + 1) (8 * (i + 1)) u
  task_filled i u h up = record {
    count = up.count;
    spacing = up.spacing;
    deadline = up.deadline;
    phases = up.phases;
    work = skip (8 * (i + 1)) up.work (omega (arith, (v.in_range.items.task i h).phases_at_most)) (λ a l m. (unused i a l m).0);
    cost = skip (8 * (i + 1)) up.cost (omega (arith, (v.in_range.items.task i h).phases_at_most)) (λ a l m. (unused i a l m).1);
  }

  -- the phases of task i are in their ranges
  phase_at_place : (i k : ℕ) → i < t.tasks → 8 * i ≤ k → k < 8 * i + get_or t.phases i 0 → PhaseAt t.work t.cost k
  phase_at_place i k h l m =
      let there : 8 * i + (k - 8 * i) ≡ k = omega arith in
      subst (PhaseAt t.work t.cost) there (phase_of t v i (k - 8 * i) h (omega arith))

  task_back : (i : ℕ) (u : Table) (at : ℕ) (r : List ℕ) → i < t.tasks → Upto t i (8 * i) u → Stands s at (task_items t i) r
      → Back (task i u s at) (Upto t (i + 1) (8 * (i + 1))) s at (task_items t i) r
  unfolding task_items phases_from
  task_back i u at r h up e =
      let k = v.in_range.items.task i h in
      let T = get_or t.spacing i 0 in
      let D = get_or t.deadline i 0 in
      let m = get_or t.phases i 0 in
      let own = phases_from m (8 * i) in
      let a = number_back 1 spacing_most T s at (D ∷ m ∷ own) r (omega arith) (omega arith) (omega arith) e in
      let b = number_back 1 T D s a.next (m ∷ own) r (omega arith) (omega arith) (omega arith) a.behind in
      let c = number_back 1 phases_most m s b.next own r (omega arith) (omega arith) (omega arith) b.behind in
      let up' : Upto t (i + 1) (8 * i) (with_task i T D m u) = record {
        count = up.count;
        spacing = fill up.spacing (omega (arith, v.in_range.sized.spacing, v.in_range.items.tasks));
        deadline = fill up.deadline (omega (arith, v.in_range.sized.deadline, v.in_range.items.tasks));
        phases = fill up.phases (omega (arith, v.in_range.sized.phases, v.in_range.items.tasks));
        work = up.work;
        cost = up.cost;
      } in
      let p = phases_back m (i + 1) (8 * i) (with_task i T D m u) c.next r (omega (arith, v.in_range.items.tasks)) (λ j l n. phase_at_place i j h l n) up' c.behind in
      record {
        filled = p.filled;
        next = p.next;
        is = task_is i u s at a.is b.is c.is p.is;
        holds = task_filled i p.filled h p.holds;
        place = omega (arith, a.place, b.place, c.place, p.place, cons T (D ∷ m ∷ own), cons D (m ∷ own), cons m own);
        behind = p.behind;
      }

  -- so many tasks from task i on
  tasks_from : (left i : ℕ) → List ℕ
  tasks_from left i = join_to left (λ k. task_items t (i + k))

  task_more : (left i : ℕ) → tasks_from (suc left) i ≡ task_items t i ++ tasks_from left (i + 1)
  unfolding tasks_from
  task_more left i = join_from left i (task_items t)

  no_tasks : (i : ℕ) → tasks_from 0 i ≡ []
  unfolding tasks_from join_to
  no_tasks i = refl

  all_tasks_lem : tasks_from t.tasks 0 ≡ join_to t.tasks (task_items t)
  unfolding tasks_from
  all_tasks_lem = join_alike t.tasks (λ k. task_items t (0 + k)) (task_items t) (λ k l. ap (task_items t) (zero-add k))

  tasks_back : (left i : ℕ) (u : Table) (at : ℕ) (r : List ℕ) → i + left ≡ t.tasks → Upto t i (8 * i) u → Stands s at (tasks_from left i) r
      → Back (each task left i u s at) (Upto t t.tasks (8 * t.tasks)) s at (tasks_from left i) r
  unfolding each encode_all
  tasks_back zero i u at r all up e = back_as (no_tasks i) (record {
    filled = u;
    next = at;
    is = refl;
    holds = subst (λ (n : ℕ). Upto t n (8 * n) u) (sym (add-zero i) ∙ all) up;
    place = omega (arith, none);
    behind = rw (no_tasks i) at e;
  })
  tasks_back (suc left) i u at r all up e =
      let rest = tasks_from left (i + 1) in
      let a = task_back i u at (encode_all rest ++ r) (omega arith) up (split (task_items t i) rest at r (rw (task_more left i) at e)) in
      let b = tasks_back left (i + 1) a.filled a.next r (omega arith) a.holds a.behind in
      back_as (task_more left i) (record {
        filled = b.filled;
        next = b.next;
        is = rw a.is b.is;
        holds = b.holds;
        place = omega (arith, a.place, b.place, append (task_items t i) rest);
        behind = b.behind;
      })
    where
      split : (ms ns : List ℕ) (at : ℕ) (r : List ℕ) → Stands s at (ms ++ ns) r → Stands s at ms (encode_all ns ++ r)
      split ms ns at r e = e ∙ ap (λ (l : List ℕ). l ++ r) (encode_all_append ms ns) ∙ append_assoc (encode_all ms) (encode_all ns) r

  -- the places behind the last task are 0
  no_phase : (a : ℕ) → 8 * t.tasks ≤ a → (get_or t.work a 0 ≡ 0) × (get_or t.cost a 0 ≡ 0)
  no_phase a h = unused (a / 8) a (omega (arith, (v.in_range.items.no_task (a / 8) (omega arith)).no_phases)) (omega arith)

  -- a table that is filled to the end is t
  complete : (u : Table) → Upto t t.tasks (8 * t.tasks) u → u ≡ t
  complete u up = λ i. record {
    tasks = up.count i;
    spacing = whole up.spacing (λ a h. (v.in_range.items.no_task a h).no_spacing) i;
    deadline = whole up.deadline (λ a h. (v.in_range.items.no_task a h).no_deadline) i;
    phases = whole up.phases (λ a h. (v.in_range.items.no_task a h).no_phases) i;
    work = whole up.work (λ a h. (no_phase a h).0) i;
    cost = whole up.cost (λ a h. (no_phase a h).1) i;
  }

  nothing_yet : Upto t 0 0 (with_count t.tasks empty)
  unfolding empty empty_arrays
  nothing_yet = record {
    count = refl;
    spacing = unfilled 32 t.spacing v.in_range.sized.spacing;
    deadline = unfilled 32 t.deadline v.in_range.sized.deadline;
    phases = unfilled 32 t.phases v.in_range.sized.phases;
    work = unfilled 256 t.work v.in_range.sized.work;
    cost = unfilled 256 t.cost v.in_range.sized.cost;
  }

  -- The numbers of a valid table that stand at `at` are read back, and reading stops behind them.
  pub record Numbers (at : ℕ) : Type 0 where
    pub first : ℕ
    pub count_is : number_in 1 tasks_most s at ≡ got t.tasks first
    pub tasks_are : each task t.tasks 0 (with_count t.tasks empty) s first ≡ got t (at + length (table_bytes t))

  pub numbers_back : (at : ℕ) (r : List ℕ) → drop at s ≡ table_bytes t ++ r → Numbers at
  numbers_back at r e =
      let rest = tasks_from t.tasks 0 in
      let a = number_back 1 tasks_most t.tasks s at rest r v.in_range.some_task v.in_range.items.tasks (omega (arith, v.in_range.items.tasks)) (rw (← all_tasks_lem) at e) in
      let b = tasks_back t.tasks 0 (with_count t.tasks empty) a.next r (omega arith) nothing_yet a.behind in
      record {
        first = a.next;
        count_is = a.is;
        tasks_are = b.is ∙ ap₂ got (complete b.filled b.holds) (omega (arith, a.place, b.place, cons t.tasks rest, ap (λ (ns : List ℕ). length (encode_all (t.tasks ∷ ns))) all_tasks_lem));
      }

-- nothing behind the last byte
pub nothing_back : (s : List ℕ) (at : ℕ) → drop at s ≡ [] → nothing_behind s at ≡ got tt at
nothing_back s at e = rw (le-ltb at (length s) (omega (arith, simp length-drop at (ap length e))))

-- A valid table whose bytes stand at the end of s is read back.
pub table_back : (t : Table) → Valid t → (s : List ℕ) (at : ℕ) → drop at s ≡ table_bytes t → table s at ≡ got t (at + length (table_bytes t))
unfolding table numbers
table_back t v s at e =
    let n = numbers_back t v s at [] (e ∙ sym (append-nil (table_bytes t))) in
    rw (
      n.count_is,
      n.tasks_are,
      nothing_back s (at + length (table_bytes t)) (sym (drop-drop (length (table_bytes t)) at s) ∙ ap (drop (length (table_bytes t))) e ∙ drop-length (table_bytes t)),
      le-ltb horizon_most (horizon_of (tasks_of t)) v.horizon_at_most,
      le-ltb jobs_most (jobs_within (tasks_of t) (horizon_of (tasks_of t))) v.jobs_at_most,
    )

-- Reading a table's bytes gives the table back.
pub table_round_trip : (t : Table) → Valid t → table (table_bytes t) 0 ≡ got t (length (table_bytes t))
table_round_trip t v = table_back t v (table_bytes t) 0 refl ∙ ap (got t) (omega arith)
