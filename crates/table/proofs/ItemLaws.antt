-- The items of a table, by what the functions below each answer: a number, a phase, a task, the whole. Assumes nothing.
use Prim.Native.Nat.{ℕ, ◌+◌, ◌-◌, ◌*◌, ◌≤◌, ◌<◌}
use mathlib.Core.Path.{◌≡◌, refl, ap, sym, ◌∙◌}
use mathlib.Core.List.{List, [], ◌∷◌}
use mathlib.Core.Bool.{Bool, true, false}
use native.Mathlib.Nat.{add-sub_cancel_left, sub-zero}
use lib.Dec.{ltb}
use lib.ListN.{length}
use borrow.Author.Tests.{lt-ltb, le-ltb, ltb-false}
use Rattle.std.specs.Prelude as std
use Rattle.std.specs.Prelude.{if◌then◌else◌, IsErrAnd, MatchResult}
use Rattle.groups.specs.declared.Number.{Number}
use Rattle.groups.specs.declared.NumberError.{NumberError}
use Rattle.groups.specs.declared.NumberError.TheVariants.{Ends, Malformed}
use Rattle.groups.specs.Number.{number_at}
use Rattle.model.specs.Ranges.{cost_most, phases_most, spacing_most, tasks_most, work_most}
use Rattle.table.specs.declared.Reason.TheVariants.{OutOfRange, Trailing}
use Rattle.table.specs.declared.Table.{Table}
use Rattle.table.specs.declared.items.Reader.{Reader}
use Rattle.table.specs.declared.TurnedAway.{TurnedAway}
use Rattle.table.specs.Parse.{Result, got, away, Parser, and_then, ◌>>=◌, ◌>>◌, done, turned_away, tested, number_in, numbers_in, each, phase, task, nothing_behind, numbers, table, empty, with_count, with_phase, with_task, parsed_of, limit_of, reading_of}
use Rattle.table.specs.Steps.{Reads, all_tasks, found_at, number_of, with_read}
use Rattle.table.specs.TaskModel.{tasks_of}
use Rattle.table.specs.Valid.{InRange}
use Rattle.table.proofs.Ranges.{limited_by, limited_reading}
use Rattle.table.proofs.Steps.{reads_done, next, stop, was_parsed, was_not_parsed}
use Rattle.table.proofs.Valid.{numbers_in_range}

-- ---- a number

-- an error that is passed on
pub passed_on : {T E : Type 0} {e : E} (r : std.Result T E) → IsErrAnd r (λ (x : E). x ≡ e) → r ≡ std.Err e
passed_on (std.Ok x) h = absurd h
passed_on (std.Err y) h = ap std.Err h

-- what is found at a place
module _ (least most : ℕ) (s : List ℕ) (at : ℕ) {found : std.Result Number TurnedAway} (is : found ≡ found_at s at (number_at s at)) where
  -- no number
  pub none : {a : TurnedAway} → found ≡ std.Err a → found ≡ number_of (number_in least most s at)
  unfolding number_in
  none {a} e = by (number_at s at) is
    where
      by : (r : std.Result Number NumberError) → found ≡ found_at s at r → found ≡ number_of (tested least most r s at)
      by (std.Ok n) told = cc
      by (std.Err Ends) told = told
      by (std.Err Malformed) told = told

  module _ {n : Number} (e : found ≡ std.Ok n) where
    read_is : std.Ok n ≡ number_at s at
    read_is = by (number_at s at) is
      where
        by : (r : std.Result Number NumberError) → found ≡ found_at s at r → std.Ok n ≡ r
        by (std.Ok m) told = cc
        by (std.Err Ends) told = cc
        by (std.Err Malformed) told = cc

    -- a number, outside its range or inside
    pub outside : (least ≤ n.value → n.value ≤ most → ⊥) → std.Err (turned_away OutOfRange at) ≡ number_of (number_in least most s at)
    unfolding number_in
    outside not = go (ltb n.value least) (ltb most n.value) refl refl ∙ ap (λ (r : std.Result Number NumberError). number_of (tested least most r s at)) read_is
      where
        go : (a b : Bool) → ltb n.value least ≡ a → ltb most n.value ≡ b
            → std.Err (turned_away OutOfRange at) ≡ number_of (if a then away OutOfRange at else if b then away OutOfRange at else got n.value n.next)
        go true b p q = refl
        go false true p q = refl
        go false false p q = absurd (not (ltb-false n.value least p) (ltb-false most n.value q))

    pub inside : least ≤ n.value → n.value ≤ most → std.Ok n ≡ number_of (number_in least most s at)
    unfolding number_in
    inside low high =
        rw (sym read_is, le-ltb n.value least low, le-ltb most n.value high)

-- a part that was turned away, and the error that is passed on
pub stops : {A B : Type 0} {p : Parser A} {b m : Reader} {e : TurnedAway} (a : A) (r : std.Result B TurnedAway) → Reads p b m (std.Err e)
    → IsErrAnd r (λ y. y ≡ e) → Reads p b m (with_read a r)
stops a r x h = rw (passed_on r h) x

-- ---- a phase

module _ (k : ℕ) (t : Table) {b m : Reader} where
  pub no_work : {e : TurnedAway} → Reads (number_in 1 work_most) b m (std.Err e) → Reads (phase k t) b m (std.Err e)
  unfolding phase numbers_in
  no_work x = stop _ (stop _ x)

  module _ {work : ℕ} (w : Reads (number_in 1 work_most) b m (std.Ok work)) {a : Reader} where
    pub no_cost : {e : TurnedAway} → Reads (number_in 0 cost_most) m a (std.Err e) → Reads (phase k t) b a (std.Err e)
    unfolding phase numbers_in
    no_cost x = stop _ (next _ w (stop _ (stop _ x)))

    pub phase_by : {cost : ℕ} → Reads (number_in 0 cost_most) m a (std.Ok cost) → Reads (phase k t) b a (std.Ok (with_phase k (work ∷ cost ∷ []) t))
    unfolding phase numbers_in
    phase_by {cost} q = next _ (next _ w (next _ (next _ q (reads_done (cost ∷ []))) (reads_done (work ∷ cost ∷ [])))) (reads_done _)

-- ---- a task

module _ (i : ℕ) (t : Table) {b b1 : Reader} where
  pub no_spacing : {e : TurnedAway} → Reads (number_in 1 spacing_most) b b1 (std.Err e) → Reads (task i t) b b1 (std.Err e)
  unfolding task
  no_spacing x = stop _ x

  module _ {spacing : ℕ} (T : Reads (number_in 1 spacing_most) b b1 (std.Ok spacing)) {b2 : Reader} where
    pub no_deadline : {e : TurnedAway} → Reads (number_in 1 spacing) b1 b2 (std.Err e) → Reads (task i t) b b2 (std.Err e)
    unfolding task
    no_deadline x = next _ T (stop _ x)

    module _ {deadline : ℕ} (D : Reads (number_in 1 spacing) b1 b2 (std.Ok deadline)) {b3 : Reader} where
      pub no_count : {e : TurnedAway} → Reads (number_in 1 phases_most) b2 b3 (std.Err e) → Reads (task i t) b b3 (std.Err e)
      unfolding task
      no_count x = next _ T (next _ D (stop _ x))

      pub task_by : {count : ℕ} {a : Reader} {r : std.Result Table TurnedAway} → Reads (number_in 1 phases_most) b2 b3 (std.Ok count)
          → Reads (each phase (8 * i + count - 8 * i) (8 * i) (with_task i spacing deadline count t)) b3 a r → Reads (task i t) b a r
      unfolding task
      task_by m x = next _ T (next _ D (next _ m (rw add-sub_cancel_left at x)))

-- ---- the tasks, and the whole

module _ (t : Table) {b m : Reader} where
  pub no_tasks : {e : TurnedAway} → Reads (number_in 1 tasks_most) b m (std.Err e) → Reads (all_tasks t) b m (std.Err e)
  unfolding all_tasks
  no_tasks x = stop _ x

  pub tasks_by : {count : ℕ} {a : Reader} {r : std.Result Table TurnedAway} → Reads (number_in 1 tasks_most) b m (std.Ok count)
      → Reads (each task (count - 0) 0 (with_count count t)) m a r → Reads (all_tasks t) b a r
  unfolding all_tasks
  tasks_by n x = next _ n (rw sub-zero at x)

-- parts joined from the left are joined from the right
assoc : {A B C : Type 0} (x : Result A) (f : A → Parser B) (g : B → Parser C) (s : List ℕ) → and_then (and_then x f s) g s ≡ and_then x (λ a. ◌>>=◌ (f a) g) s
assoc (got a at) f g s = refl
assoc (away reason place) f g s = refl

-- the tasks are read into the empty table, and then nothing is behind them
module _ (s : List ℕ) {t : Table} (none : t ≡ empty) where
  tasks_first : numbers s 0 ≡ and_then (all_tasks t s 0) (λ u. ◌>>◌ nothing_behind (done u)) s
  unfolding numbers all_tasks
  tasks_first = rw none (sym (assoc (number_in 1 tasks_most s 0) _ (λ u. ◌>>◌ nothing_behind (done u)) s))

  pub numbers_away : {e : TurnedAway} → all_tasks t s 0 ≡ away e.reason e.place → numbers s 0 ≡ away e.reason e.place
  numbers_away is = tasks_first ∙ rw is

  module _ {u : Table} {next : ℕ} (is : all_tasks t s 0 ≡ got u next) where
    pub numbers_behind : next < length s → numbers s 0 ≡ away Trailing next
    numbers_behind h = tasks_first ∙ rw (is, lt-ltb next (length s) h)

    pub numbers_read : length s ≤ next → numbers s 0 ≡ got u next
    numbers_read h = tasks_first ∙ rw (is, le-ltb next (length s) h)

-- reading is parsing, and then the limits
module _ (s : List ℕ) where
  pub read_away : {e : TurnedAway} → std.Err e ≡ parsed_of (numbers s 0) → std.Err e ≡ reading_of (table s 0)
  unfolding table
  read_away is = rw (was_not_parsed (numbers s 0) is)

  module _ {t : Table} (is : std.Ok t ≡ parsed_of (numbers s 0)) where
    pub parsed_in_range : InRange t
    parsed_in_range = let (next, e) = was_parsed (numbers s 0) is in numbers_in_range s 0 t next e

    read_on : reading_of (table s 0) ≡ limited_by (limit_of (tasks_of t)) t
    unfolding table
    read_on = let (next, e) = was_parsed (numbers s 0) is in rw e (limited_reading t s next)

    pub limits_away : {e : TurnedAway} → std.Err e ≡ limit_of (tasks_of t) → std.Err e ≡ reading_of (table s 0)
    limits_away f = ap (λ (x : std.Result ℕ TurnedAway). limited_by x t) f ∙ sym read_on

    pub read_by : {h : ℕ} → std.Ok h ≡ limit_of (tasks_of t) → std.Ok (record { table = t; horizon = h }) ≡ reading_of (table s 0)
    read_by f = ap (λ (x : std.Result ℕ TurnedAway). limited_by x t) f ∙ sym read_on
