-- The three answers of writing a table, and that the contract allows one outcome only.
use Prim.Native.Nat.{ℕ, ◌+◌, ◌*◌, ◌≤◌, ◌<◌}
use mathlib.Core.Path.{◌≡◌, refl, ap, sym, ◌∙◌}
use mathlib.Core.List.{List}
use mathlib.Core.Logic.{◌⊎◌, inl, inr}
use mathlib.Core.Bool.{Bool, true, false, ◌||◌, true≢false}
use native.Mathlib.Omega.{arith}
use borrow.Author.Tests.{lt-ltb, le-ltb, ltb-false}
use Rattle.std.specs.Prelude.{Result, Ok, Err}
use lib.Dec.{ltb}
use lib.ListN.{length, get_or}
use Rattle.model.specs.Ranges.{phases_most, tasks_most}
use Rattle.finite.specs.Finite.{any_to}
use Rattle.finite.proofs.laws.Tests.{le_or_lt}
use Rattle.std.proofs.lemmas.Bool.Decides.{Decides-ltb, not_from_Decides}
use Rattle.finite.proofs.laws.Searches.{any_decides}
use Rattle.groups.specs.Sinks.{Counts, Countable, RoomFor, Fills}
use Rattle.groups.proofs.Numbers.{eight_each, join_count}
use Rattle.groups.proofs.Passes.{in_front_lem}
use Rattle.table.specs.declared.Table.{Table}
use Rattle.writer.specs.declared.TableError.{TableError}
use Rattle.writer.specs.declared.TableError.TheVariants.{NoRoom}
use Rattle.writer.specs.Written.{phase_items, task_items, table_items, table_bytes, overfull, Writes}

-- the test of the phases, for a table
abbrev pub long_task : Table → Bool
long_task t = any_to t.tasks (λ i. ltb phases_most (get_or t.phases i 0))

-- where no task has more than 8 phases
pub few : (t : Table) → long_task t ≡ false → (i : ℕ) → i < t.tasks → get_or t.phases i 0 ≤ phases_most
few t e i h = go (le_or_lt (get_or t.phases i 0) phases_most)
  where
    go : (get_or t.phases i 0 ≤ phases_most) ⊎ (phases_most < get_or t.phases i 0) → get_or t.phases i 0 ≤ phases_most
    go (inl l) = l
    go (inr l) =
        absurd
        (not_from_Decides _ (any_decides t.tasks (λ j. ltb phases_most (get_or t.phases j 0)) (λ j. phases_most < get_or t.phases j 0) (λ j _. Decides-ltb phases_most (get_or t.phases j 0))) e (i, h, l))

-- a table that its arrays hold
pub record InArrays (t : Table) : Type 0 where
  pub tasks_at_most : t.tasks ≤ tasks_most
  pub phases_at_most : (i : ℕ) → i < t.tasks → get_or t.phases i 0 ≤ phases_most

pub in_arrays : (t : Table) → overfull t ≡ false → InArrays t
unfolding overfull
in_arrays t e = go (ltb tasks_most t.tasks) refl (long_task t) refl e
  where
    go : (x : Bool) → ltb tasks_most t.tasks ≡ x → (y : Bool) → long_task t ≡ y → (x || y) ≡ false → InArrays t
    go true a y b e = absurd (true≢false e)
    go false a true b e = absurd (true≢false e)
    go false a false b e = record { tasks_at_most = ltb-false tasks_most t.tasks a; phases_at_most = few t b }

-- what the code's two tests leave
pub arrays_hold : (t : Table) {found : Bool} → t.tasks ≤ tasks_most → found ≡ long_task t → found ≡ false → overfull t ≡ false
unfolding overfull
arrays_hold t h e f = rw (le-ltb tasks_most t.tasks h, sym e ∙ f)

pub few_tasks : (t : Table) → overfull t ≡ false → t.tasks ≤ tasks_most
few_tasks t e = (in_arrays t e).tasks_at_most

-- its phases have places in the arrays
pub phases_inside : (t : Table) (i : ℕ) → overfull t ≡ false → i < t.tasks → 8 * i + get_or t.phases i 0 ≤ 256
phases_inside t i e h = let k = in_arrays t e in omega (arith, k.tasks_at_most, k.phases_at_most i h)

-- so few numbers can be measured: two a phase, and so at most 19 a task
task_few : (t : Table) (i : ℕ) → get_or t.phases i 0 ≤ phases_most → length (task_items t i) ≤ 19
unfolding task_items
task_few t i h =
    let m = get_or t.phases i 0 in
    let own = join_count 2 m (λ j. phase_items t.work t.cost (8 * i + j)) (λ j l. omega arith) in
    omega arith

module _ (t : Table) (e : overfull t ≡ false) where
  pub can_be_measured : Countable 0 (table_items t)
  can_be_measured = record {
    most =
        let h = in_arrays t e in
        omega (arith, h.tasks_at_most, eight_each (table_items t), join_count 19 t.tasks (task_items t) (λ i l. task_few t i (h.phases_at_most i l)));
  }

  module _ {before : List ℕ} {n : ℕ} (v : Counts 0 n (table_items t)) where
    pub measured_fits : n ≤ length before → RoomFor before 0 (table_items t)
    measured_fits h = record { most = omega (arith, v.after_is) }

    pub no_room : length before < n → Writes t before before (Err NoRoom)
    no_room l = record { result_is = rw (e, short); after_is = rw (e, short) }
      where
        short : ltb (length before) (length (table_bytes t)) ≡ true
        short = lt-ltb (length before) (length (table_bytes t)) (omega (arith, v.after_is))

    pub placed : {after : List ℕ} {next : ℕ} → n ≤ length before → Fills before after 0 next (table_items t) → Writes t before after (Ok next)
    placed {after} {next} h w =
        let f = in_front_lem (omega (arith, v.after_is)) w in
        record { result_is = rw (e, room) (ap Ok f.0); after_is = rw (e, room) f.1 }
      where
        room : ltb (length before) (length (table_bytes t)) ≡ false
        room = le-ltb (length before) (length (table_bytes t)) (omega (arith, v.after_is))

-- any two outcomes that the contract allows are equal
pub one_outcome : {t : Table} {before after after' : List ℕ} {r r' : Result ℕ TableError} → Writes t before after r → Writes t before after' r' → (r ≡ r') × (after ≡ after')
one_outcome w v = (w.result_is ∙ sym v.result_is, w.after_is ∙ sym v.after_is)
