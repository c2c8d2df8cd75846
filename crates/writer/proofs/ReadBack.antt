-- A valid table is written where there is room for it, and what was written is read back.
use Prim.Native.Nat.{ℕ, ◌≤◌, ◌<◌}
use mathlib.Core.Path.{◌≡◌, ap, ◌∙◌}
use mathlib.Core.List.{List, ◌++◌}
use mathlib.Core.Bool.{Bool, true, false}
use native.Mathlib.Omega.{arith}
use borrow.Author.Tests.{le-ltb}
use lib.Dec.{ltb}
use lib.ListN.{length, get_or, take, drop}
use lib.Seq.{take_at}
use Rattle.model.specs.Ranges.{phases_most, tasks_most}
use Rattle.finite.proofs.laws.Tests.{fails}
use Rattle.std.proofs.lemmas.Bool.Decides.{Decides-ltb}
use Rattle.finite.proofs.laws.Searches.{any_decides}
use Rattle.std.specs.Prelude.{if◌then◌else◌, Result, Ok, Err}
use Rattle.table.specs.declared.Table.{Table}
use Rattle.table.specs.Parse.{got, table}
use Rattle.table.specs.Valid.{Valid}
use Rattle.writer.specs.declared.TableError.{TableError}
use Rattle.writer.specs.declared.TableError.TheVariants.{NoRoom, OutOfRange}
use Rattle.writer.specs.Written.{table_bytes, overfull, Writes}
use Rattle.writer.proofs.Outcomes.{long_task}
use Rattle.writer.proofs.RoundTrip.{table_round_trip}

no_long_task : (t : Table) → Valid t → long_task t ≡ false
no_long_task t v =
    fails (any_decides t.tasks (λ i. ltb phases_most (get_or t.phases i 0)) (λ i. phases_most < get_or t.phases i 0) (λ i _. Decides-ltb phases_most (get_or t.phases i 0)))
    (λ h. omega (arith, h.2, (v.in_range.items.task h.0 h.1).phases_at_most))

pub not_overfull : (t : Table) → Valid t → overfull t ≡ false
unfolding overfull
not_overfull t v = rw (le-ltb tasks_most t.tasks v.in_range.items.tasks, no_long_task t v)

-- a valid table is written where there is room
pub valid_written : {t : Table} {before after : List ℕ} {r : Result ℕ TableError} → Valid t → length (table_bytes t) ≤ length before → Writes t before after r
    → r ≡ Ok (length (table_bytes t))
valid_written {t} {before} v h w = w.result_is ∙ rw (not_overfull t v, le-ltb (length before) (length (table_bytes t)) h)

-- what the answer `Ok` says
pub written : (t : Table) (before after : List ℕ) (n : ℕ) → Writes t before after (Ok n)
    → (length (table_bytes t) ≡ n) × (after ≡ table_bytes t ++ drop (length (table_bytes t)) before)
written t before after n w = go (overfull t) (ltb (length before) (length (table_bytes t))) w.result_is w.after_is
  where
    go : (x y : Bool) → Ok n ≡ (if x then Err OutOfRange else if y then Err NoRoom else Ok (length (table_bytes t)))
        → after ≡ (if x then before else if y then before else table_bytes t ++ drop (length (table_bytes t)) before)
        → (length (table_bytes t) ≡ n) × (after ≡ table_bytes t ++ drop (length (table_bytes t)) before)
    go true y e f = absurd (never e)
      where
        never : Ok n ≡ Err OutOfRange → ⊥
        never e = let z : ◌≡◌ {A = ℕ} 0 1 = cc in omega arith
    go false true e f = absurd (never e)
      where
        never : Ok n ≡ Err NoRoom → ⊥
        never e = let z : ◌≡◌ {A = ℕ} 0 1 = cc in omega arith
    go false false e f = (cc, f)

-- What was written is read back.
pub written_back : (t : Table) (before after : List ℕ) (n : ℕ) → Valid t → Writes t before after (Ok n) → table (take n after) 0 ≡ got t n
written_back t before after n v w =
    let e = written t before after n w in
    ap (λ (s : List ℕ). table s 0) (ap (take n) e.1 ∙ take_at (table_bytes t) (drop (length (table_bytes t)) before) n e.0)
    ∙ table_round_trip t v
    ∙ ap (got t) e.0
