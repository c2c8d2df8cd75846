-- WHAT A RECORD HOLDS that no tick changes, part by part: from the arrays to the model and back, its range and the test of it, what it has at the start,
-- and what it has without a task. No other law lists these parts.
-- Assumes nothing.
use Rattle.std.specs.Prelude.{◌≡◌, ℕ, ◌/◌, ◌%◌, ◌≤◌}
use Rattle.std.proofs.Common.{sym, ◌∙◌, arith}
use Rattle.finite.specs.Masks.{digit}
use Rattle.finite.proofs.laws.Decided.{by_test, under, within_decides}
use Rattle.std.proofs.lemmas.Bool.Decides.{Decides-eqb, Decides-like, Decides-ltb}
use Rattle.std.specs.Bool.{Decides}
use Rattle.finite.proofs.laws.Lists.{length_list}
use Rattle.model.specs.Phase.{Choice, phases_of}
use Rattle.model.specs.Ranges.{InTable, all_phases}
use Rattle.model.specs.Tasks.{Tasks}
use Rattle.model.proofs.laws.Arrays.{phase_none, phase_past, phases_of_lem}
use Rattle.model.proofs.laws.Places.{at_used, places_decide}
use Rattle.model.proofs.laws.Ranges.{as_from, few_of, from_arrays, none_alike, sized_from, table_decides}
use Rattle.promise.specs.Rules.{State}
use Rattle.records.specs.Record.{Long, record_of}
use Rattle.records.specs.Held.{CountsInRange, Held, HeldInRange, arrays_in, count_test, counts_in, fixed_in, fixed_of, held_for, held_in, held_of, held_test, tasks_in}
use Rattle.records.specs.declared.Dispatcher.{Dispatcher}

-- ---- from the arrays to the model and back

pub fixed_of_held : (d : Dispatcher) → Long d → fixed_of (held_in d) ≡ fixed_in d
fixed_of_held d long = λ k.
    record {
      table = from_arrays (arrays_in d) long.table k;
      counts = phases_of_lem d.counts long.counts k;
    }

pub held_of_fixed : (h : Held) → HeldInRange h → held_of (fixed_of h) ≡ h
held_of_fixed h range = λ k.
    record {
      table = as_from h.table range.table k;
      counts = λ i j. at_used h.table (few_of h.table range.table) h.counts range.counts.no_count i j k;
    }

-- the arrays of a record that is written have their lengths
pub record_long : (h : Held) (s : State) → Long (record_of h s)
record_long h s = record {
  table = sized_from h.table;
  counts = length_list 256 (λ p. h.counts (p / 8) (p % 8));
  since = length_list 32 s.since;
  unfinished = length_list 32 (λ i. digit (s.busy i));
  left = length_list 32 s.left;
  phase = length_list 32 s.phase;
  piece = length_list 32 s.piece;
}

-- ---- the test decides the range

counts_decide : (d : Dispatcher) → Long d → InTable (tasks_in d) → Decides (all_phases (count_test (tasks_in d) (counts_in d))) (CountsInRange (tasks_in d) (counts_in d))
counts_decide d long t =
    Decides-like _
    (λ h. record { count_least = λ i j l k. (h.0 i j l k).0; count_most = λ i j l k. (h.0 i j l k).1; no_count = h.1 })
    (λ c. (λ i j l k. (c.count_least i j l k, c.count_most i j l k), c.no_count))
    (places_decide S (few_of S t) (count_test S x) (λ i j. (1 ≤ x i j) × (x i j ≤ (phases_of S).most i j)) (λ i j. x i j ≡ 0)
    (λ i j. by_test (Decides-ltb j (S.m i)) (within_decides 1 ((phases_of S).most i j) (x i j)) (Decides-eqb (x i j) 0))
    (λ i j h. phase_past d.counts i j long.counts h) (λ i j h. phase_none d.counts i j h))
  where
    S : Tasks
    S = tasks_in d

    x : Choice
    x = counts_in d

pub held_decides : (d : Dispatcher) → Long d → Decides (held_test (held_in d)) (HeldInRange (held_in d))
unfolding held_test
held_decides d long =
    Decides-like _
    (λ h. record { table = h.0; counts = h.1 })
    (λ h. (h.table, h.counts))
    (under _ (table_decides (arrays_in d) long.table) (counts_decide d long))

-- ---- at the start, and without a task

pub held_for_lem : (S : Tasks) (x : Choice) → InTable S → CountsInRange S x → HeldInRange (held_for S x)
held_for_lem S x table counts = record { table = table; counts = counts }

-- two in range without a task are one
pub none_held : (h h' : Held) → HeldInRange h → HeldInRange h' → h.table.n ≡ 0 → h'.table.n ≡ 0 → h ≡ h'
none_held h h' r r' e e' = λ k.
    record {
      table = none_alike h.table h'.table r.table r'.table e e' k;
      counts = λ i j. (no_count h r e i j ∙ sym (no_count h' r' e' i j)) k;
    }
  where
    no_count : (h : Held) → HeldInRange h → h.table.n ≡ 0 → (i j : ℕ) → h.counts i j ≡ 0
    no_count h r e i j = r.counts.no_count i j (omega (arith, (r.table.no_task i (omega arith)).no_phases))
