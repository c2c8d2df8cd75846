-- Examples of reading, one or more for each reason, under a single claim. (The worked tables A to L are in crate `worked`.)
-- Assumes nothing.
use Rattle.std.specs.Prelude.{ℕ, List, [], ◌∷◌, map, ◌≡◌, refl, get_or}
use Rattle.finite.specs.Finite.{sum_to}
use Rattle.groups.specs.Number.{groups}
use Rattle.model.specs.Arrays.{empty_arrays}
use Rattle.model.specs.TestPoints.{gcd_in, gcd, lcm, lcm_to, horizon_of}
use Rattle.table.specs.declared.Table.{Table}
use Rattle.table.specs.Parse.{Result, got, away, number_in, numbers_in, each, phase, task, numbers, table, empty}
use Rattle.table.specs.Reason.{reason_number}
use Rattle.table.specs.Sizes.{deciding, table_long}
use Rattle.table.specs.TaskModel.{jobs_within}

-- what is looked at: the place behind the table and the first two tasks' numbers, or the reason and the place
abbrev seen : Result Table → List ℕ
seen (got t next) =
    next ∷ t.tasks ∷ get_or t.spacing 0 0 ∷ get_or t.deadline 0 0 ∷ get_or t.phases 0 0 ∷ get_or t.work 0 0 ∷ get_or t.cost 0 0
    ∷ get_or t.spacing 1 0 ∷ get_or t.deadline 1 0 ∷ get_or t.phases 1 0 ∷ get_or t.work 8 0 ∷ get_or t.cost 8 0 ∷ []
seen (away reason place) = reason_number reason ∷ place ∷ []

pub record Example : Type 0 where
  pub bytes : List ℕ
  pub seen_is : List ℕ

infix 20 ◌reads◌
abbrev ◌reads◌ : List ℕ → List ℕ → Example
bytes reads numbers = record { bytes = bytes; seen_is = numbers }

-- table A
abbrev pub example_1 : Example
example_1 = (0x02 ∷ 0x0A ∷ 0x08 ∷ 0x01 ∷ 0x02 ∷ 0x01 ∷ 0x14 ∷ 0x12 ∷ 0x01 ∷ 0x09 ∷ 0x01 ∷ []) reads (11 ∷ 2 ∷ 10 ∷ 8 ∷ 1 ∷ 2 ∷ 1 ∷ 20 ∷ 18 ∷ 1 ∷ 9 ∷ 1 ∷ [])

-- reason 2: no bytes (table L)
abbrev pub example_2 : Example
example_2 = ([]) reads (2 ∷ 0 ∷ [])

-- reason 2: the table ends in a number
abbrev pub example_3 : Example
example_3 = (0x01 ∷ 0x80 ∷ []) reads (2 ∷ 2 ∷ [])

-- reason 3: a zero last byte (table K)
abbrev pub example_4 : Example
example_4 = (0x80 ∷ 0x00 ∷ []) reads (3 ∷ 0 ∷ [])

-- reason 3: eight bytes all with the top bit set
abbrev pub example_5 : Example
example_5 = (0x01 ∷ 0x80 ∷ 0x80 ∷ 0x80 ∷ 0x80 ∷ 0x80 ∷ 0x80 ∷ 0x80 ∷ 0x80 ∷ 0x01 ∷ []) reads (3 ∷ 1 ∷ [])

-- reason 4: 33 tasks
abbrev pub example_6 : Example
example_6 = (0x21 ∷ []) reads (4 ∷ 0 ∷ [])

-- reason 4: D above T
abbrev pub example_7 : Example
example_7 = (0x01 ∷ 0x05 ∷ 0x06 ∷ []) reads (4 ∷ 2 ∷ [])

-- reason 5: a byte after the last phase
abbrev pub example_8 : Example
example_8 = (0x01 ∷ 0x05 ∷ 0x05 ∷ 0x01 ∷ 0x05 ∷ 0x00 ∷ 0x07 ∷ []) reads (5 ∷ 6 ∷ [])

-- tasks that differ in T alone: D 1, one phase of c 1 and q 0
abbrev tasks_with : List ℕ → List ℕ
tasks_with [] = []
tasks_with (T ∷ Ts) = T ∷ 1 ∷ 1 ∷ 1 ∷ 0 ∷ tasks_with Ts

-- reason 6: the twelve primes up to 37 as T, whose product is above 1,000,000,000,000
abbrev pub example_9 : Example
example_9 = (12 ∷ tasks_with (2 ∷ 3 ∷ 5 ∷ 7 ∷ 11 ∷ 13 ∷ 17 ∷ 19 ∷ 23 ∷ 29 ∷ 31 ∷ 37 ∷ [])) reads (6 ∷ 0 ∷ [])

-- reason 7: the eight primes up to 19 as T; H is 9,699,690 and the sum of H/T is above 1,000,000
abbrev pub example_10 : Example
example_10 = (8 ∷ tasks_with (2 ∷ 3 ∷ 5 ∷ 7 ∷ 11 ∷ 13 ∷ 17 ∷ 19 ∷ [])) reads (7 ∷ 0 ∷ [])

abbrev pub examples : List Example
examples = example_1 ∷ example_2 ∷ example_3 ∷ example_4 ∷ example_5 ∷ example_6 ∷ example_7 ∷ example_8 ∷ example_9 ∷ example_10 ∷ []

pub read_as_printed : map (λ (e : Example). seen (table e.bytes 0)) examples ≡ map (λ (e : Example). e.seen_is) examples
unfolding table numbers task phase each numbers_in number_in groups empty empty_arrays horizon_of lcm_to lcm gcd gcd_in jobs_within sum_to
read_as_printed = refl

-- A table has at most 2,401 bytes, and the first 2,405 decide.
pub sizes_as_printed : (table_long ≡ 2401) × (deciding ≡ 2405)
sizes_as_printed = (refl, refl)
