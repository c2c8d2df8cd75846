-- Tables in bytes, among them A, B and D of document 01, that are read and written again: one list under a single claim.
use Rattle.std.specs.Prelude.{ℕ, List, [], ◌∷◌, map, ◌≡◌, refl}
use Rattle.finite.specs.Finite.{join_to}
use Rattle.groups.specs.Number.{groups}
use Rattle.groups.specs.Encode.{encode_in, encode_all}
use Rattle.model.specs.Arrays.{empty_arrays}
use Rattle.table.specs.declared.Table.{Table}
use Rattle.table.specs.Parse.{Result, got, away, number_in, numbers_in, each, phase, task, numbers, empty}
use Rattle.writer.specs.Written.{task_items, table_bytes}

-- what is written of a table that was read
abbrev again : Result Table → List ℕ
again (got t next) = table_bytes t
again (away reason place) = []

-- the last has a task of two phases, with numbers of one to four bytes
abbrev pub tables : List (List ℕ)
tables =
    (0x02 ∷ 0x0A ∷ 0x08 ∷ 0x01 ∷ 0x02 ∷ 0x01 ∷ 0x14 ∷ 0x12 ∷ 0x01 ∷ 0x09 ∷ 0x01 ∷ [])
    ∷ (0x02 ∷ 0x0A ∷ 0x05 ∷ 0x01 ∷ 0x02 ∷ 0x01 ∷ 0x14 ∷ 0x12 ∷ 0x01 ∷ 0x09 ∷ 0x01 ∷ [])
    ∷ (0x02 ∷ 0x0A ∷ 0x05 ∷ 0x01 ∷ 0x02 ∷ 0x01 ∷ 0x14 ∷ 0x14 ∷ 0x01 ∷ 0x04 ∷ 0x01 ∷ [])
    ∷ (0x01 ∷ 0x80 ∷ 0xAD ∷ 0xE2 ∷ 0x04 ∷ 0xAC ∷ 0x02 ∷ 0x02 ∷ 0x80 ∷ 0x01 ∷ 0x00 ∷ 0x07 ∷ 0xE8 ∷ 0x07 ∷ [])
    ∷ []

pub written_again : map (λ (s : List ℕ). again (numbers s 0)) tables ≡ tables
unfolding numbers task phase each numbers_in number_in groups empty empty_arrays task_items join_to encode_all encode_in
written_again = refl
