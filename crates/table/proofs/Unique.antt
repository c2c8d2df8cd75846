-- What the contracts of `table::parse`, `table::limit` and `table::read` allow is one answer: they are equations. Assumes nothing.
use Prim.Native.Nat.{ℕ}
use mathlib.Core.Path.{◌≡◌, sym, ◌∙◌}
use mathlib.Core.List.{List}
use Rattle.std.specs.Prelude.{Result}
use Rattle.model.specs.Tasks.{Tasks}
use Rattle.table.specs.declared.Reading.{Reading}
use Rattle.table.specs.declared.Table.{Table}
use Rattle.table.specs.declared.TurnedAway.{TurnedAway}
use Rattle.table.specs.Parse.{numbers, table, parsed_of, limit_of, reading_of}

pub parse_unique : (bytes : List ℕ) {r r' : Result Table TurnedAway} → r ≡ parsed_of (numbers bytes 0) → r' ≡ parsed_of (numbers bytes 0) → r ≡ r'
parse_unique bytes a b = a ∙ sym b

pub limit_unique : (S : Tasks) {r r' : Result ℕ TurnedAway} → r ≡ limit_of S → r' ≡ limit_of S → r ≡ r'
limit_unique S a b = a ∙ sym b

pub read_unique : (bytes : List ℕ) {r r' : Result Reading TurnedAway} → r ≡ reading_of (table bytes 0) → r' ≡ reading_of (table bytes 0) → r ≡ r'
read_unique bytes a b = a ∙ sym b
