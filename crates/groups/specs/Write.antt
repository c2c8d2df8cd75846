-- DEFINITIONS. What `groups::write` answers, and what it leaves in the buffer. Assumes nothing.
use Rattle.std.specs.Prelude.{ℕ, ◌+◌, ◌^◌, List, ◌++◌, ◌≡◌, length, take, drop, leb, ltb, Result, Ok, Err}
use Rattle.std.specs.Prelude.{if◌then◌else◌}
use Rattle.groups.specs.declared.WriteError.{WriteError}
use Rattle.groups.specs.declared.WriteError.TheVariants.{TooLarge, NoRoom}
use Rattle.groups.specs.Encode.{encode}

-- the place behind the number: eight groups hold what is below 2 ^ 56, and its bytes end within the buffer
abbrev pub written_of : (buffer : List ℕ) (at value : ℕ) → Result ℕ WriteError
written_of buffer at value =
    if leb (2 ^ 56) value then Err TooLarge
    else if ltb (length buffer) (at + length (encode value)) then Err NoRoom
    else Ok (at + length (encode value))

-- the number's bytes from `at` on, and every other byte as found; where it was not written, every byte as found
abbrev pub left_by : Result ℕ WriteError → (buffer : List ℕ) (at value : ℕ) → List ℕ
left_by (Ok next) buffer at value = take at buffer ++ encode value ++ drop (at + length (encode value)) buffer
left_by (Err reason) buffer at value = buffer

-- what writing a number answers and leaves
pub record WritesNumber (before after : List ℕ) (at value : ℕ) (r : Result ℕ WriteError) : Type 0 where
  pub answer : r ≡ written_of before at value
  pub left : after ≡ left_by r before at value
