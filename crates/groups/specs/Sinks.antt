-- What a pass over numbers asks of the sink that takes their bytes, and what it leaves there. Assumes nothing.
use Rattle.std.specs.Prelude.{ℕ, ◌+◌, ◌≤◌, List, [], ◌++◌, ◌≡◌, length}
use Rattle.std.proofs.lemmas.List.Edits.{sets}
use Rattle.groups.specs.Encode.{encode_all}

-- What each sink keeps: no numbers change nothing; where two parts have room the first has it, and behind the first the second; and one part passed
-- behind the other is both passed.
pub record SinkLaws {S : Type 0} (takes : S → List ℕ → Type 0) (passed : S → List ℕ → S → Type 0) : Type 0 where
  pub nothing : (s : S) → passed s [] s
  pub front_fits : (s : S) (ms ns : List ℕ) → takes s (ms ++ ns) → takes s ms
  pub rest_fits : (s t : S) (ms ns : List ℕ) → passed s ms t → takes s (ms ++ ns) → takes t ns
  pub joined : (s t u : S) (ms ns : List ℕ) → passed s ms t → passed t ns u → passed s (ms ++ ns) u

-- The numbers' bytes can be counted behind `bytes` others: below a bound so large that no buffer's place is.
pub record Countable (bytes : ℕ) (numbers : List ℕ) : Type 0 where
  pub most : bytes + length (encode_all numbers) ≤ 1_000_000

-- The numbers' bytes were counted, behind `bytes` others.
pub record Counts (bytes after : ℕ) (numbers : List ℕ) : Type 0 where
  pub after_is : after ≡ bytes + length (encode_all numbers)

-- The numbers' bytes have room in the buffer from `at` on.
pub record RoomFor (buffer : List ℕ) (at : ℕ) (numbers : List ℕ) : Type 0 where
  pub most : at + length (encode_all numbers) ≤ length buffer

-- The numbers' bytes stand from `at` on, every other byte is as found, and `next` is the place behind them.
pub record Fills (before after : List ℕ) (at next : ℕ) (numbers : List ℕ) : Type 0 where
  pub next_is : next ≡ at + length (encode_all numbers)
  pub after_is : after ≡ sets before at (encode_all numbers)
