-- Reading bytes from left to right, one part behind the other: what a part gives, and how the parts are joined.
-- Assumes nothing.
use Rattle.std.specs.Prelude as std
use Rattle.std.specs.Prelude.{ℕ, List}
use Rattle.table.specs.declared.Reason.{Reason}
use Rattle.table.specs.declared.TurnedAway.{TurnedAway}

-- Reading gives a value and the place behind it, or turns the table away for a reason at a place.
pub data Result (A : Type 0) : Type 0 where
  got : A → (next : ℕ) → Result A
  away : Reason → (place : ℕ) → Result A

abbrev pub Parser : Type 0 → Type 0
Parser A = (bytes : List ℕ) (at : ℕ) → Result A

-- one after the other: the first that fails ends it
abbrev pub and_then : {A B : Type 0} → Result A → (A → Parser B) → List ℕ → Result B
and_then (got a next) f bytes = f a bytes next
and_then (away reason place) f bytes = away reason place

abbrev pub ◌>>=◌ : {A B : Type 0} → Parser A → (A → Parser B) → Parser B
◌>>=◌ p f bytes at = and_then (p bytes at) f bytes

-- the same where the first is a test, which gives nothing
abbrev pub ◌>>◌ : {A B : Type 0} → Parser A → Parser B → Parser B
◌>>◌ p q bytes at = and_then (p bytes at) (λ a. q) bytes

abbrev pub done : {A : Type 0} → A → Parser A
done a bytes at = got a at

-- the reason and the place for turning a table away
abbrev pub turned_away : Reason → (place : ℕ) → TurnedAway
turned_away reason place = record { reason = reason; place = place }

-- what a call answers that reads as a parser does: `answer` of the value and of the place behind it, or the reason and the place for turning away
abbrev pub answered : {A B : Type 0} (answer : A → (next : ℕ) → B) → Result A → std.Result B TurnedAway
answered answer (got a next) = std.Ok (answer a next)
answered answer (away reason place) = std.Err (turned_away reason place)
