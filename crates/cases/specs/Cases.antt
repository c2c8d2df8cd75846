-- DEFINITIONS. What stands on an input of cases: each has its length in two bytes, the lower first, and then its bytes. Assumes nothing.
use Rattle.std.specs.Prelude.{ℕ, ◌≡◌, ◌+◌, ◌*◌, List, [], ◌∷◌, length, min, nat_le, ◌≤◌, ⊤, Option, Result, Ok, IfSome, codes, ◌++◌, ◌-◌, ◌^◌, ◌⊎◌}
use Rattle.std.specs.Prelude.{if◌then◌else◌}
use Rattle.std.specs.Io.KnownBytes.{Appends, Consumes}
use Rattle.std.specs.Fn.{Mut, CalledWithState}
use Rattle.std.specs.List.{FoldsTo}
use denote.Ref.{Bor, MutBor}
use Rattle.cases.specs.declared.Case.{Case}
use Rattle.cases.specs.declared.Case.TheVariants.{Whole, End, Cut}

-- ---- one case

-- a case of n announced bytes, behind which `left` bytes stand: it is cut where they are fewer, or where n bytes have no room
abbrev pub announced : (room n left : ℕ) → Case
announced room n left = if nat_le n (min room left) then Whole n else Cut

-- what stands next on the bytes that are left
abbrev pub next_on : (room : ℕ) → List ℕ → Case
next_on room [] = End
next_on room (low ∷ []) = Cut
next_on room (low ∷ high ∷ rest) = announced room (low + 256 * high) (length rest)

-- P holds of the length of a whole case
abbrev pub IfWhole : Case → (ℕ → Type 0) → Type 0
IfWhole (Whole n) P = P n
IfWhole End P = ⊤
IfWhole Cut P = ⊤

-- the input lost a case: two bytes that announce its length, and the bytes of the case
pub record Taken (old new : Option (List ℕ)) (bytes : List ℕ) : Type 0 where
  pub low : ℕ
  pub high : ℕ
  pub length_is : length bytes ≡ low + 256 * high
  pub lost : Consumes old new (low ∷ high ∷ bytes)

-- ---- all cases

-- the line behind a case that is cut
abbrev pub cut_line : List ℕ
cut_line = codes "the cases end within a case" ++ 10 ∷ []

-- the input, the function that is called at each case, and the writer that it is lent
pub record Stage (R F W : Type 0) : Type 0 where
  pub input : R
  pub run : F
  pub out : W

module _ {R F W E : Type 0} (left : R → Option (List ℕ)) (g : Mut F (MutBor W × (Bor (List ℕ) × Unit {0})) (Result (Unit {0}) E × (MutBor W × Unit {0}))) where
  -- one turn: the input lost a case that the buffer has room for, and the function was called at the bytes of that case, and did not fail
  pub record Turn (room : ℕ) (p : Stage R F W) (bytes : List ℕ) (q : Stage R F W) : Type 0 where
    pub taken : Taken (left p.input) (left q.input) bytes
    pub fits : length bytes ≤ room
    pub lent : Bor (List ℕ)
    pub lends : lent.now ≡ bytes
    pub called : CalledWithState g p.run p.out lent (Ok tt) q.run q.out

  -- n turns, over the cases in order
  pub record Turns (room : ℕ) (p : Stage R F W) (n : ℕ) (q : Stage R F W) : Type 0 where
    pub cases : List (List ℕ)
    pub count : length cases ≡ n
    pub each : FoldsTo (Turn room) p cases q

  -- What a run over an input did, from p on: its turns, which a number of 64 bits counts. Behind them the input ends, and nothing more was written; or
  -- the next case is cut, and a line says so; or as many cases were taken as a run counts.
  pub record RunsOver (contents : W → Option (List ℕ)) (room : ℕ) (p : Stage R F W) (out : W) : Type 0 where
    pub count : ℕ
    pub last : Stage R F W
    pub turns : Turns room p count last
    pub counted : count ≤ 2 ^ 64 - 1
    pub ended : (IfSome (left last.input) (λ xs. next_on room xs ≡ End) × (out ≡ last.out))
        ⊎ (IfSome (left last.input) (λ xs. next_on room xs ≡ Cut) × Appends (contents last.out) (contents out) cut_line)
        ⊎ (count ≡ 2 ^ 64 - 1)
