use Rattle.std.proofs.Common.{◌≡◌, ℕ, ◌≤◌, List, [], ◌∷◌, ◌++◌, length, take, rules, arith, sym, subst}
use Rattle.std.specs.Int.{w16, from_le_bytes}
use Rattle.std.specs.Prelude.{Option}
use Rattle.std.specs.Io.KnownBytes.{Consumes}
use Rattle.std.proofs.KnownBytes.{Consumes-trans}
use Rattle.std.proofs.lemmas.List.{take-append-le}
use Rattle.cases.specs.Cases.{Taken}
use Rattle.cases.proofs.next.Goals as goal

-- Two bytes and the case that they announce, read one behind the other.
announced_case : (old mid new : Option (List ℕ)) (two bytes : List ℕ) → length two ≡ 2 → length bytes ≡ from_le_bytes w16 two → Consumes old mid two
    → Consumes mid new bytes → Taken old new bytes
announced_case old mid new (low ∷ high ∷ []) bytes p q r s =
    record { low = low; high = high; length_is = omega (arith, q); lost = Consumes-trans old mid new (low ∷ high ∷ []) bytes r s }
announced_case old mid new [] bytes p q r s = absurd (omega arith)
announced_case old mid new (low ∷ []) bytes p q r s = absurd (omega arith)
announced_case old mid new (low ∷ high ∷ x ∷ xs) bytes p q r s = absurd (omega arith)

-- The case fills the part of the buffer that was lent for it.
filled : (got whole : ℕ) (part rest : List ℕ) → got ≤ length part → length part ≡ whole → whole ≤ got → take got part ≡ take whole (part ++ rest)
filled got whole part rest a b c =
    let same : got ≡ whole = omega arith in
    let within : whole ≤ length part = omega arith in
    rw same (sym (take-append-le whole part rest within))

pub returns-clause-bytes : goal.returns-clause-bytes
returns-clause-bytes g c =
    let all = filled c.in_ok-got.got c.from-whole.result c.read_full-2.new.buffer _ (search rules) (search rules) (search rules) in
    announced_case _ (g.R.Read.remaining c.read_full.new.input) _ (take c.in_ok-announced.announced c.read_full.new.buffer) _
    (search rules) (search rules) c.in_ok-announced.ensures.bytes (subst (Consumes _ _) all c.in_ok-got.ensures.bytes)
