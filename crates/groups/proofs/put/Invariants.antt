-- `groups::put` meets its contract. The invariant: to write the whole number into the buffer as it came is to write what is left of it, in
-- at most `more` bytes before the last, into the buffer as it is. Assumes nothing.
use Rattle.std.proofs.Common.{ℕ, suc, ◌+◌, ◌^◌, ◌<◌, ◌≡◌, length}
use Rattle.std.proofs.lemmas.List.Edits.{sets}
use Rattle.groups.specs.Encode.{encode_in, encode}
use Rattle.groups.proofs.put.Given as goal

abbrev pub invariant-loop-rest : goal.invariant-loop-rest
invariant-loop-rest l = (more : ℕ)
    × (sets l.initial.out l.at (encode l.value) ≡ sets l.out l.p (encode_in more l.rest))
    × (l.at + length (encode l.value) ≡ l.p + length (encode_in more l.rest))
    × (l.rest < 128 ^ suc more)

abbrev pub decreases-loop-rest : goal.decreases-loop-rest
decreases-loop-rest l = l.rest
