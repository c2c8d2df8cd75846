-- `groups::size` meets its contract. The invariant: the bytes counted so far and those of what is left make the number's. Assumes nothing.
use Rattle.std.proofs.Common.{◌+◌, ◌-◌, ◌≡◌, length}
use Rattle.groups.specs.Encode.{encode_in, encode}
use Rattle.groups.proofs.size.Given as goal

abbrev pub invariant-loop-n : goal.invariant-loop-n
invariant-loop-n l = l.n + length (encode_in (8 - l.n) l.rest) ≡ length (encode l.value) + 1
