-- `groups::write` meets its contract: the size and the room are tested, and `put` writes. Assumes nothing.
use borrow.Author.Rules.{rules}
use Rattle.std.proofs.Common.{◌+◌, ◌≤◌, length}
use Rattle.groups.specs.Encode.{encode}
use Rattle.groups.proofs.Room.{writes_it}
use Rattle.groups.proofs.write.Goals as goal

pub returns : goal.returns
returns c =
    let room : let a = c.args in a.at + length (encode a.value) ≤ length a.out.now = search rules in
    writes_it c.if-value-ge-TOO_LARGE.false room c.put.ensures.0 c.put.ensures.1
