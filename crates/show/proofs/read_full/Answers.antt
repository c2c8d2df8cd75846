use Rattle.std.proofs.Common.{rules, sym, subst}
use Rattle.std.specs.Io.KnownBytes.{Consumes}
use Rattle.std.proofs.KnownBytes.{Consumes-trans}
use Rattle.show.proofs.Filling.{take-filled}
use Rattle.show.proofs.read_full.Goals as goal

-- A read put bytes behind those that were there.
pub loop-done-preserved : goal.loop-done-preserved
loop-done-preserved g c =
    let held = c.loop-done.invariant in
    let filled = take-filled c.loop-done.done _ c.in_ok-n.n c.loop-done.buffer c.read.new.buf held.0 c.in_ok-n.ensures.bound.0 in
    (search rules, search rules, subst (Consumes _ _) (sym filled) (Consumes-trans _ _ _ _ _ held.2 c.in_ok-n.ensures.bytes.0))
