use mathlib.Core.Path.{refl}
use native.Mathlib.Omega.{arith}
use Rattle.table.specs.TaskModel.{arrays_of}
use Rattle.walk.specs.Stuck.{Stuck}
use Rattle.walk.proofs.laws.Stuck.{goes_free, none_found, searching_more, stops_blocked}
use Rattle.walk.proofs.stuck.first_stuck.Goals as goal

pub returns-in-Some : goal.returns-in-Some
returns-in-Some c = stops_blocked c.requires.0 refl c.loop-i.invariant c.loop-i-test.true c.in-Some.ensures

pub loop-i-preserved : goal.loop-i-preserved
loop-i-preserved c = searching_more c.loop-i.invariant c.loop-i-test.true (none_found _ (Stuck (arrays_of c.args.table.now) _ _ _) c.in_default.ensures)

pub returns : goal.returns
returns c = goes_free c.requires.0 refl c.loop-i.invariant (omega arith)
