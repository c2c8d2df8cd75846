-- `take_point` meets its contract: the point is passed, and then the budgets are added up.
-- Assumes nothing.
use Rattle.walk.proofs.laws.Take.{point_taken}
use Rattle.walk.proofs.points.take_point.Goals as goal

pub returns : goal.returns
returns c = point_taken c.requires c.pass-moved.ensures c.add_up-added.ensures
