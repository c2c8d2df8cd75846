-- `judge_point` meets its contract, by its two tests.
-- Assumes nothing.
use native.Mathlib.Omega.{arith}
use Rattle.walk.proofs.laws.Stuck.{goes_roomy, stops_over}
use Rattle.walk.proofs.stuck.judge_point.Goals as goal

pub returns-then-t-demand : goal.returns-then-t-demand
returns-then-t-demand c = stops_over c.if-t-demand.true

pub returns-then-low-t : goal.returns-then-low-t
returns-then-low-t c = goes_roomy c.requires (omega arith) (omega arith)
