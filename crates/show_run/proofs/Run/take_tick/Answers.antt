use Rattle.std.proofs.Common.{◌+◌, ◌%◌, ◌^◌, ap}
use Rattle.show_run.specs.declared.Run.{Run}
use Rattle.show_run.proofs.Ticking.{ticks_once}
use Rattle.show_run.proofs.Run.take_tick.Goals as goal

pub returns : goal.returns
returns g c = ticks_once _ _ _ _ _ c.tick-ticked.ensures (ap (λ (run : Run). (run.tick + 1) % 2 ^ 64) c.count_jobs.ensures)
