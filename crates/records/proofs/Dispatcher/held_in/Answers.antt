-- `Dispatcher::held_in` meets its contract. Assumes nothing.
use mathlib.Core.Path.{◌≡◌}
use Rattle.finite.specs.Finite.{all_to}
use Rattle.model.specs.Ranges.{task_test}
use Rattle.records.specs.Held.{tasks_in}
use Rattle.records.specs.Lent.{numbers_at}
use Rattle.records.proofs.laws.Lent.{held_by}
use borrow.Author.Rules.{rules}
use Rattle.records.proofs.Dispatcher.held_in.Goals as goal

pub returns : goal.returns
returns c =
    let tasks : c.all_places-each_task.result ≡ all_to 32 (task_test (tasks_in c.args.self.now)) = c.all_places-each_task.ensures _ (λ i answer l h. search rules) in
    let places : c.all_places-each_phase.result ≡ all_to 256 (numbers_at c.args.self.now) = c.all_places-each_phase.ensures _ (λ i answer l h. search rules) in
    rw (tasks, places) (held_by c.args.self.now)
