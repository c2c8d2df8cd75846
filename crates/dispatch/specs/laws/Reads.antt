-- A record in range, whose table is kept, in another state that the rules keep: what the steps' laws ask of its table stands here.
-- Assumes nothing.
use Rattle.std.specs.Prelude.{◌≡◌, true, ℕ, ◌≤◌, ◌<◌, get_or}
use Rattle.std.proofs.Common.{ap, ◌∙◌}
use Rattle.finite.specs.Finite.{Below}
use Rattle.model.specs.Ranges.{phases_most, tasks_most}
use Rattle.promise.specs.Rules.{State}
use Rattle.promise.proofs.laws.Kept.{ranged_of}
use Rattle.promise.proofs.laws.Remaining.{Ranged}
use Rattle.records.specs.Ranges.{in_range}
use Rattle.records.specs.Record.{state_in}
use Rattle.records.specs.Held.{Held, HeldInRange, counts_in, held_in, tasks_in}
use Rattle.records.specs.declared.Dispatcher.{Dispatcher}
use Rattle.records.proofs.laws.Fields.{Fields}
use Rattle.records.proofs.laws.Recorded.{read_as, record_in_range}
use Rattle.dispatch.specs.Steps.{in_state}
use Rattle.dispatch.specs.laws.Keeps.{Keeps}

-- what promise's theory asks of a table's phases
pub table_ranged : (h : Held) → HeldInRange h → Below h.table.n (Ranged h.table h.counts)
table_ranged h held =
    ranged_of h.table h.counts (λ i l. (held.table.task i l).phases_least) (λ i j l k. held.counts.count_least i j l k)
    (λ i j l k. held.counts.count_most i j l k)

module _ (d : Dispatcher) (f : Fields d) where
  pub ranged : Below d.tasks (Ranged (tasks_in d) (counts_in d))
  ranged = table_ranged (held_in d) f.held

  pub few : d.tasks ≤ tasks_most
  few = f.held.table.tasks

  pub few_phases : (i : ℕ) → i < d.tasks → get_or d.phases i 0 ≤ phases_most
  few_phases i l = (f.held.table.task i l).phases_at_most

  -- its own state is one that the rules keep
  pub own_keeps : Keeps (tasks_in d) (counts_in d) (state_in d)
  own_keeps = record { range = f.state; good = f.jobs }

  module _ (s : State) (k : Keeps (tasks_in d) (counts_in d) s) where
    -- in another state that the rules keep it is in range
    pub still_in_range : (r : Dispatcher) → r ≡ in_state d s → in_range r ≡ true
    still_in_range r e = ap in_range e ∙ record_in_range (held_in d) f.held s k.range k.good

    -- and read as what it holds and that state
    pub reads : {A : Type 0} (g : Held → State → A) → g (held_in (in_state d s)) (state_in (in_state d s)) ≡ g (held_in d) s
    reads g = read_as (held_in d) f.held s k.range g
