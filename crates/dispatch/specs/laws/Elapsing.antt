-- Step 4 on the record's arrays: the loop that lets time go on.
-- Assumes nothing.
use Rattle.std.specs.Prelude.{◌≡◌, refl, ℕ, ◌+◌, ◌-◌, ◌^◌, ◌≤◌, ◌<◌, min, get_or, set}
use Rattle.std.proofs.Common.{ap, ◌∙◌, arith}
use Rattle.std.proofs.Math.Decide.{dec_lt}
use Rattle.std.proofs.Math.Nat.{min_comm}
use Rattle.finite.proofs.laws.Lists.{filled_more}
use Rattle.model.specs.Ranges.{spacing_most}
use Rattle.promise.specs.Rules.{State, elapse}
use Rattle.records.specs.Record.{state_in}
use Rattle.records.specs.Held.{tasks_in}
use Rattle.records.specs.declared.Dispatcher.{Dispatcher}
use Rattle.records.proofs.laws.Fields.{Fields, Long}
use Rattle.dispatch.specs.Steps.{Elapses}
use Rattle.dispatch.specs.laws.Updates.{filled_kept, filled_own, filling, filling_all, in_state_lem, jobs_alike, own_flag, with_jobs}

-- the state a tick later
abbrev pub elapsed_state : Dispatcher → State
elapsed_state d = elapse (tasks_in d) (state_in d)

-- a spacing count has room for one more
pub since_fits : (d : Dispatcher) → Fields d → (i : ℕ) (r : Dispatcher) → r ≡ filling d (elapsed_state d) i → get_or r.since i 0 + 1 < 2 ^ 32
unfolding filling
since_fits d f i r e =
    let own : get_or r.since i 0 ≡ get_or d.since i 0 = ap (λ (r : Dispatcher). get_or r.since i 0) e ∙ filled_own i _ d.since in
    omega (arith, own, f.state.since i, spacing (dec_lt i d.tasks))
  where
    spacing : Dec (i < d.tasks) → get_or d.spacing i 0 ≤ spacing_most
    spacing (yes l) = (f.held.table.task i l).spacing_at_most
    spacing (no l) = omega (arith, (f.held.table.no_task i (omega arith)).no_spacing)

-- one turn
pub ages : (d : Dispatcher) → Long d → Fields d → (i v w : ℕ) (r : Dispatcher) → i < 32 → r ≡ filling d (elapsed_state d) i →
    v ≡ min (get_or r.since i 0 + 1) (get_or r.spacing i 0) → w ≡ get_or r.left i 0 - 1 →
    with_jobs r (set r.since i v) r.unfinished (set r.left i w) r.phase r.piece r.running r.ticks ≡ filling d (elapsed_state d) (i + 1)
unfolding filling
ages d long f i v w r l e hv hw =
    ap (λ (r : Dispatcher). with_jobs r (set r.since i v) r.unfinished (set r.left i w) r.phase r.piece r.running r.ticks) e ∙
    jobs_alike d
    (filled_more i _ _ _ v refl (hv ∙ ap (λ (r : Dispatcher). min (get_or r.since i 0 + 1) (get_or r.spacing i 0)) e ∙ ap (λ z. min (z + 1) (get_or d.spacing i 0)) (filled_own i _ d.since) ∙ min_comm _ _))
    (filled_kept i _ _ (own_flag d long f i l))
    (filled_more i _ _ _ w refl (hw ∙ ap (λ (r : Dispatcher). get_or r.left i 0 - 1) e ∙ ap (λ z. z - 1) (filled_own i _ d.left)))
    (filled_kept i _ _ refl)
    (filled_kept i _ _ refl)
    refl refl

-- the whole step
pub elapses_by : (d : Dispatcher) → Long d → Fields d → (i : ℕ) (r : Dispatcher) → i ≡ 32 → r ≡ filling d (elapsed_state d) i → Elapses d r
elapses_by d long f i r last e =
    record { moved = e ∙ ap (filling d (elapsed_state d)) last ∙ filling_all d (elapsed_state d) long ∙ in_state_lem d long f (elapsed_state d) }
