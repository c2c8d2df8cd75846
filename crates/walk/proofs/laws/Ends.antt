-- What the loop of the walk keeps from point to point, and the two ways in which it ends.
-- Assumes nothing.
use Rattle.std.specs.Prelude.{◌≡◌, refl, List, ℕ, ◌+◌, ◌-◌, ◌≤◌, ◌<◌, min, length, replicate, take}
use Rattle.std.proofs.Common.{sym, ap, subst, arith}
use Rattle.model.specs.Arrays.{Arrays}
use Rattle.model.specs.Ranges.{horizon_most}
use Rattle.walk.specs.Deadlines.{Earliest}
use Rattle.walk.specs.End.{EndAccepted, EndRefused}
use Rattle.walk.specs.Stuck.{BeforeStop, WalksOn, StopsAt}
use Rattle.walk.specs.Take.{BeforePoint, PointTaken}
use Rattle.walk.specs.Walk.{PointStep, Reached, WalkState, Walkable, start, start_of, step}
use Rattle.walk.specs.declared.points.Examined.{Examined}
use Rattle.walk.specs.declared.points.Known.{Known}
use Rattle.walk.proofs.laws.Deadlines.{earliest_front}
use Rattle.walk.proofs.laws.Walk.{before_stop, bounded, later, ready}

-- the loop's variables, with the last point
abbrev state_of : Known → (low demand points last : ℕ) → WalkState
state_of known low demand points last = record { known = known; low = low; demand = demand; points = points; last = last }

-- the loop stands before its next point t
pub record Standing (a : Arrays) (h : ℕ) (known : Known) (low demand points t : ℕ) : Type 0 where
  pub lim : Walkable a h
  pub last : ℕ
  pub reached : Reached a h (state_of known low demand points last)
  pub earliest : Earliest a.tasks known.next t

pub standing_start : {a : Arrays} {h t : ℕ} {next : List ℕ} → Walkable a h → next ≡ a.deadline → Earliest (length (take a.tasks next)) (take a.tasks next) t
    → Standing a h (record { next = next; budget = replicate 32 0; cuts = replicate 32 0 }) horizon_most 0 0 t
standing_start {a} {h} {t} {next} lim e f =
    let s : Reached a h (start_of a) = start in
    record {
      lim = lim;
      last = 0;
      reached = subst (λ (xs : List ℕ). Reached a h (state_of (record { next = xs; budget = replicate 32 0; cuts = replicate 32 0 }) horizon_most 0 0 0)) (sym e) s;
      earliest = earliest_front (omega (arith, ap length e, lim.sized.deadline, lim.items.tasks)) f;
    }

module _ {a : Arrays} {h : ℕ} {known : Known} {low demand points t : ℕ} (k : Standing a h known low demand points t) where
  -- what is answered when the points up to h are taken
  pub standing_accepts : h < t → EndAccepted a h points known.cuts
  standing_accepts beyond = record { end = _; reached = k.reached; next = _; earliest = k.earliest; beyond = beyond; examined = refl; margins = refl }

  -- nothing wraps
  pub standing_small : (demand ≤ horizon_most) × (points ≤ horizon_most)
  standing_small =
      let b = bounded a h k.lim k.reached in
      (omega (arith, b.demand, b.last, k.lim.horizon), omega (arith, b.points, b.last, k.lim.horizon))

  -- what its two calls ask
  pub standing_ready : t ≤ h → BeforePoint a t low known
  standing_ready = ready a h k.lim k.reached k.earliest

  pub standing_stop : (d : ℕ) → BeforeStop a t d low
  standing_stop = before_stop a h k.lim k.reached k.earliest

  module _ {known' : Known} {examined : Examined} (within : t ≤ h) (taken : PointTaken a t low known known' examined) where
    -- the demand at the point
    abbrev demand_now : ℕ
    demand_now = demand + examined.added

    -- the point is a step
    stepped : (low' : ℕ) → low' ≡ min low (t - demand_now) → PointStep a h t (state_of known low demand points k.last) (state_of known' low' demand_now (points + 1) t)
    stepped low' e = record { earliest = k.earliest; within = within; examined = examined; taken = taken; demand = refl; points = refl; low = e; last = refl }

    -- the walk stops there
    pub standing_refuses : {task phase : ℕ} → StopsAt a t demand_now task phase → EndRefused a h (points + 1) (record { witness = t; demand = demand_now; task = task; phase = phase })
    standing_refuses s = record { from = _; reached = k.reached; end = _; step = stepped _ refl; demand = refl; examined = refl; stops = s }

    -- or it goes on to the next point, which lies after this one
    pub standing_more : WalksOn a t demand_now → {low' : ℕ} → low' ≡ min low (t - demand_now) → Standing a h known' low' demand_now (points + 1) examined.soonest
    standing_more go {low'} e = record { lim = k.lim; last = t; reached = step t k.reached (stepped low' e) go; earliest = taken.deadlines.earliest }

    pub standing_later : WalksOn a t demand_now → t < examined.soonest
    standing_later go =
        let r : Reached a h (state_of known' (min low (t - demand_now)) demand_now (points + 1) t) = step t k.reached (stepped _ refl) go in
        later a h k.lim _ examined.soonest (bounded a h k.lim r) taken.deadlines.earliest
