-- What holds in each state that the walk reaches, so that nothing wraps.
-- Assumes nothing.
use Rattle.std.specs.Prelude.{◌≡◌, refl, true, ℕ, ◌-◌, ◌≤◌, ◌<◌, get_or}
use Rattle.std.proofs.Common.{◌∙◌, ⊎_elim, le_refl, le_trans, arith}
use Rattle.std.proofs.Math.Nat.{min-eq_left, min-eq_right}
use Rattle.std.proofs.lemmas.List.{get_or-replicate}
use Rattle.finite.specs.Finite.{Below}
use Rattle.finite.proofs.laws.Tests.{by_cases, le_or_lt}
use Rattle.model.specs.Arrays.{Arrays, as_tasks}
use Rattle.model.specs.Ranges.{horizon_most}
use Rattle.model.specs.Phase.{Phases, phases_of}
use Rattle.model.specs.Tasks.{Each, Tasks}
use Rattle.model.proofs.laws.Phases.{Laws}
use Rattle.pieces.specs.Bounds.{budget_most}
use Rattle.pieces.specs.Task.{Roomy}
use Rattle.pieces.specs.laws.Task.{budget_at_most, room_far, work_in}
use Rattle.walk.specs.Deadlines.{Earliest, next_most}
use Rattle.walk.specs.Stuck.{BeforeStop, WalksOn}
use Rattle.walk.specs.Take.{BeforePoint}
use Rattle.walk.specs.Walk.{PointStep, Reached, WalkState, Walkable, start, start_of, step}
use Rattle.walk.proofs.laws.Deadlines.{cond_cases}
use Rattle.walk.proofs.laws.Limits.{few_tasks, laws, task_in}
use Rattle.walk.proofs.laws.Stuck.{not_both}

-- ---- margins, for any kind of phases

-- a larger margin has room too, and needs no larger count
pub need_falls : (S : Tasks) (P : Phases) → Laws S P → Each S (λ i j. (low high : ℕ) → P.room i j low ≡ true → low ≤ high → (P.room i j high ≡ true) × (P.need i j high ≤ P.need i j low))
need_falls S P laws i j l k low high room le =
    let x : ℕ = P.need i j low in
    let fits = laws.need_enough i j l k low x room (laws.need_allowed i j l k low room) (le_refl x) in
    laws.need_least i j l k high x (laws.need_allowed i j l k low room) (le_trans fits le)

-- ---- states

pub record Bounded (a : Arrays) (h : ℕ) (s : WalkState) : Type 0 where
  pub demand : s.demand ≤ s.last
  pub points : s.points ≤ s.last
  pub last : s.last ≤ h
  pub low : s.low ≤ horizon_most
  pub ahead : Below a.tasks (λ i. s.last < get_or s.known.next i 0)
  pub near : Below a.tasks (λ i. get_or s.known.next i 0 ≤ next_most)
  pub budgets : Below a.tasks (λ i. get_or s.known.budget i 0 ≤ budget_most)
  pub room : Below a.tasks (λ i. s.last < get_or a.deadline i 0 → Below (get_or a.phases i 0) (λ j. (phases_of (as_tasks a)).room i j s.low ≡ true))

-- what else holds in each state that is reached: a task before its deadline waits for it, and a task after it has its margin
pub record Settled (a : Arrays) (s : WalkState) : Type 0 where
  pub fresh : Below a.tasks (λ i. s.last < get_or a.deadline i 0 → get_or s.known.next i 0 ≡ get_or a.deadline i 0)
  pub cut : Below a.tasks (λ i. get_or a.deadline i 0 ≤ s.last → Roomy (as_tasks a) (get_or s.known.cuts i 0) i)

module _ (a : Arrays) (h : ℕ) (lim : Walkable a h) where
  -- a task whose deadline is the point that is taken has its phases in range, with room under the least margin
  due_phases : (s : WalkState) → Bounded a h s → (t : ℕ) → s.last < t → (i : ℕ) → i < a.tasks → get_or a.deadline i 0 ≡ t → Roomy (as_tasks a) s.low i
  due_phases s bd t later i l e =
      record {
        task = omega (arith, few_tasks a h lim);
        few = (task_in a h lim i l).phases_at_most;
        low = bd.low;
        phase = λ j k. work_in (as_tasks a) i j (lim.items.phase i j l k);
        room = bd.room i l (omega arith);
      }

  -- the next point lies past the last
  pub later : (s : WalkState) (t : ℕ) → Bounded a h s → Earliest a.tasks s.known.next t → s.last < t
  later s t bd l = rw (← l.met.2) (bd.ahead l.met.0 l.met.1)

  bounded_start : Bounded a h (start_of a)
  bounded_start =
      record {
        demand = omega arith;
        points = omega arith;
        last = omega arith;
        low = omega arith;
        ahead = λ i l. (task_in a h lim i l).deadline_least;
        near = λ i l. omega (arith, (task_in a h lim i l).deadline_most, (task_in a h lim i l).spacing_at_most);
        budgets = λ i l. rw (get_or-replicate {A = ℕ} 32 i 0 0 (omega (arith, few_tasks a h lim))) (omega arith);
        room = λ i l d j k. room_far (as_tasks a) i j (work_in (as_tasks a) i j (lim.items.phase i j l k));
      }

  bounded_step : (t : ℕ) (s e : WalkState) → Bounded a h s → PointStep a h t s e → WalksOn a t e.demand → Bounded a h e
  bounded_step t s e bd st go =
      let past : s.last < t = later s t bd st.earliest in
      let dl = st.taken.deadlines.each in
      let bg = st.taken.budgets in
      record {
        demand = omega (arith, go.fits, st.last);
        points = omega (arith, st.points, st.last, bd.points);
        last = omega (arith, st.last, st.within);
        low = omega (arith, st.low, bd.low);
        ahead = λ i l. rw (st.last, dl.below i l)
            (cond_cases (λ v. t < v) (get_or s.known.next i 0) t _ _ (λ eq. omega (arith, (task_in a h lim i l).spacing_least)) (λ ne. omega (arith, st.earliest.below i l)));
        near = λ i l. rw (dl.below i l)
            (cond_cases (λ v. v ≤ next_most) (get_or s.known.next i 0) t _ _ (λ eq. omega (arith, st.within, lim.horizon, (task_in a h lim i l).spacing_at_most)) (λ ne. bd.near i l));
        budgets = λ i l. rw (bg.budget.below i l)
            (cond_cases (λ v. v ≤ budget_most) (get_or a.deadline i 0) t _ _
            (λ eq. budget_at_most (as_tasks a) i s.low (due_phases s bd t past i l eq))
            (λ ne. bd.budgets i l));
        room = λ i l d j k. roomier i l (omega (arith, st.last)) j k (bd.room i l (omega (arith, st.last)) j k);
      }
    where
      -- no phase that blocks is stuck, so each has room in the lesser margin
      roomier : (i : ℕ) → i < a.tasks → t < get_or a.deadline i 0 → (j : ℕ) → j < get_or a.phases i 0 → (phases_of (as_tasks a)).room i j s.low ≡ true → (phases_of (as_tasks a)).room i j e.low ≡ true
      roomier i l d j k old =
          rw st.low
          (⊎_elim
          (λ (le : s.low ≤ t - e.demand). rw (min-eq_left le) old)
          (λ (lt : t - e.demand < s.low). let le : t - e.demand ≤ s.low = omega arith in rw (min-eq_right le) (by_cases ((phases_of (as_tasks a)).room i j (t - e.demand)) (λ y. y) (λ z. absurd (go.free i l (j, k, (d, z))))))
          (le_or_lt s.low (t - e.demand)))

  pub bounded : {s : WalkState} → Reached a h s → Bounded a h s
  bounded start = bounded_start
  bounded (step t {s} {e} r st go) = bounded_step t s e (bounded r) st go

  settled_start : Settled a (start_of a)
  settled_start = record { fresh = λ i l d. refl; cut = λ i l d. absurd (omega (arith, (task_in a h lim i l).deadline_least, d)) }

  settled_step : (t : ℕ) (s e : WalkState) → Bounded a h s → Settled a s → PointStep a h t s e → Settled a e
  settled_step t s e bd was st =
      let past : s.last < t = later s t bd st.earliest in
      record {
        fresh = λ i l d.
            let wait : get_or s.known.next i 0 ≡ get_or a.deadline i 0 = was.fresh i l (omega (arith, st.last)) in
            st.taken.deadlines.each.below i l ∙ cond_cases (λ v. v ≡ get_or a.deadline i 0) (get_or s.known.next i 0) t _ _ (λ eq. absurd (omega (arith, st.last))) (λ ne. wait);
        cut = λ i l d.
            rw (st.taken.budgets.cuts.below i l)
            (cond_cases (λ v. Roomy (as_tasks a) v i) (get_or a.deadline i 0) t _ _
            (λ eq. due_phases s bd t past i l eq)
            (λ ne. ⊎_elim (was.cut i l) (λ lt. absurd (omega (arith, was.fresh i l lt, st.earliest.below i l, st.last))) (le_or_lt (get_or a.deadline i 0) s.last)));
      }

  pub settled_of : {s : WalkState} → Reached a h s → Settled a s
  settled_of start = settled_start
  settled_of (step t {s} {e} r st go) = settled_step t s e (bounded r) (settled_of r) st

  -- where every point up to h has been taken, every task has its margin
  pub all_cut : (s : WalkState) → Reached a h s → (t : ℕ) → Earliest a.tasks s.known.next t → h < t → Below a.tasks (λ i. Roomy (as_tasks a) (get_or s.known.cuts i 0) i)
  all_cut s r t l beyond i il =
      let was = settled_of r in
      ⊎_elim (was.cut i il) (λ lt. absurd (omega (arith, was.fresh i il lt, l.below i il, lim.early i il))) (le_or_lt (get_or a.deadline i 0) s.last)

  -- ---- what the walk's calls ask

  module _ {s : WalkState} (r : Reached a h s) {t : ℕ} (earliest : Earliest a.tasks s.known.next t) where
    -- a state that is reached is ready for its next point
    pub ready : t ≤ h → BeforePoint a t s.low s.known
    ready within =
        let bd = bounded r in
        let past = later s t bd earliest in
        record {
          some = lim.some_task;
          few = few_tasks a h lim;
          point = omega (arith, lim.horizon);
          spacing = λ i l. (task_in a h lim i l).spacing_at_most;
          near = bd.near;
          budgets = bd.budgets;
          phases = λ i l e. due_phases s bd t past i l e;
          fresh = λ i l e. (settled_of r).fresh i l (omega arith) ∙ e;
        }

    -- and in a margin that is not under the least so far, every phase that blocks at the point has room
    pub before_stop : (demand : ℕ) → BeforeStop a t demand s.low
    before_stop demand =
        let bd = bounded r in
        let past = later s t bd earliest in
        record {
          few = few_tasks a h lim;
          phases = λ i l. (task_in a h lim i l).phases_at_most;
          roomy = λ le i l z.
              not_both (need_falls (as_tasks a) (phases_of (as_tasks a)) (laws a h lim) i z.0 l z.1 s.low (t - demand) (bd.room i l (omega (arith, z.2.0)) z.0 z.1) le).0 z.2.1;
        }
