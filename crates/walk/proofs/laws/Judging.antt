-- The walk's states are those of document 01's judge, up to any end h: `walking` says so, `accepting` and `refusing` what its two ends give. Of the
-- phases nothing is used but their laws.
-- Assumes nothing.
use Rattle.std.specs.Prelude.{◌≡◌, refl, true, ◌⊎◌, leb}
use Rattle.std.proofs.Math.Path.{sym, ap}
use Rattle.std.proofs.Common.{subst, ◌∙◌, inl, inr, zero-mul, le_of_eq, add-one, arith, le-leb, eq-eqb, ne_eqb}
use Rattle.std.proofs.Math.Logic.{⊎_elim}
use Prim.Native.Nat.{ℕ, suc, ◌*◌, ◌-◌, ◌≤◌, ◌<◌, min, max}
use Rattle.std.proofs.Math.Nat.{le_antisymm, min-eq_left, min-eq_right, max-eq_left, max-eq_right}
use Rattle.std.proofs.Math.ListN.{get_or}
use Rattle.std.proofs.lemmas.Bool.{lt-leb, true_from_ne_false, le-ltb, lt-ltb}
use Rattle.finite.specs.Finite.{Below}
use Rattle.std.specs.Prelude.{if◌then◌else◌}
use Rattle.finite.proofs.laws.Extremes.{min_attained, min_lower}
use Rattle.finite.proofs.laws.Sums.{sum_cong}
use Rattle.finite.proofs.laws.Tests.{le_or_lt}
use Rattle.model.specs.Arrays.{Arrays, as_tasks}
use Rattle.model.specs.Tasks.{Tasks, Each}
use Rattle.model.specs.Phase.{Choice, Phases, phases_of}
use Rattle.model.specs.Demand.{demand}
use Rattle.model.specs.Works.{demand_of}
use Rattle.model.specs.Walk.{above, raise}
use Rattle.model.specs.Verdict.{Blocked, FirstBlocked, Refused, by_demand, by_phase, margin}
use Rattle.model.proofs.laws.Jobs.{jobs_before}
use Rattle.model.proofs.laws.Phases.{Laws}
use Rattle.model.proofs.laws.Raise.{raise_kept, raise_raised}
use Rattle.model.proofs.laws.NextTest.{next_test, next_deadline}
use Rattle.model.proofs.laws.Verdict.{AcceptedUpTo}
use Rattle.model.proofs.laws.Walking.{Walking, walking_end, walking_raise, walking_refuse, walking_start}
use Rattle.pieces.specs.Task.{needs}
use Rattle.pieces.specs.laws.Task.{need_far, work_in}
use Rattle.walk.specs.Budgets.{least_budget}
use Rattle.walk.specs.Deadlines.{Earliest}
use Rattle.walk.specs.Stuck.{FirstStuck, WalksOn, StopsAt, blocked, overloaded}
use Rattle.walk.specs.Walk.{PointStep, Reached, WalkState, Walkable, start, start_of, step}
use Rattle.walk.proofs.laws.Demand.{demand_is, demand_step, demand_at, jobs_of, next_is}
use Rattle.walk.proofs.laws.Limits.{laws, sane, task_in}
use Rattle.walk.proofs.laws.Walk.{bounded, later, need_falls, settled_of}

-- the lesser of two margins needs the larger of the two counts
need_min : (S : Tasks) (P : Phases) → Laws S P → Each S (λ i j. (x y : ℕ) → P.room i j x ≡ true → P.room i j y ≡ true → P.need i j (min x y) ≡ max (P.need i j x) (P.need i j y))
need_min S P laws i j l k x y rx ry =
    ⊎_elim
    (λ (le : x ≤ y). ap (P.need i j) (min-eq_left le) ∙ sym (max-eq_left (need_falls S P laws i j l k x y rx le).1))
    (λ (lt : y < x). let le : y ≤ x = omega arith in ap (P.need i j) (min-eq_right le) ∙ sym (max-eq_right (need_falls S P laws i j l k y x ry le).1))
    (le_or_lt x y)

-- a task's budget goes by its own counts
cost_same : (S : Tasks) (P : Phases) → Laws S P → (x y : Choice) (i : ℕ) → i < S.n → Below (S.m i) (λ j. x i j ≡ y i j) → P.budget x i ≡ P.budget y i
cost_same S P laws x y i l e =
    le_antisymm (laws.cost_mono i l x y (λ j k. le_of_eq (e j k))) (laws.cost_mono i l y x (λ j k. le_of_eq (sym (e j k))))

eq_or_not : (a b : ℕ) → (a ≡ b) ⊎ (a ≡ b → ⊥)
eq_or_not a b = ⊎_elim (λ le. ⊎_elim (λ ge. inl (omega arith)) (λ lt. inr (λ e. omega arith)) (le_or_lt b a)) (λ lt. inr (λ e. omega arith)) (le_or_lt a b)

-- the margin that a task's counts are cut to: its own from its deadline on, before that the least so far
abbrev pub cut_of : Arrays → WalkState → ℕ → ℕ
cut_of a s i = if leb (get_or a.deadline i 0) s.last then get_or s.known.cuts i 0 else s.low

-- the walk's counts
abbrev pub choice_of : Arrays → WalkState → Choice
choice_of a s i j = (phases_of (as_tasks a)).need i j (cut_of a s i)

module _ (a : Arrays) (h : ℕ) (lim : Walkable a h) where
  -- the tasks, their phases
  abbrev S : Tasks
  S = as_tasks a

  abbrev P : Phases
  P = phases_of (as_tasks a)

  module _ (s : WalkState) (r : Reached a h s) (t : ℕ) (earliest : Earliest a.tasks s.known.next t) where
    past : s.last < t
    past = later a h lim s t (bounded a h lim r) earliest

    -- a task whose deadline is before the point was settled by the last point
    pub was_settled : (i : ℕ) → i < a.tasks → get_or a.deadline i 0 < t → get_or a.deadline i 0 ≤ s.last
    was_settled i l lt =
        ⊎_elim (λ le. le) (λ wait. absurd (omega (arith, (settled_of a h lim r).fresh i l wait, earliest.below i l))) (le_or_lt (get_or a.deadline i 0) s.last)

    -- the least of the next deadlines is the next test point
    next_test_lem : t ≡ next_test S s.last
    unfolding next_test next_deadline
    next_test_lem =
        let f : ℕ → ℕ = λ i. next_deadline (get_or a.spacing i 0) (get_or a.deadline i 0) s.last in
        let (k, kl, ke) = min_attained (a.tasks - 1) f in
        let (i, l, e) = earliest.met in
        let here : k < a.tasks = omega (arith, lim.some_task) in
        le_antisymm
        (omega (arith, earliest.below k here, next_is a h lim r k here, ke))
        (omega (arith, min_lower (a.tasks - 1) f i (omega (arith, lim.some_task)), next_is a h lim r i l))

  budget_step : (t : ℕ) (s e : WalkState) → Reached a h s → PointStep a h t s e → (i : ℕ) → i < a.tasks
      → (get_or a.deadline i 0 ≤ s.last → get_or s.known.budget i 0 ≡ least_budget a (get_or s.known.cuts i 0) i)
      → get_or a.deadline i 0 ≤ t → get_or e.known.budget i 0 ≡ least_budget a (get_or e.known.cuts i 0) i
  budget_step t s e r st i l ih le =
      rw (st.taken.budgets.budget.below i l, st.taken.budgets.cuts.below i l)
      (⊎_elim
      (λ eq. rw (eq-eqb (get_or a.deadline i 0) t eq))
      (λ ne. rw (ne_eqb (get_or a.deadline i 0) t ne) (ih (was_settled s r t st.earliest i l (omega arith))))
      (eq_or_not (get_or a.deadline i 0) t))

  -- the budget that the walk carries for a settled task is that of the least counts for its margin
  budget_is : {s : WalkState} → Reached a h s → (i : ℕ) → i < a.tasks → get_or a.deadline i 0 ≤ s.last → get_or s.known.budget i 0 ≡ least_budget a (get_or s.known.cuts i 0) i
  budget_is start i l le = absurd (omega (arith, le, (task_in a h lim i l).deadline_least))
  budget_is (step t {s} {e} r st go) i l le = budget_step t s e r st i l (λ before. budget_is r i l before) (rw st.last at le)

  module _ (t : ℕ) (s e : WalkState) (r : Reached a h s) (st : PointStep a h t s e) where
    -- a task that is settled at the point was cut to the margin that the earlier choice has
    cut_next : (i : ℕ) → i < a.tasks → get_or a.deadline i 0 ≤ t → get_or e.known.cuts i 0 ≡ cut_of a s i
    cut_next i l le =
        st.taken.budgets.cuts.below i l
        ∙ ⊎_elim
        (λ (eq : get_or a.deadline i 0 ≡ t). rw (eq-eqb (get_or a.deadline i 0) t eq, lt-leb (get_or a.deadline i 0) s.last (omega (arith, past s r t st.earliest))))
        (λ (ne : get_or a.deadline i 0 ≡ t → ⊥). rw (ne_eqb (get_or a.deadline i 0) t ne, le-leb (get_or a.deadline i 0) s.last (was_settled s r t st.earliest i l (omega arith))))
        (eq_or_not (get_or a.deadline i 0) t)

    -- so its budget is that of the earlier choice
    budget_here : (i : ℕ) → i < a.tasks → get_or a.deadline i 0 ≤ t → get_or e.known.budget i 0 ≡ P.budget (choice_of a s) i
    budget_here i l le =
        budget_step t s e r st i l (budget_is r i l) le ∙ ap (λ (m : ℕ). least_budget a m i) (cut_next i l le)
        ∙ cost_same S P (laws a h lim) (needs P (cut_of a s i)) (choice_of a s) i l (λ j k. refl)

    -- the demand that the walk carries at the point is that of the earlier choice
    demand_here : e.demand ≡ demand_of S P (choice_of a s) t
    unfolding demand
    demand_here =
        demand_step a h lim t s e r st (demand_is a h lim r) ∙ ap (demand_at a e.known.budget) st.last
        ∙ sum_cong a.tasks _ _ (λ i l.
        ⊎_elim
        (λ (le : get_or a.deadline i 0 ≤ t). ap (λ (k : ℕ). jobs_of a i t * k) (budget_here i l le))
        (λ late. rw (jobs_before (get_or a.spacing i 0) (get_or a.deadline i 0) t late) (zero-mul (get_or e.known.budget i 0) ∙ sym (zero-mul (P.budget (choice_of a s) i))))
        (le_or_lt (get_or a.deadline i 0) t))

    margin_here : t - e.demand ≡ margin S P (choice_of a s) t
    unfolding margin
    margin_here = ap (λ (d : ℕ). t - d) demand_here

    module _ (go : WalksOn a t e.demand) where
      -- no phase of a task that blocks is stuck
      roomy : Each S (λ i j. t < get_or a.deadline i 0 → P.room i j (t - e.demand) ≡ true)
      roomy i j l k late = true_from_ne_false (P.room i j (t - e.demand)) (λ z. go.free i l (j, k, (late, z)))

      -- the counts after the point are the earlier ones, raised
      raised : Each S (λ i j. choice_of a e i j ≡ raise S P t (t - e.demand) (choice_of a s) i j)
      raised i j l k =
          ⊎_elim
          (λ (le : get_or a.deadline i 0 ≤ t).
          let kept = raise_kept P (above S t) (t - e.demand) (choice_of a s) i j (le-ltb t (get_or a.deadline i 0) (omega arith)) in
          rw (st.last, le-leb (get_or a.deadline i 0) t le) (ap (P.need i j) (cut_next i l le)) ∙ sym kept)
          (λ (lt : t < get_or a.deadline i 0).
          let more = raise_raised P (above S t) (t - e.demand) (choice_of a s) i j (lt-ltb t (get_or a.deadline i 0) lt) in
          let wait : s.last < get_or a.deadline i 0 = omega (arith, past s r t st.earliest) in
          let was : cut_of a s i ≡ s.low = rw (lt-leb (get_or a.deadline i 0) s.last wait) in
          rw (st.last, lt-leb (get_or a.deadline i 0) t lt, st.low)
          (need_min S P (laws a h lim) i j l k s.low (t - e.demand) ((bounded a h lim r).room i l wait j k) (roomy i j l k lt))
          ∙ sym (more ∙ ap (λ (m : ℕ). max (P.need i j m) (P.need i j (t - e.demand))) was))
          (le_or_lt (get_or a.deadline i 0) t)

  -- at the start every count is 1
  ones_first : Each S (λ i j. choice_of a (start_of a) i j ≡ 1)
  ones_first i j l k = rw (lt-leb (get_or a.deadline i 0) 0 (task_in a h lim i l).deadline_least) (need_far S i j (work_in S i j (lim.items.phase i j l k)))

  -- in each state that is reached, the counts are least among those that work up to the last point, and the points are counted
  walking : {s : WalkState} → Reached a h s → Walking S P s.last (choice_of a s) s.points
  walking start = walking_start S (sane a h lim) P (laws a h lim) _ ones_first
  walking (step t {s} {e} r st go) =
      let m = margin_here t s e r st in
      let w = walking_raise S (sane a h lim) P (laws a h lim) s.last (choice_of a s) s.points (walking r) t (next_test_lem s r t st.earliest)
      (rw (demand_here t s e r st) at go.fits)
      (λ i j l k late. rw m at (roomy t s e r st go i j l k late))
      (choice_of a e) (λ i j l k. rw m at (raised t s e r st go i j l k)) in
      let p : suc s.points ≡ e.points = omega (arith, st.points) in
      subst (λ (k : ℕ). Walking S P k (choice_of a e) e.points) (sym st.last)
      (subst (λ (k : ℕ). Walking S P t (choice_of a e) k) p w)

  -- every test point up to h was taken
  pub accepting : (s : WalkState) → Reached a h s → (t : ℕ) → Earliest a.tasks s.known.next t → h < t → AcceptedUpTo S P h (choice_of a s) s.points
  accepting s r t earliest beyond =
      walking_end S (sane a h lim) P (laws a h lim) s.last (choice_of a s) s.points (walking r) t (next_test_lem s r t earliest) h (bounded a h lim r).last beyond

  -- the first task that has a phase stuck at t, and the first such phase
  first_blocked : (t M i j : ℕ) → FirstStuck a t M i j → FirstBlocked S P t M i j
  first_blocked t M i j f =
      let stuck = f.phase.here in
      record {
        task = f.task.within;
        phase = f.phase.within;
        above = stuck.0;
        no_room = stuck.1;
        earlier_tasks = λ k kl late b bl. true_from_ne_false (P.room k b M) (λ z. f.task.earlier k kl (b, bl, (late, z)));
        earlier_phases = λ b bl. true_from_ne_false (P.room i b M) (λ z. f.phase.earlier b bl (stuck.0, z));
      }

  module _ (t : ℕ) (s e : WalkState) (r : Reached a h s) (st : PointStep a h t s e) where
    blocks : {i j : ℕ} → StopsAt a t e.demand i j → Blocked S P (choice_of a s) t i j
    blocks (overloaded over) = by_demand (rw (demand_here t s e r st) at over)
    blocks (blocked {i} {j} fits f) =
        rw (add-one i, add-one j)
        (by_phase (rw (demand_here t s e r st) at fits) (rw (margin_here t s e r st) at (first_blocked t (t - e.demand) i j f)))

    -- the point refuses
    pub refusing : {i j : ℕ} → StopsAt a t e.demand i j → Refused S P h t e.demand e.points i j
    refusing b =
        let p : e.points ≡ suc s.points = omega (arith, st.points) in
        let v = walking_refuse S (sane a h lim) P (laws a h lim) s.last (choice_of a s) s.points (walking r) t (next_test_lem s r t st.earliest) h st.within (blocks b) in
        rw (demand_here t s e r st, p) v
