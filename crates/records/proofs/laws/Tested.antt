-- What the loops over the arrays test, one after the other, is the test of a record's range.
-- Assumes nothing.
use Rattle.std.specs.Prelude.{◌≡◌, refl, false, ◌&&◌, ℕ, zero, suc, ◌-◌, ◌≤◌, ◌<◌, eqb, get_or}
use Rattle.std.proofs.Common.{sym, ◌∙◌, true≢false, arith}
use Rattle.std.proofs.Math.Path.{ap}
use Rattle.std.proofs.Math.Bool.{Bool, true}
use Rattle.std.proofs.Math.Decide.{dec_lt}
use Rattle.records.specs.Rules.{ticks_of}
use Rattle.finite.specs.Finite.{Below, all_to}
use Rattle.finite.proofs.laws.Decided.{by_test, every, three, within_decides}
use Rattle.std.proofs.lemmas.Bool.{and_parts}
use Rattle.std.proofs.lemmas.Bool.Decides.{Decides-and, Decides-eqb, Decides-like, not_from_Decides, same_from_decides}
use Rattle.std.specs.Bool.{Decides}
use Rattle.finite.proofs.laws.Tests.{by_cases, leb_decides}
use Rattle.model.specs.Phase.{Choice}
use Rattle.model.specs.Ranges.{InTable}
use Rattle.model.specs.Tasks.{Tasks}
use Rattle.model.proofs.laws.Ranges.{few_of}
use Rattle.promise.specs.Rules.{State, stated}
use Rattle.records.specs.Lent.{changing_all, job_at, piece_at, run_in, running_all, since_at}
use Rattle.records.specs.Ranges.{changing_test, in_range, run_test}
use Rattle.records.specs.Record.{state_in}
use Rattle.records.specs.Held.{counts_in, held_in, held_test, tasks_in}
use Rattle.records.specs.declared.Dispatcher.{Dispatcher}
use Rattle.records.proofs.laws.Fields.{Long}
use Rattle.records.proofs.laws.Held.{held_decides}
use Rattle.records.proofs.laws.Lent.{all_alike, all_both, itself}
use Rattle.records.proofs.laws.InRange.{ChangingP, NowP, RunP, Within, changing_decides, run_decides}
use Rattle.records.proofs.laws.Views.{due_of_views}

-- a second test matters only where the first passes
and_where : (a : Bool) {b c : Bool} → (a ≡ true → b ≡ c) → (a && b) ≡ (a && c)
and_where true e = e refl
and_where false e = refl

-- a running piece, where two ways to find its length agree
run_alike : (run n : ℕ) (u : Bool) (ticks m m' : ℕ) → (¬ (run ≡ 0) → run ≤ n → u ≡ true → m ≡ m') → run_in run n u ticks m ≡ run_in run n u ticks m'
run_alike run n u ticks m m' e =
    same_from_decides _ _
    (run_decides run n u ticks m)
    (Decides-like _ (go m' m (λ h l b. sym (e h l b))) (go m m' e) (run_decides run n u ticks m'))
  where
    go : (a b : ℕ) → (¬ (run ≡ 0) → run ≤ n → u ≡ true → a ≡ b) → RunP run n u ticks a → RunP run n u ticks b
    go a b f r = (r.0, λ h. let t = r.1 h in (t.0, t.1, (t.2.0, omega (arith, t.2.1, f h t.0 t.1))))

module _ (d : Dispatcher) (long : Long d) where
  abbrev S : Tasks
  S = tasks_in d

  abbrev x : Choice
  x = counts_in d

  abbrev s : State
  s = state_in d

  -- ---- what a tick changes

  -- a job, but for the most of its piece
  abbrev NearP : ℕ → Type 0
  NearP i =
      (s.busy i ≡ true → (s.left i ≤ S.D i) × Within 1 (S.m i) (s.phase i) × (1 ≤ s.piece i)) ×
      (¬ (s.busy i ≡ true) → (s.left i ≡ 0) × (s.phase i ≡ 0) × (s.piece i ≡ 0))

  abbrev LentP : ℕ → Type 0
  LentP i = ((s.since i ≤ S.T i) × ((get_or d.unfinished i 0 ≤ 1) × NearP i)) × (s.piece i ≤ x i (s.phase i - 1))

  lent_decides : (i : ℕ) → Decides ((since_at d i && job_at d i) && piece_at d i) (LentP i)
  lent_decides i =
      Decides-and _ _ (Decides-and _ _ (leb_decides (s.since i) (S.T i))
      (Decides-and _ _ (leb_decides (get_or d.unfinished i 0) 1)
      (by_test (itself (s.busy i))
      (three (leb_decides (s.left i) (S.D i)) (within_decides 1 (S.m i) (s.phase i)) (leb_decides 1 (s.piece i)))
      (three (Decides-eqb (s.left i) 0) (Decides-eqb (s.phase i) 0) (Decides-eqb (s.piece i) 0)))))
      (leb_decides (s.piece i) (x i (s.phase i - 1)))

  idle_flag : (i : ℕ) → get_or d.unfinished i 0 ≤ 1 → s.busy i ≡ false → get_or d.unfinished i 0 ≡ 0
  idle_flag i = go (get_or d.unfinished i 0)
    where
      go : (v : ℕ) → v ≤ 1 → eqb v 1 ≡ false → v ≡ 0
      go zero h e = refl
      go (suc zero) h e = absurd (true≢false e)
      go (suc (suc v)) h e = absurd (omega arith)

  module _ (t : InTable S) where
    from : (i : ℕ) → LentP i → ChangingP d i
    from i h = (
      λ l. (h.0.0, h.0.1.0, (λ b. let j = near.0 b in (j.0, j.1, (j.2, h.1)), near.1)),
      λ l.
          let z = t.no_task i (omega arith) in
          let b : s.busy i ≡ false = by_cases (s.busy i) (λ b. let j = near.0 b in absurd (omega (arith, j.1.0, j.1.1, z.no_phases))) (λ b. b) in
          let j = near.1 (not_from_Decides _ (itself (s.busy i)) b) in
          ((((omega (arith, h.0.0, z.no_spacing), idle_flag i h.0.1.0 b), j.0), j.1), j.2),
    )
      where
        near : NearP i
        near = h.0.1.1

    to : (i : ℕ) → ChangingP d i → LentP i
    to i h = go (dec_lt i S.n)
      where
        known : NowP d i → LentP i
        known n =
            let j = n.2 in (
              (n.0, (n.1, (λ b. let a = j.0 b in (a.0, a.1, a.2.0), j.1))),
              by_cases (s.busy i) (λ b. (j.0 b).2.1) (λ b. let z = j.1 (not_from_Decides _ (itself (s.busy i)) b) in omega (arith, z.2)),
            )

        go : Dec (i < S.n) → LentP i
        go (yes l) = known (h.0 l)
        go (no l) =
            let z = h.1 l in
            known (
              omega (arith, z.0.0.0.0),
              omega (arith, z.0.0.0.1),
              (λ b. absurd (not_from_Decides _ (itself (s.busy i)) (ap (λ v. eqb v 1) z.0.0.0.1) b), λ b. (z.0.0.1, z.0.1, z.1)),
            )

    changing_are : ((all_to 32 (since_at d) && all_to 32 (job_at d)) && all_to 32 (piece_at d)) ≡ all_to 32 (changing_test d)
    changing_are =
        ap (λ b. b && all_to 32 (piece_at d)) (sym (all_both 32 (since_at d) (job_at d))) ∙
        sym (all_both 32 (λ i. since_at d i && job_at d i) (piece_at d)) ∙
        all_alike 32 (λ i. (since_at d i && job_at d i) && piece_at d i) (changing_test d)
        (λ i l. same_from_decides _ _ (lent_decides i) (Decides-like _ (to i) (from i) (changing_decides d i)))

    -- ---- the running piece

    -- its ticks, in the view and straight from the arrays
    due_alike : Below 32 (ChangingP d) → ¬ (s.run ≡ 0) → s.run ≤ S.n → s.busy (s.run - 1) ≡ true →
        ticks_of d s.run ≡ stated S x (s.run - 1) (s.phase (s.run - 1)) (s.piece (s.run - 1))
    due_alike now h l b =
        let e : s.run ≡ suc (s.run - 1) = omega arith in
        let j = ((now (s.run - 1) (omega (arith, t.tasks))).0 (omega arith)).2.0 b in
        ap (ticks_of d) e ∙ due_of_views d (s.run - 1) (omega (arith, j.1.0, j.1.1, (few_of S t).phases (s.run - 1)))

    run_is : Below 32 (ChangingP d) → run_in s.run S.n (s.busy (s.run - 1)) s.ticks (ticks_of d s.run) ≡ run_test S x s
    run_is now = run_alike s.run S.n (s.busy (s.run - 1)) s.ticks (ticks_of d s.run) _ (due_alike now)

  -- ---- all of them

  pub together : ((held_test (held_in d) && changing_all d) && running_all d) ≡ in_range d
  unfolding in_range
  together =
      let W : Bool = held_test (held_in d) in
      let in_table : W ≡ true → InTable S = λ e. ((held_decides d long).0 e).table in
      ap (λ b. b && running_all d) (and_where W (λ e. changing_are (in_table e))) ∙
      and_where (W && all_to 32 (changing_test d))
      (λ e.
      let t = and_parts W (all_to 32 (changing_test d)) e in
      run_is (in_table t.0) ((every 32 (changing_test d) (ChangingP d) (changing_decides d)).0 t.1))
