-- The ranges of a view, and that every part of a tick keeps them, whoever goes first.
-- Assumes nothing.
use Rattle.std.specs.Prelude.{ℕ, zero, suc, ◌+◌, ◌-◌, ◌≤◌, ◌<◌, ◌≡◌, ◌⊎◌, true, false}
use Rattle.std.proofs.Common.{sym, ap, ◌∙◌, subst, inl, inr, true≢false, arith}
use Rattle.std.proofs.Math.Decide.{ℕ_discrete}
use Rattle.finite.proofs.laws.Tests.{by_cases}
use Rattle.promise.proofs.laws.View.{Admitted, Aged, Ask, Elapsed, GoesOn, Pass, Picked, Ranges, ViewedRun, Start, Started, Terms, Unchanged, Used, View, Views, Worked, goes_on, idles, rests, starts, works}

-- of the task whose piece runs
pub record Running (τ : Terms) (s : View) (j : ℕ) : Type 0 where
  pub task : j < τ.tasks.n
  pub unfinished : s.busy j ≡ true
  pub some : 1 ≤ s.ticks
  pub within : s.ticks ≤ s.rem j
  pub short : s.ticks ≤ τ.longest j

-- of a task with an unfinished job
pub record Pending (τ : Terms) (s : View) (i : ℕ) : Type 0 where
  pub left : s.left i ≡ τ.tasks.D i - s.since i
  pub some : 1 ≤ s.rem i
  pub most : s.rem i ≤ τ.cost i

-- of a view
pub record Sound (τ : Terms) (s : View) : Type 0 where
  pub since : (i : ℕ) → i < τ.tasks.n → s.since i ≤ τ.tasks.T i + τ.lag
  pub pending : (i : ℕ) → i < τ.tasks.n → s.busy i ≡ true → Pending τ s i
  pub running : (j : ℕ) → s.run ≡ suc j → Running τ s j

-- a piece runs, or no job is unfinished
abbrev pub Going : Terms → View → Type 0
Going τ s = ((j : ℕ) × (s.run ≡ suc j)) ⊎ ((i : ℕ) → i < τ.tasks.n → s.busy i ≡ false)

-- a view that stays leaves every task as it was
pub same_unchanged : (s s' : View) (i : ℕ) → s' ≡ s → Unchanged s s' i
same_unchanged s s' i e =
    record {
      busy = ap (λ x. x.busy i) e;
      since = ap (λ x. x.since i) e;
      left = ap (λ x. x.left i) e;
      rem = ap (λ x. x.rem i) e;
    }

pending_kept : (τ : Terms) (s s' : View) (i : ℕ) → Unchanged s s' i → Pending τ s i → Pending τ s' i
pending_kept τ s s' i κ p = omega arith

running_kept : (τ : Terms) (s s' : View) (j : ℕ) → Unchanged s s' j → s'.ticks ≡ s.ticks → Running τ s j → Running τ s' j
running_kept τ s s' j κ e r =
    record {
      task = r.task;
      unfinished = κ.busy ∙ r.unfinished;
      some = omega arith;
      within = omega arith;
      short = omega arith;
    }

start_sound : (τ : Terms) (s : View) → Start τ s → Sound τ s
start_sound τ s σ =
    record {
      since = λ i l. omega (arith, σ.rested i l);
      pending = λ i l b. absurd (true≢false (sym b ∙ σ.idle i l));
      running = λ j e. absurd (omega (arith, σ.run));
    }

module _ (τ : Terms) where
  -- ---- 1. admission
  module _ (s s' : View) (a : Ask) (ad : Admitted τ a s s') where
    -- a task with an unfinished job is not let in
    pub not_let_in : (i : ℕ) → i < τ.tasks.n → s.busy i ≡ true → a.let_in i ≡ false
    not_let_in i l b = by_cases (a.let_in i) (λ e. absurd (true≢false (sym b ∙ (ad.enters i l e).idle))) (λ e. e)

    pub admit_keeps : (i : ℕ) → i < τ.tasks.n → s.busy i ≡ true → Unchanged s s' i
    admit_keeps i l b = ad.keeps i l (not_let_in i l b)

    admit_sound : Ranges τ → Sound τ s → Sound τ s'
    admit_sound ρ ok = record { since = since; pending = pending; running = running }
      where
        since : (i : ℕ) → i < τ.tasks.n → s'.since i ≤ τ.tasks.T i + τ.lag
        since i l =
            by_cases
            (a.let_in i)
            (λ e. omega (arith, (ad.enters i l e).since, (ad.enters i l e).heard))
            (λ e. omega (arith, (ad.keeps i l e).since, ok.since i l))

        pending : (i : ℕ) → i < τ.tasks.n → s'.busy i ≡ true → Pending τ s' i
        pending i l b =
            by_cases
            (a.let_in i)
            (λ e. omega (arith, ad.enters i l e, ρ.costs i l))
            (λ e. pending_kept τ s s' i (ad.keeps i l e) (ok.pending i l (sym (ad.keeps i l e).busy ∙ b)))

        running : (j : ℕ) → s'.run ≡ suc j → Running τ s' j
        running j e =
            let r : Running τ s j = ok.running j (sym ad.run ∙ e) in
            running_kept τ s s' j (admit_keeps j r.task r.unfinished) ad.ticks r

  -- ---- 2. picking
  module _ (s s' : View) where
    pub pick_keeps : Picked τ s s' → (i : ℕ) → i < τ.tasks.n → Unchanged s s' i
    pick_keeps (goes_on j r e) i l = same_unchanged s s' i e
    pick_keeps (rests r h e) i l = same_unchanged s s' i e
    pick_keeps (starts j r σ) i l = σ.keeps i l

    pub pick_going : Picked τ s s' → Going τ s'
    pick_going (goes_on j r e) = inl (j, ap (λ x. x.run) e ∙ r)
    pick_going (rests r h e) = inr (λ i l. ap (λ x. x.busy i) e ∙ h i l)
    pick_going (starts j r σ) = inl (j, σ.run)

    start_running : (j : ℕ) → Started τ j s s' → (h : ℕ) → s'.run ≡ suc h → Running τ s' h
    start_running j σ h e =
        let κ : Unchanged s s' j = σ.keeps j σ.task in
        subst
        (Running τ s')
        (omega (arith, σ.run))
        (record {
          task = σ.task;
          unfinished = κ.busy ∙ σ.unfinished;
          some = σ.some;
          within = omega arith;
          short = σ.short;
        })

    pick_sound : Sound τ s → Picked τ s s' → Sound τ s'
    pick_sound ok (goes_on j r e) = subst (Sound τ) (sym e) ok
    pick_sound ok (rests r h e) = subst (Sound τ) (sym e) ok
    pick_sound ok (starts j r σ) =
        record {
          since = λ i l. omega (arith, (σ.keeps i l).since, ok.since i l);
          pending = λ i l b. pending_kept τ s s' i (σ.keeps i l) (ok.pending i l (sym (σ.keeps i l).busy ∙ b));
          running = start_running j σ;
        }

  -- ---- 3. the running piece uses one tick
  module _ (s s' : View) (a : Pass) (ok : Sound τ s) where
    used_since : (j : ℕ) → Used τ j a s s' → (i : ℕ) → i < τ.tasks.n → s'.since i ≡ s.since i
    used_since j u i l = go (ℕ_discrete i j)
      where
        go : Dec (i ≡ j) → s'.since i ≡ s.since i
        go (yes q) = subst (λ x. s'.since x ≡ s.since x) (sym q) u.since
        go (no q) = (u.others i l q).since

    used_pending : (j : ℕ) → s.run ≡ suc j → Used τ j a s s' → s'.busy j ≡ true → Pending τ s' j
    used_pending j r u b =
        let ρ : Running τ s j = ok.running j r in
        let p : Pending τ s j = ok.pending j ρ.task ρ.unfinished in
        by_cases
        a.finished
        (λ f. absurd (true≢false (sym b ∙ (u.done f).0)))
        (λ f. omega (arith, u.more f, u.since, p))

    used_running : (j : ℕ) → s.run ≡ suc j → Used τ j a s s' → (h : ℕ) → s'.run ≡ suc h → Running τ s' h
    used_running j r u h e = by_cases a.ended (λ f. absurd (omega (arith, u.off f))) on
      where
        ρ : Running τ s j
        ρ = ok.running j r

        on : a.ended ≡ false → Running τ s' h
        on f =
            let g : GoesOn τ j s s' = u.on f in
            subst
            (Running τ s')
            (omega (arith, g.run))
            (record {
              task = ρ.task;
              unfinished = by_cases a.finished (λ x. absurd (true≢false (sym (u.done x).1 ∙ f))) (λ x. (u.more x).busy);
              some = g.some;
              within = omega (arith, g.used, g.rem, ρ.within);
              short = omega (arith, g.used, ρ.short);
            })

    work_sound : Worked τ a s s' → Sound τ s'
    work_sound (idles r _ _ e) = subst (Sound τ) (sym e) ok
    work_sound (works j r u) =
        record {
          since = λ i l. omega (arith, used_since j u i l, ok.since i l);
          pending = λ i l b. pending i l b (ℕ_discrete i j);
          running = used_running j r u;
        }
      where
        pending : (i : ℕ) → i < τ.tasks.n → s'.busy i ≡ true → Dec (i ≡ j) → Pending τ s' i
        pending i l b (yes q) = subst (Pending τ s') (sym q) (used_pending j r u (subst (λ x. s'.busy x ≡ true) q b))
        pending i l b (no q) = pending_kept τ s s' i (u.others i l q) (ok.pending i l (sym (u.others i l q).busy ∙ b))

  -- ---- 4. time moves on
  elapse_sound : (s s' : View) → Ranges τ → Elapsed τ s s' → Sound τ s → Sound τ s'
  elapse_sound s s' ρ el ok =
      record {
        since = λ i l. omega (arith, (el.ages i l).since);
        pending = pending;
        running = running;
      }
    where
      pending : (i : ℕ) → i < τ.tasks.n → s'.busy i ≡ true → Pending τ s' i
      pending i l b =
          let α : Aged τ s s' i = el.ages i l in
          let p : Pending τ s i = ok.pending i l (sym α.busy ∙ b) in
          omega (arith, ok.since i l, ρ.ordered i l)

      running : (j : ℕ) → s'.run ≡ suc j → Running τ s' j
      running j e =
          let r : Running τ s j = ok.running j (sym el.run ∙ e) in
          let α : Aged τ s s' j = el.ages j r.task in
          record {
            task = r.task;
            unfinished = α.busy ∙ r.unfinished;
            some = omega (arith, el.ticks);
            within = omega (arith, el.ticks);
            short = omega (arith, el.ticks);
          }

-- ---- every view of a run is sound
module _ (τ : Terms) (ρ : Ranges τ) (ask : ℕ → Ask) (pass : ℕ → Pass) (v : Views) (run : ViewedRun τ ask pass v) where
  entered_from : (t : ℕ) → Sound τ (v.before t) → Sound τ (v.entered t)
  entered_from t = admit_sound τ (v.before t) (v.entered t) (ask t) (run.admits t) ρ

  picked_from : (t : ℕ) → Sound τ (v.entered t) → Sound τ (v.picked t)
  picked_from t ok = pick_sound τ (v.entered t) (v.picked t) ok (run.advances t).picks

  worked_from : (t : ℕ) → Sound τ (v.picked t) → Sound τ (v.worked t)
  worked_from t ok = work_sound τ (v.picked t) (v.worked t) (pass t) ok (run.advances t).works

  pub sound : (t : ℕ) → Sound τ (v.before t)
  sound zero = start_sound τ (v.before 0) run.start
  sound (suc t) =
      elapse_sound τ (v.worked t) (v.before (suc t)) ρ (run.advances t).elapses (worked_from t (picked_from t (entered_from t (sound t))))

  pub entered_sound : (t : ℕ) → Sound τ (v.entered t)
  entered_sound t = entered_from t (sound t)

  pub picked_sound : (t : ℕ) → Sound τ (v.picked t)
  picked_sound t = picked_from t (entered_sound t)
