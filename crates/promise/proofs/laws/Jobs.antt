-- What a tick makes of one unfinished job.
-- Assumes nothing.
use Rattle.std.specs.Prelude.{ℕ, suc, ◌+◌, ◌-◌, ◌≤◌, ◌<◌, ◌≡◌, ◌⊎◌, true, false, cond, eqb}
use Rattle.std.proofs.Common.{sym, ◌∙◌, subst, inl, inr, true≢false, arith, eq-eqb, ne_eqb}
use Rattle.std.proofs.Math.Decide.{ℕ_discrete}
use Rattle.finite.proofs.laws.Tests.{by_cases}
use Rattle.promise.proofs.laws.Sound.{pick_keeps, same_unchanged}
use Rattle.promise.proofs.laws.View.{Advanced, Aged, Pass, Terms, Unchanged, Unfinished, View, Worked, idles, works}

-- 1 where task i ran, otherwise 0
unfoldable pub ran_at : ℕ → Pass → ℕ
ran_at i p = cond (eqb p.ran (suc i)) 1 0

pub ran_at_lem : (i : ℕ) (p : Pass) → p.ran ≡ suc i → ran_at i p ≡ 1
unfolding ran_at
ran_at_lem i p e = rw (eq-eqb p.ran (suc i) e)

ran_not : (i : ℕ) (p : Pass) → (p.ran ≡ suc i → ⊥) → ran_at i p ≡ 0
unfolding ran_at
ran_not i p e = rw (ne_eqb p.ran (suc i) e)

-- a job of task i finishes; where it is not flagged, it had one tick of work left
pub record Ends (i : ℕ) (p : Pass) (s : View) : Type 0 where
  pub ran : p.ran ≡ suc i
  pub finished : p.finished ≡ true
  pub exact : p.flag ≡ false → s.rem i ≡ 1

-- The unfinished job of task i goes on: with no more work left than before and a tick less where it ran, and exactly that where it ran
-- without a flag.
pub record Remains (i : ℕ) (p : Pass) (s s' : View) : Type 0 where
  pub busy : s'.busy i ≡ true
  pub work : s'.rem i + ran_at i p ≤ s.rem i
  pub exact : (p.ran ≡ suc i → p.flag ≡ false) → s'.rem i + ran_at i p ≡ s.rem i
  pub unfinished : ¬ ((p.ran ≡ suc i) × (p.finished ≡ true))

remains_unchanged : (i : ℕ) (p : Pass) (s s' : View) → Unchanged s s' i → s.busy i ≡ true → (p.ran ≡ suc i → ⊥) → Remains i p s s'
remains_unchanged i p s s' κ b q =
    let e : ran_at i p ≡ 0 = ran_not i p q in
    record { busy = κ.busy ∙ b; work = omega (arith, κ.rem); exact = λ f. omega (arith, κ.rem); unfinished = λ u. q u.0 }

module _ (τ : Terms) where
  work_job : (p : Pass) (s s' : View) (i : ℕ) → Worked τ p s s' → i < τ.tasks.n → s.busy i ≡ true
      → Ends i p s ⊎ (Remains i p s s' × (s'.left i ≡ s.left i))
  work_job p s s' i (idles r n f e) l b =
      let κ : Unchanged s s' i = same_unchanged s s' i e in
      inr (remains_unchanged i p s s' κ b (λ q. omega arith), κ.left)
  work_job p s s' i (works j r u) l b = go (ℕ_discrete i j)
    where
      at : p.finished ≡ false → Remains j p s s' × (s'.left j ≡ s.left j)
      at f =
          let m : Unfinished τ j s s' = u.more f in
          let one : ran_at j p ≡ 1 = ran_at_lem j p u.ran in (
            record {
              busy = m.busy;
              work = omega (arith, m.less);
              exact = λ g. omega (arith, u.exact_more (g u.ran) f);
              unfinished = λ q. true≢false (sym q.1 ∙ f);
            },
            m.left,
          )

      go : Dec (i ≡ j) → Ends i p s ⊎ (Remains i p s s' × (s'.left i ≡ s.left i))
      go (no q) = inr (remains_unchanged i p s s' (u.others i l q) b (λ e. q (omega (arith, u.ran))), (u.others i l q).left)
      go (yes q) =
          subst
          (λ i. Ends i p s ⊎ (Remains i p s s' × (s'.left i ≡ s.left i)))
          (sym q)
          (by_cases p.finished (λ f. inl (record { ran = u.ran; finished = f; exact = λ g. u.exact_done g f })) (λ f. inr (at f)))

  -- with a tick less to its deadline where it remains
  pub advance_job : (p : Pass) (s picked worked s' : View) (i : ℕ) → Advanced τ p s picked worked s' → i < τ.tasks.n → s.busy i ≡ true
      → Ends i p s ⊎ (Remains i p s s' × (s'.left i ≡ s.left i - 1))
  advance_job p s picked worked s' i ad l b = go (work_job p picked worked i ad.works l (κ.busy ∙ b))
    where
      κ : Unchanged s picked i
      κ = pick_keeps τ s picked ad.picks i l

      α : Aged τ worked s' i
      α = ad.elapses.ages i l

      go : Ends i p picked ⊎ (Remains i p picked worked × (worked.left i ≡ picked.left i))
          → Ends i p s ⊎ (Remains i p s s' × (s'.left i ≡ s.left i - 1))
      go (inl e) = inl (record { ran = e.ran; finished = e.finished; exact = λ f. omega (arith, e.exact f, κ.rem) })
      go (inr (σ, same)) =
          inr (
            record {
              busy = α.busy ∙ σ.busy;
              work = omega (arith, κ, α, σ.work);
              exact = λ f. omega (arith, κ, α, σ.exact f);
              unfinished = σ.unfinished;
            },
            omega (arith, κ, α),
          )
