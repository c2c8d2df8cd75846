-- Where no job is ever late, every job let in finishes in time, within its budget: whoever goes first.
-- Assumes nothing.
use Rattle.std.specs.Prelude.{ℕ, zero, suc, ◌+◌, ◌-◌, ◌≤◌, ◌<◌, ◌≡◌, ◌⊎◌, true}
use Rattle.std.proofs.Common.{ap, ◌∙◌, inl, inr}
use Rattle.std.proofs.Math.Bool.{false}
use native.Mathlib.Omega.{arith}
use Rattle.finite.specs.Finite.{Below, sum_to}
use Rattle.finite.proofs.laws.Sums.{sum_cong, sum_first}
use Rattle.promise.proofs.laws.Jobs.{Ends, Remains, advance_job, ran_at_lem, ran_at}
use Rattle.promise.proofs.laws.Sound.{admit_keeps, entered_sound, not_let_in}
use Rattle.promise.proofs.laws.View.{Ask, Entered, NeverLate, Pass, Ranges, ViewedRun, Terms, Unchanged, View, Views}

-- a job of task i finishes in a tick
abbrev pub Done : ℕ → Pass → Type 0
Done i p = (p.ran ≡ suc i) × (p.finished ≡ true)

-- From tick r on, a job of task i finishes within d ticks, having run in at most c of them, and in exactly c where it ran without a flag; no
-- other job of the task is let in or finishes until then.
pub record FinishesWithin (ask : ℕ → Ask) (pass : ℕ → Pass) (i d c r : ℕ) : Type 0 where
  pub later : ℕ
  pub soon : later < d
  pub ends : Done i (pass (r + later))
  pub not_before : Below later (λ k. ¬ Done i (pass (r + k)))
  pub alone : Below later (λ k. (ask (r + suc k)).let_in i ≡ false)
  pub work : sum_to (suc later) (λ k. ran_at i (pass (r + k))) ≤ c
  pub exact : Below (suc later) (λ k. (pass (r + k)).ran ≡ suc i → (pass (r + k)).flag ≡ false) → sum_to (suc later) (λ k. ran_at i (pass (r + k))) ≡ c

module _ (τ : Terms) (ρ : Ranges τ) (ask : ℕ → Ask) (pass : ℕ → Pass) (v : Views) (run : ViewedRun τ ask pass v) (in_time : NeverLate τ v) where
  module _ (i : ℕ) (l : i < τ.tasks.n) where
    -- it finishes in tick r
    now : (r d c : ℕ) → 1 ≤ d → 1 ≤ c → Ends i (pass r) (v.entered r) → ((pass r).flag ≡ false → c ≡ 1) → FinishesWithin ask pass i d c r
    unfolding sum_to
    now r d c p q e x =
        let here : r + 0 ≡ r = omega arith in
        record {
          later = 0;
          soon = p;
          ends = rw here (e.ran, e.finished);
          not_before = λ k h. absurd (omega arith);
          alone = λ k h. absurd (omega arith);
          work = rw here (omega (arith, ran_at_lem i (pass r) e.ran));
          exact = λ f.
              let g : (pass r).flag ≡ false = rw here at (f 0 (omega arith) (rw here e.ran)) in
              rw here (omega (arith, ran_at_lem i (pass r) e.ran, x g));
        }

    -- it finishes after tick r
    then : (r d c d' c' : ℕ) → d' + 1 ≤ d → c' + ran_at i (pass r) ≤ c → (((pass r).ran ≡ suc i → (pass r).flag ≡ false) → c' + ran_at i (pass r) ≡ c)
        → ¬ Done i (pass r) → (ask (suc r)).let_in i ≡ false → FinishesWithin ask pass i d' c' (suc r) → FinishesWithin ask pass i d c r
    then r d c d' c' p q x unfinished quiet φ =
        record {
          later = suc φ.later;
          soon = omega (arith, φ.soon);
          ends = rw (shift φ.later) φ.ends;
          not_before = not_before;
          alone = alone;
          work = omega (arith, split, φ.work);
          exact = λ f.
              let here : r + 0 ≡ r = omega arith in
              omega (
                arith,
                split,
                x (rw here at (f 0 (omega arith))),
                φ.exact (λ k h. rw (shift k) at (f (suc k) (omega arith))),
              );
        }
      where
        shift : (k : ℕ) → r + suc k ≡ suc r + k
        shift k = omega arith

        not_before : Below (suc φ.later) (λ k. ¬ Done i (pass (r + k)))
        not_before zero h = let here : r + 0 ≡ r = omega arith in rw here unfinished
        not_before (suc k) h = rw (shift k) (φ.not_before k (omega arith))

        alone : Below (suc φ.later) (λ k. (ask (r + suc k)).let_in i ≡ false)
        alone zero h = let here : r + 1 ≡ suc r = omega arith in rw here quiet
        alone (suc k) h = rw (shift (suc k)) (φ.alone k (omega arith))

        split : sum_to (suc (suc φ.later)) (λ k. ran_at i (pass (r + k))) ≡ ran_at i (pass r) + sum_to (suc φ.later) (λ k. ran_at i (pass (suc r + k)))
        split =
            let here : r + 0 ≡ r = omega arith in
            omega (
              arith,
              sum_first (suc φ.later) (λ k. ran_at i (pass (r + k))),
              ap (λ t. ran_at i (pass t)) here,
              sum_cong (suc φ.later) (λ k. ran_at i (pass (r + suc k))) (λ k. ran_at i (pass (suc r + k))) (λ k h. ap (λ t. ran_at i (pass t)) (shift k)),
            )

    job_finishes : (d r : ℕ) → (v.entered r).busy i ≡ true → (v.entered r).left i ≤ d
        → FinishesWithin ask pass i ((v.entered r).left i) ((v.entered r).rem i) r
    job_finishes zero r b h = absurd (omega (arith, in_time i l r b))
    job_finishes (suc d) r b h =
        go (advance_job τ (pass r) (v.entered r) (v.picked r) (v.worked r) (v.before (suc r)) i (run.advances r) l b) (job_finishes d (suc r))
      where
        m : View
        m = v.entered r

        go : Ends i (pass r) m ⊎ (Remains i (pass r) m (v.before (suc r)) × ((v.before (suc r)).left i ≡ m.left i - 1))
            → ((v.entered (suc r)).busy i ≡ true → (v.entered (suc r)).left i ≤ d → FinishesWithin ask pass i ((v.entered (suc r)).left i) ((v.entered (suc r)).rem i) (suc r))
            → FinishesWithin ask pass i (m.left i) (m.rem i) r
        go (inl e) ih = now r (m.left i) (m.rem i) (in_time i l r b) ((entered_sound τ ρ ask pass v run r).pending i l b).some e e.exact
        go (inr (σ, less)) ih =
            let κ : Unchanged (v.before (suc r)) (v.entered (suc r)) i =
            admit_keeps τ (v.before (suc r)) (v.entered (suc r)) (ask (suc r)) (run.admits (suc r)) i l σ.busy in
            let b' : (v.entered (suc r)).busy i ≡ true = κ.busy ∙ σ.busy in
            let late : 1 ≤ (v.entered (suc r)).left i = in_time i l (suc r) b' in
            then
            r
            (m.left i)
            (m.rem i)
            ((v.entered (suc r)).left i)
            ((v.entered (suc r)).rem i)
            (omega (arith, κ.left))
            (omega (arith, κ.rem, σ.work))
            (λ f. omega (arith, κ.rem, σ.exact f))
            σ.unfinished
            (not_let_in τ (v.before (suc r)) (v.entered (suc r)) (ask (suc r)) (run.admits (suc r)) i l σ.busy)
            (ih b' (omega (arith, κ.left)))

    -- A job let in at tick r, its release `age` ticks old, finishes within D - age ticks, that of its admission included.
    pub deadline_met : (r : ℕ) → (ask r).let_in i ≡ true → FinishesWithin ask pass i (τ.tasks.D i - (ask r).age i) (τ.cost i) r
    deadline_met r e =
        let ε : Entered τ ((ask r).age i) (v.before r) (v.entered r) i = (run.admits r).enters i l e in
        let φ : FinishesWithin ask pass i ((v.entered r).left i) ((v.entered r).rem i) r =
        job_finishes ((v.entered r).left i) r ε.busy (omega arith) in
        rw (ε.left, ε.rem) at φ
