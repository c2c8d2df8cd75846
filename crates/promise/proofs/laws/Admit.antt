-- Admission keeps the invariant.
-- Assumes nothing.
use Rattle.std.specs.Prelude.{ℕ, zero, suc, ◌+◌, ◌-◌, ◌*◌, ◌≤◌, ◌<◌, ◌≡◌, refl, ◌⊎◌, true, false, ◌&&◌}
use Rattle.std.proofs.Common.{sym, ◌∙◌, subst, inl, inr, true≢false}
use Rattle.std.proofs.Math.Path.{ap}
use Rattle.std.proofs.Math.Decide.{dec_le, ℕ_discrete}
use Rattle.std.proofs.Math.Nat.{mul-le-mul_right}
use native.Mathlib.Omega.{arith}
use Rattle.std.proofs.Math.Dec.{leb}
use Rattle.finite.specs.Finite.{Some, sum_to}
use Rattle.finite.proofs.laws.Searches.{any_decides}
use Rattle.finite.proofs.laws.Sums.{sum_but_at, sum_mono}
use Rattle.finite.proofs.laws.Tests.{by_cases, decided, leb_decides}
use Rattle.std.proofs.lemmas.Bool.Decides.{Decides-and}
use Rattle.std.specs.Bool.{Decides}
use Rattle.model.specs.Demand.{blocking, demand, jobs}
use Rattle.model.proofs.laws.Demand.{blocking_upper}
use Rattle.model.proofs.laws.Jobs.{jobs_after_one, jobs_before, jobs_from, jobs_mono}
use Rattle.promise.proofs.laws.Safe.{Due, Safe, future, load, load_far, load_idle, load_kept, load_near, slice, slice_kept, slice_not, slice_run, total}
use Rattle.promise.proofs.laws.Sound.{Pending, Running, Sound}
use Rattle.promise.proofs.laws.View.{Admitted, Ask, Enough, Entered, Ranges, Terms, Unchanged, View}

module _ (τ : Terms) (w : Enough τ) where
  ρ : Ranges τ
  ρ = w.ranges

  -- the jobs of task i inside a length t, and what they ask
  abbrev jobs_of : ℕ → ℕ → ℕ
  jobs_of i t = jobs (τ.tasks.T i) (τ.tasks.D i) t

  abbrev share : ℕ → ℕ → ℕ
  share t i = jobs_of i t * τ.cost i

  spaced : (i : ℕ) → i < τ.tasks.n → 1 ≤ τ.tasks.T i
  spaced i l = omega (arith, ρ.timed i l, ρ.ordered i l)

  -- the jobs to come ask no more than all the jobs inside L and the lag
  future_most : (x L i : ℕ) → i < τ.tasks.n → future τ x L i ≤ share (L + τ.lag) i
  unfolding future
  future_most x L i l = mul-le-mul_right (τ.cost i) (jobs_mono (τ.tasks.T i) (τ.tasks.D i) _ _ (spaced i l) (omega arith))

  -- the jobs to come after a job of age a, with that job where it is due, ask no more than the jobs to come asked before it
  future_enters : (x a L i : ℕ) → i < τ.tasks.n → τ.tasks.T i + a ≤ x → a ≤ τ.lag → τ.tasks.D i - a ≤ L →
      τ.cost i + future τ a L i ≤ future τ x L i
  unfolding future
  future_enters x a L i l h g d =
      let now : jobs_of i (L + a) ≡ jobs_of i (L + a - τ.tasks.T i) + 1 =
      jobs_after_one (τ.tasks.T i) (τ.tasks.D i) (L + a) (ρ.timed i l) (ρ.ordered i l) (omega arith) in
      let e : L + τ.lag - (τ.tasks.T i + τ.lag - a) ≡ L + a - τ.tasks.T i = omega arith in
      let m : jobs_of i (L + a) ≤ jobs_of i (L + τ.lag - (τ.tasks.T i + τ.lag - x)) =
      jobs_mono (τ.tasks.T i) (τ.tasks.D i) _ _ (spaced i l) (omega arith) in
      omega (arith, mul-le-mul_right (τ.cost i) m, ap (λ z. z * τ.cost i) now, ap (λ z. jobs_of i z * τ.cost i) e)

  future_less : (x a L i : ℕ) → i < τ.tasks.n → τ.tasks.T i + a ≤ x → future τ a L i ≤ future τ x L i
  unfolding future
  future_less x a L i l h = mul-le-mul_right (τ.cost i) (jobs_mono (τ.tasks.T i) (τ.tasks.D i) _ _ (spaced i l) (omega arith))

  -- a task whose job is far from its deadline has no further job inside L
  future_far : (x L i : ℕ) → i < τ.tasks.n → L < τ.tasks.D i - x → future τ x L i ≡ 0
  unfolding future
  future_far x L i l h =
      omega
      (arith, ρ.ordered i l, ap (λ z. z * τ.cost i) (jobs_before (τ.tasks.T i) (τ.tasks.D i) (L + τ.lag - (τ.tasks.T i + τ.lag - x)) (omega (arith, ρ.ordered i l))))

  -- ---- a time at which nothing is due within L
  module _ (s : View) (ok : Sound τ s) (L : ℕ) (none : (i : ℕ) → i < τ.tasks.n → Due s L i → ⊥) where
    far : (i : ℕ) → i < τ.tasks.n → s.busy i ≡ true → L < s.left i
    far i l b = go (dec_le (s.left i) L)
      where
        go : Dec (s.left i ≤ L) → L < s.left i
        go (yes h) = absurd (none i l (record { unfinished = b; near = h }))
        go (no h) = omega arith

    -- each task asks at most the length of its running piece more than its share of the demand
    load_quiet : (i : ℕ) → i < τ.tasks.n → load τ s L i ≤ slice s i + share (L + τ.lag) i
    load_quiet i l =
        by_cases
        (s.busy i)
        (λ b. omega (arith, load_far τ s L i b (far i l b), future_most (s.since i) L i l))
        (λ b. omega (arith, load_idle τ s L i b, future_most (s.since i) L i l))

    -- and no more than its share where it does not run, or where its own deadline is inside L and the lag
    load_share : (i : ℕ) → i < τ.tasks.n → (s.run ≡ suc i → τ.tasks.D i ≤ L + τ.lag) → load τ s L i ≤ share (L + τ.lag) i
    load_share i l h = go (ℕ_discrete s.run (suc i))
      where
        go : Dec (s.run ≡ suc i) → load τ s L i ≤ share (L + τ.lag) i
        go (no q) = omega (arith, load_quiet i l, slice_not s i q)
        go (yes q) =
            let r : Running τ s i = ok.running i q in
            let b : s.busy i ≡ true = r.unfinished in
            let p : Pending τ s i = ok.pending i l b in
            let one : 1 ≤ jobs_of i (L + τ.lag) = omega (arith, jobs_from (τ.tasks.T i) (τ.tasks.D i) (L + τ.lag) (h q)) in
            omega (
              arith,
              load_far τ s L i b (far i l b),
              future_far (s.since i) L i l (omega (arith, far i l b)),
              slice_run s i q,
              mul-le-mul_right (τ.cost i) one,
            )

    total_share : ((j : ℕ) → s.run ≡ suc j → τ.tasks.D j ≤ L + τ.lag) → total τ s L ≤ demand τ.tasks τ.cost (L + τ.lag)
    unfolding total demand
    total_share h = sum_mono τ.tasks.n (load τ s L) (share (L + τ.lag)) (λ i l. load_share i l (h i))

    total_blocked : (j : ℕ) → s.run ≡ suc j → L + τ.lag < τ.tasks.D j
        → total τ s L ≤ demand τ.tasks τ.cost (L + τ.lag) + blocking τ.tasks τ.longest (L + τ.lag)
    unfolding total demand
    total_blocked j e h =
        let r : Running τ s j = ok.running j e in
        let at : load τ s L j + 0 ≤ share (L + τ.lag) j + s.ticks = omega (arith, load_quiet j r.task, slice_run s j e) in
        let sum : sum_to τ.tasks.n (load τ s L) + 0 ≤ sum_to τ.tasks.n (share (L + τ.lag)) + s.ticks =
        sum_but_at τ.tasks.n (load τ s L) (share (L + τ.lag)) j 0 s.ticks r.task at (λ i l q. load_share i l (λ f. absurd (q (omega arith)))) in
        omega (arith, sum, blocking_upper τ.tasks τ.longest (L + τ.lag) j r.task h)

    total_quiet : (i : ℕ) → i < τ.tasks.n → τ.tasks.D i ≤ L + τ.lag → total τ s L ≤ L
    total_quiet i l d = go s.run refl
      where
        enough : demand τ.tasks τ.cost (L + τ.lag) + blocking τ.tasks τ.longest (L + τ.lag) + τ.lag ≤ L + τ.lag
        enough = w.fits (L + τ.lag) i l d

        runs : (j : ℕ) → s.run ≡ suc j → Dec (τ.tasks.D j ≤ L + τ.lag) → total τ s L ≤ L
        runs j e (yes q) = omega (arith, enough, total_share (λ k f. subst (λ x. τ.tasks.D x ≤ L + τ.lag) (omega arith) q))
        runs j e (no q) = omega (arith, enough, total_blocked j e (omega arith))

        go : (r : ℕ) → s.run ≡ r → total τ s L ≤ L
        go zero e = omega (arith, enough, total_share (λ j f. absurd (omega arith)))
        go (suc j) e = runs j e (dec_le (τ.tasks.D j) (L + τ.lag))

  -- ---- admission
  module _ (s s' : View) (a : Ask) (ok : Sound τ s) (ad : Admitted τ a s s') where
    load_admit : (L i : ℕ) → i < τ.tasks.n → load τ s' L i ≤ load τ s L i
    load_admit L i l = by_cases (a.let_in i) (λ e. enters (ad.enters i l e) (dec_le (s'.left i) L)) keeps
      where
        keeps : a.let_in i ≡ false → load τ s' L i ≤ load τ s L i
        keeps e = omega (arith, load_kept τ s s' L i (ad.keeps i l e) (slice_kept s s' i ad.run ad.ticks))

        enters : Entered τ (a.age i) s s' i → Dec (s'.left i ≤ L) → load τ s' L i ≤ load τ s L i
        enters ε (yes h) =
            omega (
              arith,
              load_near τ s' L i ε.busy h,
              load_idle τ s L i ε.idle,
              ε.rem,
              ap (λ x. future τ x L i) ε.since,
              future_enters (s.since i) (a.age i) L i l ε.apart ε.heard (omega (arith, ε.left)),
            )
        enters ε (no h) =
            omega (
              arith,
              load_far τ s' L i ε.busy (omega arith),
              load_idle τ s L i ε.idle,
              slice_not s' i (λ q. true≢false (sym (ok.running i (sym ad.run ∙ q)).unfinished ∙ ε.idle)),
              ap (λ x. future τ x L i) ε.since,
              future_less (s.since i) (a.age i) L i l ε.apart,
            )

    pub admit_safe : Safe τ s → Safe τ s'
    unfolding total
    admit_safe safe L i l due = go (decided (any_decides τ.tasks.n (λ j. s.busy j && leb (s.left j) L) (Due s L) (λ j m. due_decides j)))
      where
        due_decides : (j : ℕ) → Decides (s.busy j && leb (s.left j) L) (Due s L j)
        due_decides j =
            let d = Decides-and (s.busy j) (leb (s.left j) L) (λ e. e, λ e. e) (leb_decides (s.left j) L) in
            (λ e. record { unfinished = (d.0 e).0; near = (d.0 e).1 }, λ q. d.1 (q.unfinished, q.near))

        less : total τ s' L ≤ total τ s L
        less = sum_mono τ.tasks.n (load τ s' L) (load τ s L) (load_admit L)

        go : Some τ.tasks.n (Due s L) ⊎ ¬ Some τ.tasks.n (Due s L) → total τ s' L ≤ L
        go (inl d) = omega (arith, less, safe L d.0 d.1 d.2)
        go (inr none) = omega (arith, less, total_quiet s ok L (λ j m d. none (j, m, d)) i l (by_cases (a.let_in i) new old))
          where
            new : a.let_in i ≡ true → τ.tasks.D i ≤ L + τ.lag
            new e = let ε : Entered τ (a.age i) s s' i = ad.enters i l e in omega (arith, due.near)

            old : a.let_in i ≡ false → τ.tasks.D i ≤ L + τ.lag
            old e =
                let κ : Unchanged s s' i = ad.keeps i l e in
                absurd (none (i, l, record { unfinished = sym κ.busy ∙ due.unfinished; near = omega (arith, due.near) }))
