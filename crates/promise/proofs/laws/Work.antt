-- The tick that the running piece uses leaves a tick to spare.
-- Assumes nothing.
use Rattle.std.specs.Prelude.{ℕ, suc, ◌+◌, ◌≤◌, ◌<◌, ◌≡◌, true, false}
use Rattle.std.proofs.Common.{sym, ◌∙◌, subst, inl, inr, arith}
use Rattle.std.proofs.Math.Path.{ap}
use Rattle.std.proofs.Math.Bool.{true≢false}
use Rattle.std.proofs.Math.Decide.{dec_le, ℕ_discrete}
use Rattle.finite.specs.Finite.{sum_to}
use Rattle.finite.proofs.laws.Sums.{sum_but_at}
use Rattle.finite.proofs.laws.Tests.{by_cases}
use Rattle.promise.proofs.laws.Safe.{Due, Safe, Spare, future, load, load_far, load_idle, load_kept, load_near, slice, slice_not, slice_run, total}
use Rattle.promise.proofs.laws.Sound.{Going, Running, Sound}
use Rattle.promise.proofs.laws.View.{Pass, Terms, Unchanged, Used, View, Worked, idles, works}

module _ (τ : Terms) where
  module _ (s s' : View) (a : Pass) (ok : Sound τ s) where
    -- the running task asks less, and every other what it asked
    used_others : (j : ℕ) → s.run ≡ suc j → Used τ j a s s' → (L i : ℕ) → i < τ.tasks.n → (i ≡ j → ⊥) → load τ s' L i ≤ load τ s L i
    used_others j r u L i l q =
        omega (
          arith,
          load_kept τ s s' L i (u.others i l q)
              (slice_not s' i runs ∙ sym (slice_not s i (λ e. q (omega arith)))),
        )
      where
        runs : s'.run ≡ suc i → ⊥
        runs e = by_cases a.ended (λ f. omega (arith, u.off f)) (λ f. q (omega (arith, (u.on f).run)))

    used_one : (j : ℕ) → s.run ≡ suc j → Used τ j a s s' → (L : ℕ) → load τ s' L j + 1 ≤ load τ s L j
    used_one j r u L = go (dec_le (s.left j) L)
      where
        ρ : Running τ s j
        ρ = ok.running j r

        same_future : future τ (s'.since j) L j ≡ future τ (s.since j) L j
        same_future = ap (λ x. future τ x L j) u.since

        go : Dec (s.left j ≤ L) → load τ s' L j + 1 ≤ load τ s L j
        go (yes h) = by_cases a.finished gone less
          where
            gone : a.finished ≡ true → load τ s' L j + 1 ≤ load τ s L j
            gone f = omega (arith, load_near τ s L j ρ.unfinished h, load_idle τ s' L j (u.done f).0, same_future, ρ)

            less : a.finished ≡ false → load τ s' L j + 1 ≤ load τ s L j
            less f =
                omega (
                  arith,
                  load_near τ s L j ρ.unfinished h,
                  load_near τ s' L j (u.more f).busy (omega (arith, (u.more f).left)),
                  same_future,
                  (u.more f).less,
                )
        go (no h) = by_cases a.finished gone less
          where
            before : load τ s L j ≡ slice s j + future τ (s.since j) L j
            before = load_far τ s L j ρ.unfinished (omega arith)

            gone : a.finished ≡ true → load τ s' L j + 1 ≤ load τ s L j
            gone f = omega (arith, before, slice_run s j r, load_idle τ s' L j (u.done f).0, same_future, ρ)

            left : a.finished ≡ false → slice s' j + 1 ≤ s.ticks
            left f =
                by_cases
                a.ended
                (λ e. omega (arith, slice_not s' j (λ x. omega (arith, u.off e)), ρ))
                (λ e. omega (arith, slice_run s' j (u.on e).run, (u.on e).used))

            less : a.finished ≡ false → load τ s' L j + 1 ≤ load τ s L j
            less f =
                omega (
                  arith,
                  before,
                  slice_run s j r,
                  left f,
                  load_far τ s' L j (u.more f).busy (omega (arith, (u.more f).left)),
                  same_future,
                )

    -- a job that is unfinished was so before, with as much time left
    used_due : (j : ℕ) → s.run ≡ suc j → Used τ j a s s' → (L i : ℕ) → i < τ.tasks.n → Due s' L i → Due s L i
    used_due j r u L i l due = go (ℕ_discrete i j)
      where
        at : Due s' L j → Due s L j
        at d =
            by_cases
            a.finished
            (λ f. absurd (true≢false (sym d.unfinished ∙ (u.done f).0)))
            (λ f. record { unfinished = (ok.running j r).unfinished; near = omega (arith, (u.more f).left, d.near) })

        go : Dec (i ≡ j) → Due s L i
        go (yes q) = subst (Due s L) (sym q) (at (subst (Due s' L) q due))
        go (no q) =
            let κ : Unchanged s s' i = u.others i l q in
            record { unfinished = sym κ.busy ∙ due.unfinished; near = omega (arith, κ.left, due.near) }

    pub work_spare : Going τ s → Worked τ a s s' → Safe τ s → Spare τ s'
    unfolding total
    work_spare going (idles r _ _ e) safe L i l due = absurd (rest going)
      where
        rest : Going τ s → ⊥
        rest (inl g) = omega (arith, g.1)
        rest (inr h) = true≢false (sym due.unfinished ∙ ap (λ x. x.busy i) e ∙ h i l)
    work_spare going (works j r u) safe L i l due =
        let at : load τ s' L j + 1 ≤ load τ s L j + 0 = omega (arith, used_one j r u L) in
        let sum : sum_to τ.tasks.n (load τ s' L) + 1 ≤ sum_to τ.tasks.n (load τ s L) + 0 =
        sum_but_at τ.tasks.n (load τ s' L) (load τ s L) j 1 0 (ok.running j r).task at (used_others j r u L) in
        omega (arith, safe L i l (used_due j r u L i l due), sum)
