-- Starting a piece of a job with least time left keeps the invariant.
-- Assumes nothing.
use Rattle.std.specs.Prelude.{ℕ, ◌≤◌, ◌<◌, ◌≡◌, true}
use Rattle.std.proofs.Math.Path.{sym, subst}
use Rattle.std.proofs.Common.{ap, ◌∙◌, arith}
use Rattle.std.proofs.Math.Decide.{ℕ_discrete}
use Rattle.finite.proofs.laws.Sums.{sum_mono}
use Rattle.promise.proofs.laws.Safe.{Due, Safe, future, load, load_kept, load_near, slice_not, total}
use Rattle.promise.proofs.laws.View.{Picked, Started, StartsBy, Terms, Unchanged, View, goes_on, rests, starts}

module _ (τ : Terms) where
  -- the rule: a job with least time left goes first
  abbrev pub LeastLeft : View → ℕ → Type 0
  LeastLeft s j = (i : ℕ) → i < τ.tasks.n → s.busy i ≡ true → s.left j ≤ s.left i

  module _ (s s' : View) (first : StartsBy LeastLeft s s') where
    -- the piece that starts is no blocking: its job is due wherever a job is
    start_load : (j L h i : ℕ) → s.run ≡ 0 → Started τ j s s' → h < τ.tasks.n → Due s L h → i < τ.tasks.n → load τ s' L i ≤ load τ s L i
    start_load j L h i r σ m due l = go (ℕ_discrete i j)
      where
        κ : Unchanged s s' i
        κ = σ.keeps i l

        near : s.left j ≤ L
        near = omega (arith, first j r σ.run h m due.unfinished, due.near)

        go : Dec (i ≡ j) → load τ s' L i ≤ load τ s L i
        go (no q) =
            omega (
              arith,
              load_kept τ s s' L i κ
                  (slice_not s' i (λ e. q (omega (arith, σ.run))) ∙ sym (slice_not s i (λ e. omega arith))),
            )
        go (yes q) =
            let b : s.busy i ≡ true = subst (λ x. s.busy x ≡ true) (sym q) σ.unfinished in
            let c : s.left i ≤ L = subst (λ x. s.left x ≤ L) (sym q) near in
            omega (
              arith,
              load_near τ s L i b c,
              load_near τ s' L i (κ.busy ∙ b) (omega (arith, κ.left)),
              κ.rem,
              ap (λ x. future τ x L i) κ.since,
            )

    pub pick_safe : Picked τ s s' → Safe τ s → Safe τ s'
    unfolding total
    pick_safe (goes_on j r e) safe = subst (Safe τ) (sym e) safe
    pick_safe (rests r h e) safe = subst (Safe τ) (sym e) safe
    pick_safe (starts j r σ) safe = λ L i l due.
        let κ : Unchanged s s' i = σ.keeps i l in
        let due₀ : Due s L i = record { unfinished = sym κ.busy ∙ due.unfinished; near = omega (arith, κ.left, due.near) } in
        omega (arith, safe L i l due₀, sum_mono τ.tasks.n (load τ s' L) (load τ s L) (λ h. start_load j L i h r σ l due₀))
