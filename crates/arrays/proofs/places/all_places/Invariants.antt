-- `all_places` meets its contract. Assumes nothing.
use Rattle.std.proofs.Common.{◌≡◌, ℕ, Bool, ◌<◌}
use Rattle.finite.specs.Finite.{all_to}
use Rattle.arrays.proofs.places.all_places.Given as goal

abbrev pub invariant-loop-place : goal.invariant-loop-place
invariant-loop-place g l =
    (p : ℕ → Bool) → ((place : ℕ) (answer : Bool) → place < g.row.N → goal.F-post g l.holds place answer → answer ≡ p place) → l.all ≡ all_to l.place p
