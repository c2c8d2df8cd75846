-- The scan for the most urgent job, one task more a turn.
-- Assumes nothing.
use Rattle.std.specs.Prelude.{◌≡◌, Bool, true, false, cond, ℕ, ◌+◌, ◌-◌, get_or}
use Rattle.std.proofs.Math.Path.{refl}
use Rattle.std.proofs.Common.{sym, ap, ◌∙◌, add-one, arith}
use Rattle.records.specs.Rules.{goes_before, urgent_of}
use Rattle.records.specs.declared.Dispatcher.{Dispatcher}

module _ (d : Dispatcher) where
  pub urgent_none : 0 ≡ urgent_of d 0
  unfolding urgent_of
  urgent_none = refl

  -- one task more is looked at, the best so far having time left `least`
  module _ (i best least next : ℕ) (time : least ≡ get_or d.left (best - 1) 0) (better : next ≡ cond (goes_before d i best least) (i + 1) best) where
    pub urgent_more : best ≡ urgent_of d i → next ≡ urgent_of d (i + 1)
    unfolding urgent_of
    urgent_more e = better ∙ rw (add-one, time, e)

    -- the time left of the best
    pub urgent_time : (more : ℕ) → more ≡ cond (goes_before d i best least) (get_or d.left i 0) least → more ≡ get_or d.left (next - 1) 0
    urgent_time more is = go (goes_before d i best least) better is
      where
        go : (b : Bool) → next ≡ cond b (i + 1) best → more ≡ cond b (get_or d.left i 0) least → more ≡ get_or d.left (next - 1) 0
        go true f g = g ∙ ap (λ (k : ℕ). get_or d.left k 0) (omega arith)
        go false f g = g ∙ time ∙ ap (λ (k : ℕ). get_or d.left (k - 1) 0) (sym f)
