-- Each step of the rules leaves a state that the rules keep: what the steps' laws ask of promise stands here.
-- Assumes nothing.
use Rattle.std.specs.Prelude.{refl, Bool, ℕ, ◌<◌}
use Rattle.model.specs.Phase.{Choice}
use Rattle.model.specs.Tasks.{Tasks}
use Rattle.promise.specs.Rules.{State, admit, pick, work_at}
use Rattle.promise.proofs.laws.Entering.{admit_proper}
use Rattle.promise.proofs.laws.Range.{Range, admit_range, pick_range, work_range}
use Rattle.promise.proofs.laws.Remaining.{Proper, Ranged}
use Rattle.promise.proofs.laws.Starting.{picks}
use Rattle.promise.proofs.laws.Working.{works_at}

-- a state that the rules keep
pub record Keeps (S : Tasks) (x : Choice) (s : State) : Type 0 where
  pub range : Range S s
  pub good : Proper S x s

module _ (S : Tasks) (x : Choice) (ranged : (i : ℕ) → i < S.n → Ranged S x i) (s : State) (k : Keeps S x s) where
  pub admit_keeps : (mask : ℕ → Bool) → Keeps S x (admit S mask s)
  admit_keeps mask = record { range = admit_range S x ranged s k.range mask; good = admit_proper S x ranged s k.good mask }

  pub pick_keeps : Keeps S x (pick S x s)
  pick_keeps = record {
    range = pick_range S x ranged s k.range s.run;
    good = (picks S x ranged s k.good).1;
  }

  pub work_keeps : (flag : Bool) → Keeps S x (work_at S x flag s s.run)
  work_keeps flag = record {
    range = work_range S x ranged flag s k.good k.range s.run refl;
    good = (works_at S x ranged 0 flag s k.good s.run refl).1;
  }
