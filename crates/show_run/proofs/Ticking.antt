-- Ticks, one behind the other. Assumes nothing.
use Rattle.std.proofs.Common.{◌≡◌, ℕ, ◌+◌, ◌%◌, ◌^◌, Bool, List, [], ◌∷◌, ◌++◌, refl, sym, subst}
use Rattle.std.specs.List.{FoldsTo}
use Rattle.dispatch.specs.Tick.{Ticks}
use Rattle.dispatch.specs.declared.Answer.{Answer}
use Rattle.show_run.specs.declared.Run.{Run}
use Rattle.show_run.specs.Runs.{AfterTicks, OneTick, stage_of}

folds_on : {P A : Type 0} (R : P → A → P → Type 0) (p q r : P) (xs ys : List A) → FoldsTo R p xs q → FoldsTo R q ys r → FoldsTo R p (xs ++ ys) r
folds_on R p q r [] ys e h = subst (λ z. FoldsTo R z ys r) (sym e) h
folds_on R p q r (x ∷ xs) ys (j, one, more) h = (j, one, folds_on R j q r xs ys more h)

-- no tick
pub stays : (old new : Run) → stage_of old ≡ stage_of new → AfterTicks old new
stays old new e = record { requests = []; each = e }

-- one tick
pub ticks_once : (old new : Run) (mask : ℕ) (flag : Bool) (answer : Answer) → Ticks old.dispatcher mask flag new.dispatcher answer → new.tick ≡ (old.tick + 1) % 2 ^ 64
    → AfterTicks old new
ticks_once old new mask flag answer t n = record {
  requests = record { mask = mask; flag = flag } ∷ [];
  each = (stage_of new, record { answer = answer; ticks = t; counted = n }, refl);
}

-- ticks behind ticks
pub ticks_on : (a b c : Run) → AfterTicks a b → AfterTicks b c → AfterTicks a c
ticks_on a b c s t = record { requests = s.requests ++ t.requests; each = folds_on OneTick _ _ _ s.requests t.requests s.each t.each }
