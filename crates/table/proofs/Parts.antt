-- What was read in parts, one behind the other.
-- Assumes nothing.
use Prim.Native.Nat.{ℕ, zero, suc, ◌+◌, ◌<◌}
use mathlib.Core.Path.{◌≡◌, refl, sym, subst₂, ◌∙◌}
use mathlib.Core.List.{List}
use mathlib.Core.Bool.{Bool, true, false}
use native.Mathlib.Omega.{arith}
use native.Mathlib.Nat.{add-zero}
use Rattle.std.specs.Prelude.{if◌then◌else◌}
use Rattle.table.specs.declared.Reason.{Reason}
use Rattle.table.specs.declared.Table.{Table}
use Rattle.table.specs.Parse.{Result, got, away, Parser, and_then, each}

-- what was read one behind the other was read each
pub record Bound {A B : Type 0} (x : Result A) (f : A → Parser B) (s : List ℕ) (b : B) (next : ℕ) : Type 0 where
  pub value : A
  pub mid : ℕ
  pub first : x ≡ got value mid
  pub second : f value s mid ≡ got b next

pub bound : {A B : Type 0} (x : Result A) (f : A → Parser B) (s : List ℕ) {b : B} {next : ℕ} → and_then x f s ≡ got b next → Bound x f s b next
bound (got a mid) f s e = record { value = a; mid = mid; first = refl; second = e }
bound (away reason place) f s e = cc

pub same_value : {A : Type 0} {a b : A} {m n : ℕ} → got a m ≡ got b n → a ≡ b
same_value e = cc

-- what holds before the first part and is kept by each part holds after the last
pub keeps : (part : ℕ → Table → Parser Table) (s : List ℕ) (last : ℕ) (P : ℕ → Table → Type 0)
    → ((k : ℕ) (t : Table) (at : ℕ) (t' : Table) (next : ℕ) → k < last → P k t → part k t s at ≡ got t' next → P (k + 1) t')
    → (left k : ℕ) (t : Table) (at : ℕ) (t' : Table) (next : ℕ) → k + left ≡ last → P k t → each part left k t s at ≡ got t' next → P last t'
unfolding each
keeps part s last P step zero k t at t' next h p e = subst₂ P (sym (add-zero k) ∙ h) (same_value e) p
keeps part s last P step (suc left) k t at t' next h p e =
    let b = bound (part k t s at) (λ (u : Table). each part left (k + 1) u) s e in
    keeps part s last P step left (k + 1) b.value b.mid t' next (omega arith) (step k t at b.value b.mid (omega arith) p b.first) b.second

-- a test that let the rest go on was not met
module _ {A : Type 0} (b : Bool) (reason : Reason) (place at next : ℕ) (p : Parser A) (s : List ℕ) {a : A} where
  pub passed : and_then (if b then away reason place else got tt at) (λ (u : Unit {0}). p) s ≡ got a next → (b ≡ false) × (p s at ≡ got a next)
  passed e = go b e
    where
      go : (x : Bool) → and_then (if x then away reason place else got tt at) (λ (u : Unit {0}). p) s ≡ got a next → (x ≡ false) × (p s at ≡ got a next)
      go true e = cc
      go false e = (refl, e)

pub not_met : {A : Type 0} (b : Bool) (reason : Reason) (place at : ℕ) (u : A) {next : ℕ} {v : A} → (if b then away reason place else got u at) ≡ got v next → b ≡ false
not_met true reason place at u e = cc
not_met false reason place at u e = refl
