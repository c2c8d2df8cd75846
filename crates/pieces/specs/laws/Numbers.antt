-- What the library's methods on numbers give, in the words of the definitions.
-- Assumes nothing.
use Rattle.std.specs.Prelude.{◌≡◌, Bool, true, false, ℕ, suc, ◌*◌, ◌/◌, ◌%◌, ◌≤◌, ◌<◌, Option, None, Some}
use Rattle.std.specs.Prelude.{if◌then◌else◌}
use Rattle.std.specs.Int.{div_ceil, from_bool}
use Rattle.std.specs.Option.{SomeIff, unwrap_or}
use Rattle.std.proofs.Common.{refl, sym, le_antisymm, le_refl, suc-mul, arith}
use Rattle.std.proofs.Math.Nat.{lt_of_mul-lt-mul_right, div-zero, mod-zero}
use Rattle.std.proofs.lemmas.Grind.{div_ceil_times}
use Rattle.model.specs.Phase.{ceil_div}
use Rattle.model.proofs.laws.Plain.{ceil_enough, ceil_least}

-- a quotient rounded up
pub rounded_up : (a b : ℕ) → 0 < b → div_ceil a b ≡ ceil_div a b
rounded_up a b h =
    let bounds = div_ceil_times a b h in
    let enough : a ≤ ceil_div a b * b = ceil_enough a b (ceil_div a b) h (le_refl (ceil_div a b)) in
    let below : div_ceil a b * b < suc (ceil_div a b) * b = omega (arith, bounds.1, suc-mul (ceil_div a b) b) in
    let less : div_ceil a b < suc (ceil_div a b) = lt_of_mul-lt-mul_right b below in
    le_antisymm (omega arith) (ceil_least a b (div_ceil a b) h bounds.0)

-- a test as a number
pub one_where : (b : Bool) → from_bool b ≡ (if b then 1 else 0)
one_where true = refl
one_where false = refl

-- a quotient, and what is left: by 0, the quotient is 0 and all is left
pub quotient_of : (r : Option ℕ) (a b : ℕ) → SomeIff r (0 < b) (a / b) → unwrap_or r 0 ≡ a / b
quotient_of None a b none = let by_zero : b ≡ 0 = omega (arith, none) in rw by_zero (sym (div-zero a))
quotient_of (Some q) a b some = some.1

pub left_of : (r : Option ℕ) (a b : ℕ) → SomeIff r (0 < b) (a % b) → unwrap_or r a ≡ a % b
left_of None a b none = let by_zero : b ≡ 0 = omega (arith, none) in rw by_zero (sym (mod-zero a))
left_of (Some q) a b some = some.1

-- what forms the length of a piece
pub ruleset division = (one_where, quotient_of, left_of)
