-- The bytes of numbers one behind the other: how many they are. Assumes nothing.
use Prim.Native.Nat.{ℕ, zero, suc, ◌+◌, ◌*◌, ◌/◌, ◌%◌, ◌≤◌, ◌<◌}
use mathlib.Core.Path.{◌≡◌}
use mathlib.Core.Bool.{Bool, true, false}
use mathlib.Core.List.{List, [], ◌∷◌}
use native.Mathlib.Omega.{arith}
use lib.Dec.{ltb}
use lib.ListN.{length, length-append}
use Rattle.finite.specs.Finite.{join_to}
use Rattle.std.specs.Prelude.{if◌then◌else◌}
use Rattle.groups.specs.Encode.{encode, encode_in, encode_all}
use Rattle.groups.specs.SinkLaws.{none, append}

-- a number in front
pub cons : (n : ℕ) (ns : List ℕ) → length (encode_all (n ∷ ns)) ≡ length (encode n) + length (encode_all ns)
unfolding encode_all
cons n ns = length-append (encode n) (encode_all ns)

-- joined numbers, where each part has at most b bytes
pub join_short : (b n : ℕ) (f : ℕ → List ℕ) → ((k : ℕ) → k < n → length (encode_all (f k)) ≤ b) → length (encode_all (join_to n f)) ≤ b * n
unfolding join_to
join_short b zero f h = omega (arith, none)
join_short b (suc n) f h = omega (arith, append (join_to n f) (f n), join_short b n f (λ k l. h k (omega arith)), h n (omega arith))

-- no number has more than eight bytes
few : (more n : ℕ) → length (encode_in more n) ≤ suc more
unfolding encode_in
few zero n = omega arith
few (suc more) n = go (few more (n / 128)) (ltb n 128)
  where
    go : length (encode_in more (n / 128)) ≤ suc more → (t : Bool) → length (if t then n ∷ [] else (n % 128 + 128) ∷ encode_in more (n / 128)) ≤ suc (suc more)
    go rest true = omega arith
    go rest false = omega arith

pub eight : (n : ℕ) → length (encode n) ≤ 8
eight n = few 7 n

pub eight_each : (ns : List ℕ) → length (encode_all ns) ≤ 8 * length ns
eight_each [] = omega (arith, none)
eight_each (n ∷ ns) = omega (arith, cons n ns, eight n, eight_each ns)

-- how many numbers are joined, where each part has at most b
pub join_count : (b n : ℕ) (f : ℕ → List ℕ) → ((k : ℕ) → k < n → length (f k) ≤ b) → length (join_to n f) ≤ b * n
unfolding join_to
join_count b zero f h = omega arith
join_count b (suc n) f h = omega (arith, length-append (join_to n f) (f n), join_count b n f (λ k l. h k (omega arith)), h n (omega arith))
