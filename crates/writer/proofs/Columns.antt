-- A column of a table that is filled from the front, and is 0 behind.
use Prim.Native.Nat.{ℕ, ◌+◌, ◌≤◌, ◌<◌}
use mathlib.Core.Path.{◌≡◌, sym, ◌∙◌}
use mathlib.Core.List.{List}
use mathlib.Core.Logic.{◌⊎◌, inl, inr}
use native.Mathlib.Omega.{arith}
use native.Mathlib.Decide.{ℕ_discrete}
use lib.ListN.{length, get_or, set, replicate, length-set, length-replicate, get_or-replicate, get_or-eq_default}
use lib.Seq.{get_or-set_same, get_or-set_other, ext_get_or}
use Rattle.finite.proofs.laws.Tests.{le_or_lt}

-- xs has the length of ys, and below k what ys has
pub record Filled (k : ℕ) (xs ys : List ℕ) : Type 0 where
  pub long : length xs ≡ length ys
  pub front : (a : ℕ) → a < k → get_or xs a 0 ≡ get_or ys a 0
  pub behind : (a : ℕ) → k ≤ a → get_or xs a 0 ≡ 0

pub unfilled : (n : ℕ) (ys : List ℕ) → length ys ≡ n → Filled 0 (replicate n 0) ys
unfilled n ys e = record {
  long = length-replicate n 0 ∙ sym e;
  front = λ a h. absurd (omega arith);
  behind = λ a h. go a (le_or_lt n a);
}
  where
    go : (a : ℕ) → (n ≤ a) ⊎ (a < n) → ◌≡◌ {A = ℕ} (get_or (replicate n 0) a 0) 0
    go a (inl h) = get_or-eq_default (replicate n 0) 0 (omega (arith, length-replicate {A = ℕ} n 0))
    go a (inr h) = get_or-replicate n a 0 0 h

pub fill : {k : ℕ} {xs ys : List ℕ} → Filled k xs ys → k < length ys → Filled (k + 1) (set xs k (get_or ys k 0)) ys
fill {k} {xs} {ys} f h = record {
  long = length-set xs k (get_or ys k 0) ∙ f.long;
  front = λ a l. at_or_before a l (ℕ_discrete a k);
  behind = λ a l. get_or-set_other xs k a (get_or ys k 0) 0 (λ e. omega arith) ∙ f.behind a (omega arith);
}
  where
    at_or_before : (a : ℕ) → a < k + 1 → Dec (a ≡ k) → get_or (set xs k (get_or ys k 0)) a 0 ≡ get_or ys a 0
    at_or_before a l (yes e) = rw e (get_or-set_same xs k (get_or ys k 0) 0 (omega (arith, f.long)))
    at_or_before a l (no e) = get_or-set_other xs k a (get_or ys k 0) 0 e ∙ f.front a (omega arith)

-- where ys is 0 there is nothing to fill
pub skip : {k : ℕ} {xs ys : List ℕ} (m : ℕ) → Filled k xs ys → k ≤ m → ((a : ℕ) → k ≤ a → a < m → get_or ys a 0 ≡ 0) → Filled m xs ys
skip {k} {xs} {ys} m f h z = record {
  long = f.long;
  front = λ a l. go a l (le_or_lt k a);
  behind = λ a l. f.behind a (omega arith);
}
  where
    go : (a : ℕ) → a < m → (k ≤ a) ⊎ (a < k) → get_or xs a 0 ≡ get_or ys a 0
    go a l (inl b) = f.behind a b ∙ sym (z a b l)
    go a l (inr b) = f.front a b

pub whole : {k : ℕ} {xs ys : List ℕ} → Filled k xs ys → ((a : ℕ) → k ≤ a → get_or ys a 0 ≡ 0) → xs ≡ ys
whole {k} {xs} {ys} f z = ext_get_or 0 xs ys f.long (λ a l. go a (le_or_lt k a))
  where
    go : (a : ℕ) → (k ≤ a) ⊎ (a < k) → get_or xs a 0 ≡ get_or ys a 0
    go a (inl b) = f.behind a b ∙ sym (z a b)
    go a (inr b) = f.front a b
