-- Division rounded up, and the laws of document 01's phases.
-- Assumes nothing.
use Rattle.std.specs.Prelude.{refl, ℕ, suc, ◌+◌, ◌-◌, ◌*◌, ◌/◌, ◌≤◌, ◌<◌}
use Rattle.std.proofs.lemmas.Bool.{lt-ltb, ltb-true}
use Rattle.std.proofs.Common.{le_trans, le_refl, add-le-add, mul-le-mul_right, mul_comm, zero-mul, le-mul_of_pos_right, div-lt_iff_lt-mul, lt_of_not-le, arith}
use Rattle.std.proofs.Math.Nat.{le-max_left}
use Rattle.finite.specs.Finite.{Below}
use Rattle.finite.proofs.laws.Sums.{sum_mono}
use Rattle.model.specs.Phase.{Choice, budget, ceil_div, longest_piece, phases_of, plain}
use Rattle.model.specs.Tasks.{Sane, Tasks}
use Rattle.model.proofs.laws.Phases.{Laws, Pieces}
use Rattle.model.proofs.laws.Pieces.{piece_at_most, piece_some, pieces_all}

-- what rounding up is for: k blocks of b hold a exactly when k is at least the quotient
pub ceil_enough : (a b k : ℕ) → 1 ≤ b → ceil_div a b ≤ k → a ≤ k * b
unfolding ceil_div
ceil_enough a b k h l =
    let q : a + (b - 1) < suc k * b = (div-lt_iff_lt-mul h).0 (omega arith) in
    omega arith

pub ceil_least : (a b k : ℕ) → 1 ≤ b → a ≤ k * b → ceil_div a b ≤ k
unfolding ceil_div
ceil_least a b k h l =
    let small : a + (b - 1) < suc k * b = omega arith in
    let q : (a + (b - 1)) / b < suc k = (div-lt_iff_lt-mul h).1 small in
    omega arith

-- the two numbers of a product may change places
pub ceil_swap : (a b k : ℕ) → 1 ≤ b → 1 ≤ k → ceil_div a b ≤ k → ceil_div a k ≤ b
ceil_swap a b k hb hk l = ceil_least a k b hk (omega (arith, ceil_enough a b k hb l, mul_comm k b))

pub ceil_pos : (a b : ℕ) → 1 ≤ a → 1 ≤ b → 1 ≤ ceil_div a b
ceil_pos a b ha hb = lt_of_not-le (λ l. absurd (omega (arith, ceil_enough a b 0 hb l, zero-mul b)))

pub ceil_most : (a b : ℕ) → 1 ≤ b → ceil_div a b ≤ a
ceil_most a b h = ceil_least a b a h (le-mul_of_pos_right a h)

-- a margin fits some count exactly when q is below it, and the least such count
piece_need : (c q M x : ℕ) → 1 ≤ c → 1 ≤ x → longest_piece c q x ≤ M → (q < M) × (ceil_div c (M - q) ≤ x)
unfolding longest_piece
piece_need c q M x hc hx l =
    let pos = ceil_pos c x hc hx in
    (omega arith, ceil_swap c x (M - q) hx (omega arith) (omega arith))

piece_enough : (c q M x : ℕ) → 1 ≤ x → q < M → ceil_div c (M - q) ≤ x → longest_piece c q x ≤ M
unfolding longest_piece
piece_enough c q M x hx h l = omega (arith, ceil_swap c (M - q) x (omega arith) hx l)

pub budget_more : (S : Tasks) (x y : Choice) (i : ℕ) → Below (S.m i) (λ j. x i j ≤ y i j) → budget S x i ≤ budget S y i
unfolding budget
budget_more S x y i h = sum_mono (S.m i) _ _ (λ j k. add-le-add (le_refl (S.c i j)) (mul-le-mul_right (S.q i j) (h j k)))

-- the longest piece takes a tick or more, and no more than all pieces together
longest_between : (c q x : ℕ) → 1 ≤ c → 1 ≤ x → (1 ≤ longest_piece c q x) × (longest_piece c q x ≤ c + x * q)
unfolding longest_piece
longest_between c q x hc hx =
    let more : 1 * q ≤ x * q = mul-le-mul_right q hx in
    (omega (arith, ceil_pos c x hc hx), omega (arith, ceil_most c x hx))

-- the phases of document 01 have the laws
pub plain_laws : (S : Tasks) → Sane S → Laws S (plain S)
plain_laws S sane = record {
  one_allowed = λ i j l k. le_refl 1;
  one_least = λ i j l k x a. a;
  max_allowed = λ i j l k x y a b. le_trans a (le-max_left x y);
  need_allowed = λ i j l k M e. let h : S.q i j < M = ltb-true (S.q i j) M e in ceil_pos (S.c i j) (M - S.q i j) (sane.some_work i j l k) (omega arith);
  need_enough = λ i j l k M x e a h. piece_enough (S.c i j) (S.q i j) M x a (ltb-true (S.q i j) M e) h;
  need_least = λ i j l k M x a h. let r = piece_need (S.c i j) (S.q i j) M x (sane.some_work i j l k) a h in (lt-ltb (S.q i j) M r.0, r.1);
  most_allowed = sane.some_work;
  need_most = λ i j l k M e. let h : S.q i j < M = ltb-true (S.q i j) M e in ceil_most (S.c i j) (M - S.q i j) (omega arith);
  cost_mono = λ i l x y h. budget_more S x y i h;
  short_pieces = λ i j l k x a. longest_between (S.c i j) (S.q i j) (x i j) (sane.some_work i j l k) a;
}

pub plain_pieces : (S : Tasks) → Pieces S (plain S)
unfolding budget
plain_pieces S = record {
  some = λ i j l k x p h m b. piece_some (S.c i j) (S.q i j) x p h m;
  most = λ i j l k x p h m b. piece_at_most (S.c i j) (S.q i j) x p h;
  all = λ i j l k x h m. pieces_all (S.c i j) (S.q i j) (x i j) h;
  whole = λ x i. refl;
}

-- and so have the phases of a table
pub laws_of : (S : Tasks) → Sane S → Laws S (phases_of S)
laws_of = plain_laws

pub pieces_of : (S : Tasks) → Pieces S (phases_of S)
pieces_of = plain_pieces
