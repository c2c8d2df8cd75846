-- What a task's phases add up to is bounded.
-- Assumes nothing.
use Rattle.std.specs.Prelude.{◌≡◌, true, ℕ, ◌+◌, ◌*◌, ◌-◌, ◌/◌, ◌%◌, ◌≤◌, ltb}
use Rattle.std.proofs.Common.{◌∙◌, le_antisymm, le_trans, mul-le-mul, mul-le-mul_right, arith, lt-ltb, ltb-true}
use Rattle.finite.specs.Finite.{Below}
use Rattle.std.specs.Prelude.{if◌then◌else◌}
use Rattle.finite.proofs.laws.Extremes.{max_least}
use Rattle.model.specs.Phase.{Choice, brings, ceil_div, has_room, longest_piece, needed, phases_of, piece_length}
use Rattle.model.specs.Ranges.{PhaseIn, cost_most, horizon_most, phases_most, work_most}
use Rattle.model.specs.Tasks.{Tasks}
use Rattle.model.specs.Works.{longest}
use Rattle.model.proofs.laws.Plain.{ceil_least, ceil_most, ceil_pos, pieces_of}
use Rattle.pieces.specs.Bounds.{budget_most, phase_most, piece_most}
use Rattle.pieces.specs.Task.{InPieces, PhaseFits, Roomy, WorkIn, needs}
use Rattle.pieces.specs.laws.Numbers.{rounded_up}
use Rattle.pieces.specs.laws.Sums.{sum_most}

-- ---- a phase

-- the range of a table's phase is what the arithmetic asks
pub work_in : (S : Tasks) (i j : ℕ) → PhaseIn S i j → WorkIn (S.c i j) (S.q i j)
work_in S i j p = record { work_least = p.work_least; work_at_most = p.work_at_most; cost_at_most = p.cost_at_most }

-- no count that is needed is above the work
pub need_most : (c q M : ℕ) → has_room q M ≡ true → needed c q M ≤ c
need_most c q M e = ceil_most c (M - q) (omega (arith, ltb-true q M e))

-- what the code's quotients rounded up are, and at most
pub ruleset rounding = (rounded_up, ceil_most, need_most)

-- the quotient that is formed, by the numbers that it is formed of
pub need_by : (c q M a b r : ℕ) → a ≡ c → b ≡ q → r ≡ ceil_div a (M - b) → has_room q M ≡ true → (r ≡ needed c q M) × (r ≤ c)
need_by c q M a b r ea eb er room =
    let is : r ≡ needed c q M = er ∙ rw (ea, eb) in
    (is, omega (arith, is, need_most c q M room))

-- the length that is added up
pub length_by : (c q x k whole rest more a b : ℕ) → whole ≡ c / x → a ≡ whole → rest ≡ c % x → more ≡ (if ltb k rest then 1 else 0) → b ≡ q → a + more + b ≡ piece_length c q x k
unfolding piece_length
length_by c q x k whole rest more a b ew ea er em eb = rw (ea, ew, em, er, eb)

pub brought_most : (c q x : ℕ) → c ≤ work_most → q ≤ cost_most → x ≤ work_most → c + x * q ≤ phase_most
brought_most c q x hc hq hx = omega (arith, mul-le-mul hx hq)

pub longest_within : (c q x : ℕ) → 1 ≤ x → longest_piece c q x ≤ c + q
unfolding longest_piece
longest_within c q x h = omega (arith, ceil_most c x h)

-- what is asked and answered of numbers that were read
pub fits_by : {a b c q M : ℕ} → a ≡ c → b ≡ q → PhaseFits c q M → PhaseFits a b M
fits_by ea eb f = record { room = rw eb f.room; low = f.low; work = omega (arith, f.work); cost = omega (arith, f.cost) }

pub brought_by : {a b c q : ℕ} (M : ℕ) {r : ℕ} → a ≡ c → b ≡ q → (r ≡ a + needed a b M * b) × (r ≤ phase_most) → (r ≡ c + needed c q M * q) × (r ≤ phase_most)
brought_by M ea eb e = (e.0 ∙ rw (ea, eb), e.1)

pub piece_by : {a b x c q y r : ℕ} → a ≡ c → b ≡ q → x ≡ y → (r ≡ longest_piece a b x) × (r ≤ a + b) → (r ≡ longest_piece c q y) × (r ≤ c + q)
piece_by ea eb ex e = (e.0 ∙ rw (ea, eb, ex), omega (arith, e.1))

-- ---- a task

module _ (S : Tasks) (i : ℕ) where
  -- where counts are at most the work, the budget is bounded
  cost_within : (x : Choice) → S.m i ≤ phases_most → Below (S.m i) (λ j. WorkIn (S.c i j) (S.q i j)) → Below (S.m i) (λ j. x i j ≤ S.c i j)
      → (phases_of S).budget x i ≤ budget_most
  cost_within x few ph le =
      rw ((pieces_of S).whole x i)
      (le_trans
      (sum_most (S.m i) phase_most (brings S x i) (λ j l. let p = ph j l in brought_most (S.c i j) (S.q i j) (x i j) p.work_at_most p.cost_at_most (omega (arith, p.work_at_most, le j l))))
      (mul-le-mul_right phase_most few))

  pub budget_at_most : (M : ℕ) → Roomy S M i → (phases_of S).budget (needs (phases_of S) M) i ≤ budget_most
  budget_at_most M r = cost_within (needs (phases_of S) M) r.few r.phase (λ j l. need_most (S.c i j) (S.q i j) M (r.room j l))

  pub longest_most : (x : Choice) → InPieces S x i → longest S (phases_of S) x i ≤ piece_most
  unfolding longest
  longest_most x r =
      max_least (S.m i) _
      (λ j l. let p = r.phase j l in omega (arith, p.work_at_most, p.cost_at_most, longest_within (S.c i j) (S.q i j) (x i j) (r.some j l)))

-- where nothing limits a piece, each phase in range has room
pub room_far : (S : Tasks) (i j : ℕ) → WorkIn (S.c i j) (S.q i j) → (phases_of S).room i j horizon_most ≡ true
room_far S i j p = lt-ltb (S.q i j) horizon_most (omega (arith, p.cost_at_most))

-- and stays whole
pub need_far : (S : Tasks) (i j : ℕ) → WorkIn (S.c i j) (S.q i j) → (phases_of S).need i j horizon_most ≡ 1
need_far S i j p =
    le_antisymm
    (ceil_least (S.c i j) (horizon_most - S.q i j) 1 (omega (arith, p.cost_at_most)) (omega (arith, p.work_at_most, p.cost_at_most)))
    (ceil_pos (S.c i j) (horizon_most - S.q i j) p.work_least (omega (arith, p.cost_at_most)))
