-- How an array is passed place by place, the least of it with it, and the mask of the tasks that are due.
-- Assumes nothing.
use Rattle.std.specs.Prelude.{◌≡◌, refl, cond, Bool, true, false, List, ℕ, ◌+◌, ◌^◌, ◌≤◌, ◌<◌, min, eqb, length, take, get_or, set}
use Rattle.std.proofs.Common.{sym, ap, ◌∙◌, ⊎_elim, lt_of_lt_of_le, arith, lit<, length-set, pow_mono, get_or-set_same, get_or-set_other, below_more, eqb-true, eq-eqb, ne_eqb}
use Rattle.std.proofs.Math.Nat.{min-eq_left}
use Rattle.std.proofs.lemmas.List.{get_or-take, length-take-le, set-get_or}
use Rattle.std.proofs.lemmas.Bool.{eqb-false}
use Rattle.finite.proofs.laws.Tests.{le_or_lt}
use Rattle.finite.specs.Finite.{Below}
use Rattle.model.specs.Ranges.{horizon_most, tasks_most}
use Rattle.walk.specs.Deadlines.{BeforePass, Earliest, Mapped, MovesOn, PointPassed, beyond_all, next_at}
use Rattle.walk.specs.Masks.{BitPut}
use Rattle.finite.specs.Masks.{bit}
use Rattle.walk.specs.declared.deadlines.Moved.{Moved}
use Rattle.walk.proofs.laws.Masks.{bit_beyond}

-- which of two numbers a test picks
pub cond_cases : (P : ℕ → Type 0) (x y a b : ℕ) → (x ≡ y → P a) → ((x ≡ y → ⊥) → P b) → P (cond (eqb x y) a b)
cond_cases P x y a b f g = go (eqb x y) refl
  where
    go : (k : Bool) → eqb x y ≡ k → P (cond k a b)
    go true e = f (eqb-true x y e)
    go false e = g (eqb-false x y e)

-- ---- an array put through a function

pub mapped_none : (f : ℕ → ℕ → ℕ) (xs : List ℕ) → Mapped 0 f xs xs
mapped_none f xs = record { same = refl; below = λ i l. absurd (omega arith); beyond = λ i l. refl }

-- one more place is put through f
pub mapped_more : (i v : ℕ) (f : ℕ → ℕ → ℕ) (xs ys : List ℕ) → i < length ys → Mapped i f xs ys → v ≡ f i (get_or ys i 0) → Mapped (i + 1) f xs (set ys i v)
mapped_more i v f xs ys l m e =
    record {
      same = length-set ys i v ∙ m.same;
      below = below_more (λ k. get_or (set ys i v) k 0 ≡ f k (get_or xs k 0)) i (λ k lt. get_or-set_other ys i k v 0 (omega arith) ∙ m.below k lt) (rw (get_or-set_same ys i v 0 l, e, m.beyond i (omega arith)));
      beyond = λ k le. get_or-set_other ys i k v 0 (omega arith) ∙ m.beyond k (omega arith);
    }

-- ---- the least

pub earliest_one : (xs : List ℕ) → Earliest 1 xs (get_or xs 0 0)
earliest_one xs =
    record {
      below = λ i l. let z : i ≡ 0 = omega arith in rw z (omega arith);
      met = (0, omega arith, refl);
    }

pub earliest_more : {i t r : ℕ} {xs : List ℕ} → Earliest i xs t → r ≡ min t (get_or xs i 0) → Earliest (i + 1) xs r
earliest_more {i} {t} {r} {xs} m e =
    record {
      below = below_more (λ k. r ≤ get_or xs k 0) i (λ k l. omega (arith, m.below k l)) (omega arith);
      met =
          ⊎_elim (λ l. (m.met.0, omega (arith, m.met.1), m.met.2 ∙ sym (e ∙ min-eq_left l))) (λ l. (i, omega arith, omega arith)) (le_or_lt t (get_or xs i 0));
    }

pub earliest_all : {i n t : ℕ} {xs : List ℕ} → Earliest i xs t → i ≡ n → Earliest n xs t
earliest_all m e = rw e at m

-- the least of a leading run of n numbers
pub earliest_front : {n t : ℕ} {xs : List ℕ} → n ≤ length xs → Earliest (length (take n xs)) (take n xs) t → Earliest n xs t
earliest_front {n} {t} {xs} le m =
    let long : length (take n xs) ≡ n = length-take-le n xs le in
    let l : m.met.0 < n = omega (arith, m.met.1, long) in
    record {
      below = λ i il. rw (← get_or-take n xs i 0 il) (m.below i (omega (arith, long)));
      met = (m.met.0, l, sym (get_or-take n xs m.met.0 0 l) ∙ m.met.2);
    }

-- s is at most each of the first n numbers of xs, and is one of them where it is under the bound
pub record EarliestUnder (bound n : ℕ) (xs : List ℕ) (s : ℕ) : Type 0 where
  pub below : (i : ℕ) → i < n → s ≤ get_or xs i 0
  pub met : s < bound → (i : ℕ) × (i < n) × (get_or xs i 0 ≡ s)

under_none : (bound : ℕ) (xs : List ℕ) → EarliestUnder bound 0 xs bound
under_none bound xs = record { below = λ i l. absurd (omega arith); met = λ l. absurd (omega arith) }

-- one more place, v, which may have been stored since
under_more : (bound i s v : ℕ) (xs ys : List ℕ) → EarliestUnder bound i xs s → ((k : ℕ) → k < i → get_or ys k 0 ≡ get_or xs k 0) → v ≡ get_or ys i 0 → EarliestUnder bound (i + 1) ys (min s v)
under_more bound i s v xs ys m old e =
    record {
      below = below_more (λ k. min s v ≤ get_or ys k 0) i (λ k l. omega (arith, m.below k l, old k l)) (omega arith);
      met = λ b.
          ⊎_elim
          (λ l. let k = m.met (omega arith) in (k.0, omega (arith, k.1), old k.0 k.1 ∙ k.2 ∙ sym (min-eq_left l)))
          (λ l. (i, omega arith, omega arith))
          (le_or_lt s v);
    }

-- where the first of them is under the bound, it is the least
under_all : (bound n s : ℕ) (xs : List ℕ) → 0 < n → get_or xs 0 0 < bound → EarliestUnder bound n xs s → Earliest n xs s
under_all bound n s xs some near m = record { below = m.below; met = m.met (omega (arith, m.below 0 some)) }

-- ---- one task is passed

-- task i is due
pub moves_due : {i t s w : ℕ} {next : List ℕ} {moved : Moved} {due' soonest' : ℕ} → get_or next i 0 ≡ t → w ≡ s → BitPut i true moved.due due' × (due' < 2 ^ (i + 1)) → soonest' ≡ min moved.soonest (t + w)
    → MovesOn i t s next (set next i (t + w)) moved (record { due = due'; soonest = soonest' })
moves_due {i} {t} {s} {w} {next} now ew em es =
    let test : eqb (get_or next i 0) t ≡ true = eq-eqb (get_or next i 0) t now in
    record { moved = rw (test, ew); marked = rw test em.0; small = em.1; least = rw (test, ← ew) es }

-- task i is not due
pub moves_not : {i t s : ℕ} {next : List ℕ} {moved : Moved} {soonest' : ℕ} → (get_or next i 0 ≡ t → ⊥) → moved.due < 2 ^ i → soonest' ≡ min moved.soonest (get_or next i 0)
    → MovesOn i t s next next moved (record { due = moved.due; soonest = soonest' })
moves_not {i} {t} {s} {next} later l es =
    let test : eqb (get_or next i 0) t ≡ false = ne_eqb (get_or next i 0) t later in
    record {
      moved = rw test (sym (set-get_or next i 0));
      marked = rw test (record { here = bit_beyond l i (omega arith); elsewhere = λ k ne. refl });
      small = lt_of_lt_of_le l (pow_mono {i = i} {j = i + 1} (omega arith));
      least = rw test es;
    }

-- ---- a point is passed

-- what the loop over the tasks keeps: the first i are passed
pub record MovingOn (n t : ℕ) (spacing next : List ℕ) (i : ℕ) (next' : List ℕ) (passed : Moved) : Type 0 where
  pub ready : BeforePass n t spacing next
  pub so_far : i ≤ n
  pub each : Mapped i (next_at spacing t) next next'
  pub least : EarliestUnder beyond_all i next' passed.soonest
  pub due : Below i (λ k. bit passed.due k ≡ eqb (get_or next k 0) t)
  pub small : passed.due < 2 ^ i

pub moving_none : {n t : ℕ} {spacing next : List ℕ} → BeforePass n t spacing next → MovingOn n t spacing next 0 next (record { due = 0; soonest = beyond_all })
moving_none {n} {t} {spacing} {next} r =
    record { ready = r; so_far = omega arith; each = mapped_none _ next; least = under_none _ next; due = λ k l. absurd (omega arith); small = lit< tt }

module _ {n t : ℕ} {spacing next : List ℕ} {i : ℕ} {next' : List ℕ} {passed : Moved} (k : MovingOn n t spacing next i next' passed) where
  -- what is asked of task i
  pub moving_near : i < n → (i < tasks_most) × (t ≤ horizon_most) × (passed.due < 2 ^ i)
  moving_near l = (omega (arith, k.ready.few), k.ready.point, k.small)

  -- task i is passed
  pub moving_more : length next' ≡ 32 → i < n → {next'' : List ℕ} {passed' : Moved} → MovesOn i t (get_or spacing i 0) next' next'' passed passed' → MovingOn n t spacing next (i + 1) next'' passed'
  moving_more long l {next''} {passed'} m =
      let later : ℕ = next_at spacing t i (get_or next' i 0) in
      let wide : i < length next' = omega (arith, k.ready.few, long) in
      record {
        ready = k.ready;
        so_far = omega arith;
        each = rw m.moved (mapped_more i later _ next next' wide k.each refl);
        least = rw (m.least, m.moved) (under_more _ i passed.soonest later next' (set next' i later) k.least (λ j jl. get_or-set_other next' i j later 0 (omega arith)) (sym (get_or-set_same next' i later 0 wide)));
        due = below_more (λ j. bit passed'.due j ≡ eqb (get_or next j 0) t) i (λ j jl. m.marked.elsewhere j (λ e. omega arith) ∙ k.due j jl) (m.marked.here ∙ ap (λ (v : ℕ). eqb v t) (k.each.beyond i (omega arith)));
        small = m.small;
      }

  -- the last task is passed
  pub moving_all : n ≤ i → PointPassed n t spacing next next' passed
  moving_all le =
      let r = k.ready in
      let done : i ≡ n = omega (arith, k.so_far) in
      let each : Mapped n (next_at spacing t) next next' = rw done at k.each in
      let least : EarliestUnder beyond_all n next' passed.soonest = rw done at k.least in
      let near : get_or next' 0 0 < beyond_all =
      rw (each.below 0 r.some)
      (cond_cases (λ v. v < beyond_all) (get_or next 0 0) t _ _ (λ e. omega (arith, r.point, r.short 0 r.some)) (λ ne. omega (arith, r.near 0 r.some))) in
      record {
        moved = record { each = each; earliest = under_all _ _ _ _ r.some near least };
        due = record { each = λ j jl. k.due j (omega arith); beyond = λ j jl. bit_beyond k.small j (omega arith) };
      }
