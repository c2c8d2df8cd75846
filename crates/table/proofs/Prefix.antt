-- The first bytes decide how a longer byte string is read: as many as specs/Sizes says (`deciding`). Assumes nothing.
use Prim.Native.Nat.{ℕ, zero, suc, ◌+◌, ◌-◌, ◌*◌, ◌^◌, ◌≤◌, ◌<◌}
use mathlib.Core.Path.{◌≡◌, refl, sym, subst}
use mathlib.Core.List.{List, [], ◌∷◌}
use mathlib.Core.Logic.{◌⊎◌, inl, inr}
use mathlib.Core.Bool.{Bool, true, false, ◌&&◌, true≢false}
use native.Mathlib.Omega.{arith}
use native.Mathlib.Nat.{le_refl, pow-suc, pow-le-pow_right}
use borrow.Author.Tests.{lt-leb, lt-ltb, eqb-false, ltb-false, ltb-true}
use lib.Dec.{leb, ltb, eqb, lit<}
use lib.ListN.{length, get_or, take}
use lib.Seq.{length-take-le, get_or-take}
use Rattle.finite.proofs.laws.Tests.{le_or_lt}
use Rattle.std.proofs.lemmas.Bool.{and_parts}
use Rattle.std.specs.Prelude as std
use Rattle.std.specs.Prelude.{if◌then◌else◌}
use Rattle.model.specs.Ranges.{FromTo, horizon_most, jobs_most, phase_numbers, phases_most, spacing_most, tasks_most}
use Rattle.groups.specs.declared.Number.{Number}
use Rattle.groups.specs.declared.NumberError.{NumberError}
use Rattle.groups.specs.declared.NumberError.TheVariants.{Ends, Malformed}
use Rattle.groups.specs.Number.{found, in_front, groups, number_at}
use Rattle.model.specs.Tasks.{Tasks}
use Rattle.model.specs.TestPoints.{horizon_of}
use Rattle.table.specs.declared.Reason.{Reason}
use Rattle.table.specs.declared.Reason.TheVariants as reason
use Rattle.table.specs.declared.Table.{Table}
use Rattle.table.specs.Parse.{Result, got, away, Parser, and_then, tested, number_in, numbers_in, each, phase, task, numbers, limits, table, nothing_behind, horizon_in_range, empty, with_count, with_task, with_phase}
use Rattle.table.specs.Sizes.{deciding, number_long, phase_long, table_long, task_long}
use Rattle.table.specs.TaskModel.{tasks_of, jobs_within}
use Rattle.table.proofs.Steps.{in_range}

-- a number that was read from p on has no byte more than it needs, and a string that is long enough does not end in it
abbrev Shape : (longer : Bool) (p : ℕ) → std.Result Number NumberError → Type 0
Shape longer p (std.Ok n) = (k : ℕ) × (n.next ≡ p + suc k) × ((128 ^ k ≤ n.value) ⊎ ((k ≡ 0) × (longer ≡ false)))
Shape longer p (std.Err Ends) = ⊥
Shape longer p (std.Err Malformed) = Unit {0}

front : (longer : Bool) (low p : ℕ) (x : std.Result Number NumberError) → Shape true (p + 1) x → Shape longer p (in_front low x)
front longer low p (std.Ok n) (k, e, inl h) =
    (suc k, omega arith, inl (rw pow-suc (omega (arith, h))))
front longer low p (std.Ok n) (k, e, inr (z, f)) = absurd (true≢false f)
front longer low p (std.Err Ends) h = h
front longer low p (std.Err Malformed) h = h

last_byte : (longer : Bool) (p b : ℕ) (z : Bool) → eqb b 0 ≡ z → Shape longer p (if longer && z then std.Err Malformed else found b (p + 1))
last_byte true p b true e = tt
last_byte true p b false e = (0, omega arith, inl (omega (arith, positive b (eqb-false b 0 e))))
  where
    positive : (b : ℕ) → (b ≡ 0 → ⊥) → 1 ≤ b
    positive zero h = absurd (h refl)
    positive (suc b) h = omega arith
last_byte false p b z e = (0, omega arith, inr (refl, refl))

shape : (left : ℕ) (longer : Bool) (s : List ℕ) (p : ℕ) → p + left ≤ length s → Shape longer p (groups left longer s p)
unfolding groups
shape zero longer s p h = tt
shape (suc left) longer s p h = rw (lt-leb (length s) p (omega arith)) (go (leb 128 (get_or s p 0)) (shape left true s (p + 1) (omega arith)))
  where
    go : (x : Bool) → Shape true (p + 1) (groups left true s (p + 1))
        → Shape longer p (if x then in_front (get_or s p 0 - 128) (groups left true s (p + 1)) else if longer && eqb (get_or s p 0) 0 then std.Err Malformed else found (get_or s p 0) (p + 1))
    go true ih = front longer (get_or s p 0 - 128) p (groups left true s (p + 1)) ih
    go false ih = last_byte longer p (get_or s p 0) (eqb (get_or s p 0) 0) refl

-- ranges of numbers that have at most `number_long` bytes
short : List FromTo → Bool
short [] = true
short (range ∷ ranges) = ltb range.most (128 ^ number_long) && short ranges

-- so a number below 128 ^ (j + 1) has at most j + 1 bytes
few_bytes : (j v p next : ℕ) (longer : Bool) → v < 128 ^ suc j → Shape longer p (found v next) → next ≤ p + suc j
few_bytes j v p next longer h (k, e, inr (z, f)) = omega arith
few_bytes j v p next longer h (k, e, inl l) = go (le_or_lt k j)
  where
    go : (k ≤ j) ⊎ (j < k) → next ≤ p + suc j
    go (inl b) = omega arith
    go (inr b) = absurd (omega (arith, pow-le-pow_right {n = 128} (lit< tt) b))

-- both parsers read the same, and where they read something they stop by `far`
pub record Alike {A : Type 0} (x y : Result A) (far : ℕ) : Type 0 where
  pub same : x ≡ y
  pub near : (a : A) (next : ℕ) → x ≡ got a next → next ≤ far

done_alike : {A : Type 0} (a : A) (next far : ℕ) → next ≤ far → Alike (got a next) (got a next) far
done_alike {A} a next far h = record { same = refl; near = λ b n e. let z : next ≡ n = cc in omega arith }

away_alike : {A : Type 0} (reason : Reason) (place far : ℕ) → Alike {A = A} (away reason place) (away reason place) far
away_alike {A} reason place far = record { same = refl; near = λ b n e. cc }

further : {A : Type 0} {x y : Result A} {near far : ℕ} → near ≤ far → Alike x y near → Alike x y far
further h a = record { same = a.same; near = λ b n e. omega (arith, a.near b n e) }

test_alike : (b : Bool) (reason : Reason) (at : ℕ) → Alike {A = Unit {0}} (if b then away reason 0 else got tt at) (if b then away reason 0 else got tt at) at
test_alike true reason at = away_alike reason 0 at
test_alike false reason at = done_alike tt at at (le_refl at)

-- bytes behind the last phase
pub bytes_behind : (s : List ℕ) (at : ℕ) → at < length s → nothing_behind s at ≡ away reason.Trailing at
bytes_behind s at h = rw (lt-ltb at (length s) h)

-- two strings that are at least `size` bytes long and have the same bytes there
pub record Prefix (size : ℕ) (s r : List ℕ) : Type 0 where
  pub first_long : size ≤ length s
  pub second_long : size ≤ length r
  pub bytes : (p : ℕ) → p < size → get_or s p 0 ≡ get_or r p 0

module _ (size : ℕ) (s r : List ℕ) (pre : Prefix size s r) where
  then_alike : {A B : Type 0} (x y : Result A) (f : A → Parser B) (far end : ℕ) → Alike x y far
      → ((a : A) (next : ℕ) → x ≡ got a next → next ≤ far → Alike (f a s next) (f a r next) end) → Alike (and_then x f s) (and_then y f r) end
  then_alike {A} {B} (got a next) y f far end h k =
      subst (λ (z : Result A). Alike (f a s next) (and_then z f r) end) h.same (k a next refl (h.near a next refl))
  then_alike {A} {B} (away reason place) y f far end h k =
      subst (λ (z : Result A). Alike {A = B} (away reason place) (and_then z f r) end) h.same (away_alike reason place end)

  groups_alike : (left : ℕ) (longer : Bool) (p : ℕ) → p + left ≤ size → groups left longer s p ≡ groups left longer r p
  unfolding groups
  groups_alike zero longer p h = refl
  groups_alike (suc left) longer p h =
      rw (
        lt-leb (length s) p (omega (arith, pre.first_long)),
        lt-leb (length r) p (omega (arith, pre.second_long)),
        pre.bytes p (omega arith),
        groups_alike left true (p + 1) (omega arith),
      )

  -- a number of at most j + 1 bytes, where eight more may be looked at
  number_alike : (j least most at : ℕ) → most < 128 ^ suc j → at + 8 ≤ size → Alike (number_in least most s at) (number_in least most r at) (at + suc j)
  unfolding number_in
  number_alike j least most at small h = rw (sym (groups_alike 8 false at h)) (by (number_at s at) (shape 8 false s at (omega (arith, pre.first_long))))
    where
      within : (v next : ℕ) (a b : Bool) → ltb most v ≡ b → Shape false at (found v next)
          → Alike (if a then away reason.OutOfRange at else if b then away reason.OutOfRange at else got v next) (if a then away reason.OutOfRange at else if b then away reason.OutOfRange at else got v next) (at + suc j)
      within v next true b e k = away_alike reason.OutOfRange at (at + suc j)
      within v next false true e k = away_alike reason.OutOfRange at (at + suc j)
      within v next false false e k = done_alike v next (at + suc j) (few_bytes j v at next false (omega (arith, ltb-false most v e)) k)

      by : (x : std.Result Number NumberError) → Shape false at x → Alike (tested least most x s at) (tested least most x r at) (at + suc j)
      by (std.Ok n) k = within n.value n.next (ltb n.value least) (ltb most n.value) refl k
      by (std.Err Ends) k = absurd k
      by (std.Err Malformed) k = away_alike reason.Malformed at (at + suc j)

  -- parts of `part` bytes each, one behind the other
  each_alike : (part : ℕ) (p : ℕ → Table → Parser Table)
      → ((k : ℕ) (t : Table) (at : ℕ) → at + part + 4 ≤ size → Alike (p k t s at) (p k t r at) (at + part))
      → (left k : ℕ) (t : Table) (at : ℕ) → at + part * left + 4 ≤ size → Alike (each p left k t s at) (each p left k t r at) (at + part * left)
  unfolding each
  each_alike part p one zero k t at h = done_alike t at (at + part * 0) (omega arith)
  each_alike part p one (suc left) k t at h =
      then_alike (p k t s at) (p k t r at) _ (at + part) (at + part * suc left) (one k t at (omega arith))
      (λ t' next e l. further (omega arith) (each_alike part p one left (k + 1) t' next (omega arith)))

  -- numbers of at most `number_long` bytes each, one behind the other
  in_order_alike : (ranges : List FromTo) → short ranges ≡ true → (at : ℕ) → at + number_long * length ranges + 4 ≤ size
      → Alike (numbers_in ranges s at) (numbers_in ranges r at) (at + number_long * length ranges)
  unfolding numbers_in short
  in_order_alike [] ok at h = done_alike [] at (at + number_long * 0) (omega arith)
  in_order_alike (range ∷ ranges) ok at h =
      let least = range.least in
      let most = range.most in
      let far = at + number_long * length (range ∷ ranges) in
      let (this, others) = and_parts (ltb most (128 ^ number_long)) (short ranges) ok in
      let small = ltb-true most (128 ^ number_long) this in
      then_alike (number_in least most s at) (number_in least most r at) _ (at + number_long) far (number_alike 3 least most at small (omega arith))
      (λ n a e l. then_alike (numbers_in ranges s a) (numbers_in ranges r a) _ (a + number_long * length ranges) far (in_order_alike ranges others a (omega arith))
      (λ ns b f m. done_alike (n ∷ ns) b far (omega arith)))

  phase_alike : (k : ℕ) (t : Table) (at : ℕ) → at + phase_long + 4 ≤ size → Alike (phase k t s at) (phase k t r at) (at + phase_long)
  unfolding phase short
  phase_alike k t at h =
      then_alike (numbers_in phase_numbers s at) (numbers_in phase_numbers r at) _ (at + phase_long) (at + phase_long) (in_order_alike phase_numbers refl at h)
      (λ ns a e l. done_alike (with_phase k ns t) a (at + phase_long) l)

  task_alike : (i : ℕ) (t : Table) (at : ℕ) → at + task_long + 4 ≤ size → Alike (task i t s at) (task i t r at) (at + task_long)
  unfolding task
  task_alike i t at h =
      then_alike (number_in 1 spacing_most s at) (number_in 1 spacing_most r at) _ (at + 5) (at + task_long) (number_alike 4 1 spacing_most at (omega arith) (omega arith))
      (λ T a e l. then_alike (number_in 1 T s a) (number_in 1 T r a) _ (a + 5) (at + task_long)
      (number_alike 4 1 T a (omega (arith, in_range 1 spacing_most s at e)) (omega arith))
      (λ D b f m. then_alike (number_in 1 phases_most s b) (number_in 1 phases_most r b) _ (b + 1) (at + task_long) (number_alike 0 1 phases_most b (omega arith) (omega arith))
      (λ count c g n. let q = in_range 1 phases_most s b g in
      further (omega arith) (each_alike phase_long phase phase_alike count (8 * i) (with_task i T D count t) c (omega arith)))))

  -- the numbers of a table are read alike: the first, and then those of the tasks, which end by `table_long`
  pub count_alike : deciding ≤ size → Alike (number_in 1 tasks_most s 0) (number_in 1 tasks_most r 0) 1
  count_alike h = number_alike 0 1 tasks_most 0 (omega arith) (omega arith)

  pub tasks_alike : (count at : ℕ) → deciding ≤ size → at ≤ 1 → count ≤ tasks_most
      → Alike (each task count 0 (with_count count empty) s at) (each task count 0 (with_count count empty) r at) table_long
  tasks_alike count at h a c = further (omega arith) (each_alike task_long task task_alike count 0 (with_count count empty) at (omega arith))

  -- both end for one reason
  stop_alike : {A B : Type 0} (x y : Result A) (f : A → Parser B) (reason : Reason) (place far : ℕ) → x ≡ away reason place → y ≡ away reason place
      → Alike (and_then x f s) (and_then y f r) far
  stop_alike x y f reason place far p q = rw (p, q) (away_alike reason place far)

  numbers_alike : deciding ≤ size → Alike (numbers s 0) (numbers r 0) 0
  unfolding numbers
  numbers_alike h =
      then_alike (number_in 1 tasks_most s 0) (number_in 1 tasks_most r 0) _ 1 0 (count_alike h)
      (λ count a e l. then_alike (each task count 0 (with_count count empty) s a) (each task count 0 (with_count count empty) r a) _ table_long 0
      (tasks_alike count a h l (in_range 1 tasks_most s 0 e).1)
      (λ t b f m. stop_alike (nothing_behind s b) (nothing_behind r b) _ reason.Trailing b 0 (bytes_behind s b (omega (arith, pre.first_long))) (bytes_behind r b (omega (arith, pre.second_long)))))

  -- the limits look at no byte
  limits_alike : (S : Tasks) (at : ℕ) → Alike (limits S s at) (limits S r at) at
  limits_alike S at =
      then_alike (horizon_in_range S s at) (horizon_in_range S r at) _ at at (test_alike (ltb horizon_most (horizon_of S)) reason.Horizon at)
      (λ u b e l. further l (test_alike (ltb jobs_most (jobs_within S (horizon_of S))) reason.Jobs b))

  pub table_alike : deciding ≤ size → table s 0 ≡ table r 0
  unfolding table
  table_alike h =
      (then_alike (numbers s 0) (numbers r 0) _ 0 0 (numbers_alike h)
      (λ t a e l. then_alike (limits (tasks_of t) s a) (limits (tasks_of t) r a) _ a 0 (limits_alike (tasks_of t) a) (λ u b f m. done_alike t b 0 (omega arith)))
      ).same

-- What is read of a string of at least `deciding` bytes, the reason and the place too, is what is read of any prefix of it with at least so many.
-- Fewer do not decide: the last number of a table may begin four bytes before the end of the longest, and eight bytes of it may be looked at.
pub table_prefix : (s : List ℕ) (n : ℕ) → deciding ≤ n → n ≤ length s → table (take n s) 0 ≡ table s 0
table_prefix s n h l = table_alike n (take n s) s (record {
  first_long = omega (arith, length-take-le n s l);
  second_long = l;
  bytes = λ p m. get_or-take n s p 0 m;
}) h
