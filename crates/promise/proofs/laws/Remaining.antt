-- The work that a job still has, from the phase and piece it is at; the view of a record.
-- Assumes nothing.
use Rattle.std.specs.Prelude.{ℕ, suc, ◌+◌, ◌-◌, ◌≤◌, ◌<◌, ◌≡◌, refl, true, cond, eqb}
use Rattle.std.proofs.Math.Path.{ap}
use Rattle.std.proofs.Common.{◌∙◌, eq-eqb, ne_eqb}
use native.Mathlib.Omega.{arith}
use Rattle.finite.specs.Finite.{sum_to}
use Rattle.finite.proofs.laws.Extremes.{max_upper}
use Rattle.finite.proofs.laws.Sums.{sum_grow, sum_last}
use Rattle.std.proofs.lemmas.Bool.{cond-false, cond-true}
use Rattle.model.specs.Phase.{Choice, brings, phases_of}
use Rattle.model.specs.Tasks.{Tasks}
use Rattle.model.specs.Works.{longest}
use Rattle.promise.specs.Rules.{State, put, stated}
use Rattle.promise.proofs.laws.View.{Terms, View}

-- the lengths of the pieces of phase j of task i
abbrev pub lengths_of : Tasks → Choice → ℕ → ℕ → ℕ → ℕ
lengths_of S x i j = (phases_of S).piece_length i j (x i j)

-- the work of the phases before phase j, and of its first p pieces
unfoldable pub finished_work : Tasks → Choice → ℕ → ℕ → ℕ → ℕ
finished_work S x i j p = sum_to (j - 1) (brings S x i) + sum_to p (lengths_of S x i (j - 1))

-- all that the theory asks of a task's phases and their pieces
pub record Ranged (S : Tasks) (x : Choice) (i : ℕ) : Type 0 where
  pub phased : 1 ≤ S.m i
  pub counted : (j : ℕ) → j < S.m i → 1 ≤ x i j
  pub some : (j : ℕ) → j < S.m i → (p : ℕ) → p < x i j → 1 ≤ lengths_of S x i j p
  pub most : (j : ℕ) → j < S.m i → (p : ℕ) → p < x i j → lengths_of S x i j p ≤ (phases_of S).longest_piece i j (x i j)
  pub all : (j : ℕ) → j < S.m i → sum_to (x i j) (lengths_of S x i j) ≡ brings S x i j
  pub whole : (phases_of S).budget x i ≡ sum_to (S.m i) (brings S x i)

-- phase j and piece p, from 1, are ones of task i
pub record At (S : Tasks) (x : Choice) (i j p : ℕ) : Type 0 where
  pub phase_least : 1 ≤ j
  pub phase_at_most : j ≤ S.m i
  pub piece_least : 1 ≤ p
  pub piece_at_most : p ≤ x i (j - 1)

module _ (S : Tasks) (x : Choice) (i : ℕ) (ranged : Ranged S x i) where
  module _ (j p : ℕ) (at : At S x i j p) where
    pub stated_some : 1 ≤ stated S x i j p
    unfolding stated
    stated_some = ranged.some (j - 1) (omega arith) (p - 1) (omega arith)

    pub stated_most : stated S x i j p ≤ longest S (phases_of S) x i
    unfolding stated longest
    stated_most =
        omega (arith, ranged.most (j - 1) (omega arith) (p - 1) (omega arith), max_upper (S.m i) (λ j. (phases_of S).longest_piece i j (x i j)) (j - 1) (omega arith))

    pub finished_next : finished_work S x i j p ≡ finished_work S x i j (p - 1) + stated S x i j p
    unfolding finished_work stated
    finished_next =
        omega (arith, sum_last p (lengths_of S x i (j - 1)) at.piece_least)

    pub phase_all : sum_to (x i (j - 1)) (lengths_of S x i (j - 1)) ≡ brings S x i (j - 1)
    phase_all = ranged.all (j - 1) (omega arith)

    -- the same, at a piece that is the last
    phase_done : x i (j - 1) ≤ p → sum_to p (lengths_of S x i (j - 1)) ≡ brings S x i (j - 1)
    phase_done h =
        let last : p ≡ x i (j - 1) = omega arith in
        ap (λ z. sum_to z (lengths_of S x i (j - 1))) last ∙ phase_all

    pub finished_most : finished_work S x i j p ≤ (phases_of S).budget x i
    unfolding finished_work
    finished_most =
        omega (
          arith,
          ranged.whole,
          phase_all,
          sum_grow (x i (j - 1)) p (lengths_of S x i (j - 1)) at.piece_at_most,
          sum_last j (brings S x i) at.phase_least,
          sum_grow (S.m i) j (brings S x i) at.phase_at_most,
        )

    pub finished_phase : x i (j - 1) ≤ p → finished_work S x i (j + 1) 0 ≡ finished_work S x i j p
    unfolding finished_work sum_to
    finished_phase h =
        let e : j + 1 - 1 ≡ j = omega arith in
        omega (arith, phase_done h, ap (λ z. sum_to z (brings S x i)) e, sum_last j (brings S x i) at.phase_least)

    -- nothing is left after the last piece of the last phase
    pub finished_all : S.m i ≤ j → x i (j - 1) ≤ p → finished_work S x i j p ≡ (phases_of S).budget x i
    unfolding finished_work
    finished_all a b =
        let e : j ≡ S.m i = omega arith in
        omega (arith, phase_done b, ranged.whole, sum_last j (brings S x i) at.phase_least, ap (λ z. sum_to z (brings S x i)) e)

-- the work that a job at piece p of phase j still has to do if nothing ends early: with the ticks left of that piece where it runs
unfoldable pub remaining : Tasks → Choice → ℕ → ℕ → ℕ → ℕ → ℕ → ℕ
remaining S x run ticks i j p = cond (eqb run (suc i)) (ticks + ((phases_of S).budget x i - finished_work S x i j p)) ((phases_of S).budget x i - finished_work S x i j (p - 1))

pub remaining_run : (S : Tasks) (x : Choice) (run ticks i j p : ℕ) → run ≡ suc i
    → remaining S x run ticks i j p ≡ ticks + ((phases_of S).budget x i - finished_work S x i j p)
unfolding remaining
remaining_run S x run ticks i j p e = rw (eq-eqb run (suc i) e)

pub remaining_not : (S : Tasks) (x : Choice) (run ticks i j p : ℕ) → (run ≡ suc i → ⊥)
    → remaining S x run ticks i j p ≡ (phases_of S).budget x i - finished_work S x i j (p - 1)
unfolding remaining
remaining_not S x run ticks i j p e = rw (ne_eqb run (suc i) e)

abbrev pub view : Tasks → Choice → State → View
view S x s =
    record {
      busy = s.busy;
      since = s.since;
      left = s.left;
      rem = λ i. remaining S x s.run s.ticks i (s.phase i) (s.piece i);
      run = s.run;
      ticks = s.ticks;
    }

pub record RunsAt (S : Tasks) (x : Choice) (s : State) (j : ℕ) : Type 0 where
  pub task : j < S.n
  pub unfinished : s.busy j ≡ true
  pub some : 1 ≤ s.ticks
  pub most : s.ticks ≤ stated S x j (s.phase j) (s.piece j)

-- what the argument asks of a table with counts, where releases are heard of up to `lag` ticks late
abbrev pub terms : Tasks → Choice → ℕ → Terms
terms S x lag = record { tasks = S; lag = lag; cost = (phases_of S).budget x; longest = longest S (phases_of S) x }

-- the record's fields in range, as far as the argument asks
pub record Proper (S : Tasks) (x : Choice) (s : State) : Type 0 where
  pub job : (i : ℕ) → i < S.n → s.busy i ≡ true → At S x i (s.phase i) (s.piece i)
  pub runs : (j : ℕ) → s.run ≡ suc j → RunsAt S x s j

pub put_same : {A : Type 0} (f : ℕ → A) (j : ℕ) (v : A) → put f j v j ≡ v
put_same f j v = cond-true (eqb j j) v (f j) (eq-eqb j j refl)

pub put_other : {A : Type 0} (f : ℕ → A) (j : ℕ) (v : A) (i : ℕ) → (i ≡ j → ⊥) → put f j v i ≡ f i
put_other f j v i q = cond-false (eqb i j) v (f i) (ne_eqb i j q)
