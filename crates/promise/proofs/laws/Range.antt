-- The rules keep every field of a record in its range.
-- Assumes nothing.
use Rattle.std.specs.Prelude.{ℕ, zero, suc, ◌+◌, ◌-◌, ◌≤◌, ◌<◌, ◌≡◌, refl, Bool, true, false, cond, ◌||◌}
use Rattle.std.proofs.Common.{sym, ap, ◌∙◌, subst, true≢false, arith}
use Rattle.std.proofs.Math.Decide.{ℕ_discrete}
use Rattle.model.specs.Phase.{Choice}
use Rattle.model.specs.Tasks.{Tasks}
use Rattle.promise.specs.Rules.{PieceOutcome, Request, State, admit, after, done, initial, next_phase, next_piece, on, outcome, pick_at, put, start, tick, work_at}
use Rattle.promise.proofs.laws.Entering.{LetIn, late_admit_proper, let_in_lem}
use Rattle.promise.specs.laws.Late.{Chooses, LateRequest, admit_at, elapse_at, late_initial, late_tick, lets_in_at, pick_by, pick_by_at}
use Rattle.promise.proofs.laws.Remaining.{Proper, Ranged, put_other, put_same}
use Rattle.promise.proofs.laws.Starting.{late_picks}
use Rattle.promise.proofs.laws.Today.{fresh, today_admit, today_initial, today_tick}
use Rattle.promise.proofs.laws.Urgent.{best_chooses, best_of}

-- a task with no unfinished job has three zeros
pub record Zeros (s : State) (i : ℕ) : Type 0 where
  pub left : s.left i ≡ 0
  pub phase : s.phase i ≡ 0
  pub piece : s.piece i ≡ 0

-- the ranges of a record's fields, but for those of `Proper`, where spacing counts stop
pub record RangeTo (S : Tasks) (stop : ℕ → ℕ) (s : State) : Type 0 where
  pub since : (i : ℕ) → s.since i ≤ stop i
  pub left : (i : ℕ) → s.busy i ≡ true → s.left i ≤ S.D i
  pub idle : (i : ℕ) → s.busy i ≡ false → Zeros s i
  pub none : (i : ℕ) → S.n ≤ i → s.busy i ≡ false
  pub rest : s.run ≡ 0 → s.ticks ≡ 0

-- by document 01's rules they stop at T
abbrev pub Range : Tasks → State → Type 0
Range S s = RangeTo S S.T s

-- what holds of v at j, and of f elsewhere, holds of f with v at j
put_case : {A : Type 0} (P : ℕ → A → Type 0) (f : ℕ → A) (j : ℕ) (v : A) (i : ℕ) → (i ≡ j → P i v) → ((i ≡ j → ⊥) → P i (f i)) → P i (put f j v i)
put_case P f j v i here there = go (ℕ_discrete i j)
  where
    go : Dec (i ≡ j) → P i (put f j v i)
    go (yes q) = subst (P i) (sym (ap (put f j v) q ∙ put_same f j v)) (here q)
    go (no q) = subst (P i) (sym (put_other f j v i q)) (there q)

-- ---- with any lag and any choice: counts stop at T + lag or above
module _ (S : Tasks) (x : Choice) (lag : ℕ) (stop : ℕ → ℕ) (stops : (i : ℕ) → S.T i + lag ≤ stop i) where
  module _ (s : State) (ok : RangeTo S stop s) (mask : ℕ → Bool) (age : ℕ → ℕ) where
    pub late_admit_range : RangeTo S stop (admit_at S lag mask age s)
    late_admit_range = record { since = since; left = left; idle = idle; none = none; rest = ok.rest }
      where
        entry : (i : ℕ) → lets_in_at S lag s mask age i ≡ true → LetIn S lag s age i
        entry = let_in_lem S lag s mask age

        since : (i : ℕ) → cond (lets_in_at S lag s mask age i) (age i) (s.since i) ≤ stop i
        since i = go (lets_in_at S lag s mask age i) (entry i)
          where
            go : (v : Bool) → (v ≡ true → LetIn S lag s age i) → cond v (age i) (s.since i) ≤ stop i
            go true e = omega (arith, (e refl).heard, stops i)
            go false e = ok.since i

        left : (i : ℕ) → (lets_in_at S lag s mask age i || s.busy i) ≡ true → cond (lets_in_at S lag s mask age i) (S.D i - age i) (s.left i) ≤ S.D i
        left i = go (lets_in_at S lag s mask age i)
          where
            go : (v : Bool) → (v || s.busy i) ≡ true → cond v (S.D i - age i) (s.left i) ≤ S.D i
            go true b = omega arith
            go false b = ok.left i b

        idle : (i : ℕ) → (lets_in_at S lag s mask age i || s.busy i) ≡ false → Zeros (admit_at S lag mask age s) i
        idle i b = let z = go (lets_in_at S lag s mask age i) b in record { left = z.0; phase = z.1; piece = z.2 }
          where
            go : (v : Bool) → (v || s.busy i) ≡ false → (cond v (S.D i - age i) (s.left i) ≡ 0) × (cond v 1 (s.phase i) ≡ 0) × (cond v 1 (s.piece i) ≡ 0)
            go true e = absurd (true≢false e)
            go false e = ((ok.idle i e).left, (ok.idle i e).phase, (ok.idle i e).piece)

        none : (i : ℕ) → S.n ≤ i → (lets_in_at S lag s mask age i || s.busy i) ≡ false
        none i l = go (lets_in_at S lag s mask age i) (entry i)
          where
            go : (v : Bool) → (v ≡ true → LetIn S lag s age i) → (v || s.busy i) ≡ false
            go true e = absurd (omega (arith, (e refl).exists))
            go false e = ok.none i l

  start_range : (s : State) → RangeTo S stop s → (b : ℕ) → RangeTo S stop (start S x s b)
  start_range s ok zero = ok
  start_range s ok (suc j) =
      record {
        since = ok.since;
        left = ok.left;
        idle = λ i b. record { left = (ok.idle i b).left; phase = (ok.idle i b).phase; piece = (ok.idle i b).piece };
        none = ok.none;
        rest = λ e. absurd (omega arith);
      }

  pub late_pick_range : (choose : State → ℕ) (s : State) → RangeTo S stop s → (r : ℕ) → RangeTo S stop (pick_by_at S x choose s r)
  late_pick_range choose s ok zero = start_range s ok (choose s)
  late_pick_range choose s ok (suc j) = ok

  module _ (s : State) (ok : RangeTo S stop s) (j : ℕ) (r : s.run ≡ suc j) (b : s.busy j ≡ true) where
    -- a field changed at j, which has an unfinished job, is still 0 where there is none
    changed : (f : ℕ → ℕ) (v i : ℕ) → s.busy i ≡ false → f i ≡ 0 → put f j v i ≡ 0
    changed f v i e z = put_other f j v i (λ q. true≢false (sym b ∙ ap s.busy (sym q) ∙ e)) ∙ z

    -- a field cleared at j is 0 where there was no other unfinished job
    cleared : (f : ℕ → ℕ) (i : ℕ) → put s.busy j false i ≡ false → (s.busy i ≡ false → f i ≡ 0) → put f j 0 i ≡ 0
    cleared f i e z = put_case (λ i v. v ≡ 0) f j 0 i (λ q. refl) (λ q. z (sym (put_other s.busy j false i q) ∙ e))

    after_range : (o : PieceOutcome) → RangeTo S stop (after s j o)
    after_range on =
        record {
          since = ok.since;
          left = ok.left;
          idle = λ i e. record { left = (ok.idle i e).left; phase = (ok.idle i e).phase; piece = (ok.idle i e).piece };
          none = ok.none;
          rest = λ e. absurd (omega arith);
        }
    after_range next_piece =
        record {
          since = ok.since;
          left = ok.left;
          idle = λ i e. record { left = (ok.idle i e).left; phase = (ok.idle i e).phase; piece = changed s.piece (s.piece j + 1) i e (ok.idle i e).piece };
          none = ok.none;
          rest = λ e. refl;
        }
    after_range next_phase =
        record {
          since = ok.since;
          left = ok.left;
          idle = λ i e.
              record {
                left = (ok.idle i e).left;
                phase = changed s.phase (s.phase j + 1) i e (ok.idle i e).phase;
                piece = changed s.piece 1 i e (ok.idle i e).piece;
              };
          none = ok.none;
          rest = λ e. refl;
        }
    after_range done =
        record {
          since = ok.since;
          left = λ i e.
              put_case
              (λ i v. s.busy i ≡ true → v ≤ S.D i)
              s.left
              j
              0
              i
              (λ q f. omega arith)
              (λ q f. ok.left i f)
              (put_case (λ i v. v ≡ true → s.busy i ≡ true) s.busy j false i (λ q f. absurd (true≢false (sym f))) (λ q f. f) e);
          idle = λ i e.
              record {
                left = cleared s.left i e (λ z. (ok.idle i z).left);
                phase = cleared s.phase i e (λ z. (ok.idle i z).phase);
                piece = cleared s.piece i e (λ z. (ok.idle i z).piece);
              };
          none = λ i l. put_case (λ i v. v ≡ false) s.busy j false i (λ q. refl) (λ q. ok.none i l);
          rest = λ e. refl;
        }

  pub late_work_range : (flag : Bool) (s : State) → Proper S x s → RangeTo S stop s → (r : ℕ) → s.run ≡ r → RangeTo S stop (work_at S x flag s r)
  late_work_range flag s v ok zero e = ok
  late_work_range flag s v ok (suc j) e = after_range s ok j e (v.runs j e).unfinished (outcome S x flag s j)

  pub late_elapse_range : (s : State) → RangeTo S stop s → RangeTo S stop (elapse_at S lag s)
  late_elapse_range s ok =
      record {
        since = λ i. omega (arith, stops i);
        left = λ i b. omega (arith, ok.left i b);
        idle = λ i b. record { left = omega (arith, (ok.idle i b).left); phase = (ok.idle i b).phase; piece = (ok.idle i b).piece };
        none = ok.none;
        rest = ok.rest;
      }

  pub late_tick_range : ((i : ℕ) → i < S.n → Ranged S x i) → (choose : State → ℕ) → Chooses S choose → (q : LateRequest) (s : State) → Proper S x s → RangeTo S stop s
      → RangeTo S stop (late_tick S x lag choose q s)
  late_tick_range ranged choose chosen q s v ok =
      let m : State = admit_at S lag q.mask q.age s in
      let p : State = pick_by S x choose m in
      late_elapse_range
      (work_at S x q.flag p p.run)
      (late_work_range
      q.flag
      p
      (late_picks S x ranged lag m (late_admit_proper S x ranged lag s v q.mask q.age) choose (chosen m)).1
      (late_pick_range choose m (late_admit_range s ok q.mask q.age) m.run)
      p.run
      refl)

  pub late_initial_range : RangeTo S stop (late_initial S lag)
  late_initial_range =
      record {
        since = λ i. stops i;
        left = λ i b. absurd (true≢false (sym b));
        idle = λ i b. record { left = refl; phase = refl; piece = refl };
        none = λ i l. refl;
        rest = λ e. refl;
      }

-- ---- so it is by document 01's rules
module _ (S : Tasks) (x : Choice) (ranged : (i : ℕ) → i < S.n → Ranged S x i) where
  stops : (i : ℕ) → S.T i + 0 ≤ S.T i
  stops i = omega arith

  pub admit_range : (s : State) → Range S s → (mask : ℕ → Bool) → Range S (admit S mask s)
  admit_range s ok mask = subst (Range S) (today_admit S x s mask) (late_admit_range S x 0 S.T stops s ok mask (λ i. 0))

  pub pick_range : (s : State) → Range S s → (r : ℕ) → Range S (pick_at S x s r)
  pick_range s ok zero = late_pick_range S x 0 S.T stops (best_of S) s ok zero
  pick_range s ok (suc j) = ok

  pub work_range : (flag : Bool) (s : State) → Proper S x s → Range S s → (r : ℕ) → s.run ≡ r → Range S (work_at S x flag s r)
  work_range = late_work_range S x 0 S.T stops

  pub tick_range : (q : Request) (s : State) → Proper S x s → Range S s → Range S (tick S x q s)
  tick_range q s v ok =
      subst
      (Range S)
      (today_tick S x q s)
      (late_tick_range S x 0 S.T stops ranged (best_of S) (best_chooses S) (fresh q) s v ok)

  pub initial_range : Range S (initial S)
  initial_range = subst (Range S) (today_initial S x) (late_initial_range S x 0 S.T stops)
