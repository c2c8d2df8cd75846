-- DOCUMENT 01'S RULES ARE AN INSTANCE of the general ones: no lag, ages 0, and the choice `best` give every record and every answer.
-- Assumes nothing.
use Prim.Native.Nat.{ℕ, zero, suc, ◌+◌, ◌-◌, min}
use Rattle.std.specs.Prelude.{◌≡◌, refl, Bool, cond, ◌||◌}
use Rattle.std.proofs.Math.Path.{ap, fun_ext}
use Rattle.std.proofs.Math.Bool.{and-true}
use Rattle.std.proofs.Common.{ap₂, ◌∙◌}
use native.Mathlib.Omega.{arith}
use borrow.Author.Tests.{le-leb}
use Rattle.model.specs.Phase.{Choice}
use Rattle.model.specs.Tasks.{Tasks}
use Rattle.promise.specs.History.{answer_at, record_at}
use Rattle.promise.specs.Rules.{Request, State, admit, answer_by, answer_of, elapse, initial, lets_in, pick, pick_at, tick, work_at}
use Rattle.promise.specs.laws.Late.{LateRequest, admit_at, elapse_at, late_answer, late_answer_at, late_initial, late_record_at, late_tick, lets_in_at, pick_by, pick_by_at, with_since}
use Rattle.promise.proofs.laws.Urgent.{best_of}

-- document 01's request: every release is seen in its own tick
abbrev pub fresh : Request → LateRequest
fresh r = record { mask = r.mask; age = λ i. 0; flag = r.flag }

module _ (S : Tasks) (x : Choice) where
  pub today_lets : (s : State) (mask : ℕ → Bool) → lets_in_at S 0 s mask (λ i. 0) ≡ lets_in S s mask
  unfolding lets_in_at lets_in
  today_lets s mask = fun_ext (λ i.
      let t : S.T i + 0 ≡ S.T i = omega arith in
      rw (t, le-leb 0 0 (omega arith)) (and-true (lets_in S s mask i)))

  pub today_admit : (s : State) (mask : ℕ → Bool) → admit_at S 0 mask (λ i. 0) s ≡ admit S mask s
  today_admit s mask =
      let d : ◌≡◌ {A = ℕ → ℕ} (λ i. S.D i - 0) S.D = fun_ext (λ i. omega arith) in
      let l : lets_in_at S 0 s mask (λ i. 0) ≡ lets_in S s mask = today_lets s mask in
      λ k.
      record {
        busy = λ i. l k i || s.busy i;
        since = λ i. cond (l k i) 0 (s.since i);
        left = λ i. cond (l k i) (d k i) (s.left i);
        phase = λ i. cond (l k i) 1 (s.phase i);
        piece = λ i. cond (l k i) 1 (s.piece i);
        run = s.run;
        ticks = s.ticks;
      }

  pub today_elapse : (s : State) → elapse_at S 0 s ≡ elapse S s
  today_elapse s =
      let e : ◌≡◌ {A = ℕ → ℕ} (λ i. min (S.T i + 0) (s.since i + 1)) (λ i. min (S.T i) (s.since i + 1)) = fun_ext (λ i. omega arith) in
      ap (λ since. with_since since (elapse S s)) e

  today_pick_at : (s : State) (r : ℕ) → pick_by_at S x (best_of S) s r ≡ pick_at S x s r
  today_pick_at s zero = refl
  today_pick_at s (suc j) = refl

  pub today_pick : (s : State) → pick_by S x (best_of S) s ≡ pick S x s
  today_pick s = today_pick_at s s.run

  today_picked : (s : State) (mask : ℕ → Bool) → pick_by S x (best_of S) (admit_at S 0 mask (λ i. 0) s) ≡ pick S x (admit S mask s)
  today_picked s mask = ap (pick_by S x (best_of S)) (today_admit s mask) ∙ today_pick (admit S mask s)

  pub today_tick : (r : Request) (s : State) → late_tick S x 0 (best_of S) (fresh r) s ≡ tick S x r s
  today_tick r s =
      ap (λ p. elapse_at S 0 (work_at S x r.flag p p.run)) (today_picked s r.mask) ∙
      today_elapse (work_at S x r.flag (pick S x (admit S r.mask s)) (pick S x (admit S r.mask s)).run)

  pub today_answer : (r : Request) (s : State) → late_answer S x 0 (best_of S) (fresh r) s ≡ answer_of S x r s
  today_answer r s = ap₂ (λ l p. answer_by S x l r.flag p p.run) (today_lets s r.mask) (today_picked s r.mask)

  pub today_initial : late_initial S 0 ≡ initial S
  today_initial =
      let e : ◌≡◌ {A = ℕ → ℕ} (λ i. S.T i + 0) S.T = fun_ext (λ i. omega arith) in
      ap (λ since. with_since since (initial S)) e

  module _ (ask : ℕ → Request) where
    pub today_record : (t : ℕ) → late_record_at S x 0 (best_of S) (λ t. fresh (ask t)) t ≡ record_at S x ask t
    unfolding late_record_at record_at
    today_record zero = today_initial
    today_record (suc t) = ap (late_tick S x 0 (best_of S) (fresh (ask t))) (today_record t) ∙ today_tick (ask t) (record_at S x ask t)

    -- TODAY: every answer of today
    pub today : (t : ℕ) → late_answer_at S x 0 (best_of S) (λ t. fresh (ask t)) t ≡ answer_at S x ask t
    unfolding late_answer_at answer_at
    today t = ap (late_answer S x 0 (best_of S) (fresh (ask t))) (today_record t) ∙ today_answer (ask t) (record_at S x ask t)
