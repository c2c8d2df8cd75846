-- A piece uses no more than its stated length: the ticks left of it in the record and the ticks used of it in the history make up that length.
-- Assumes nothing.
use Rattle.std.specs.Prelude.{ℕ, zero, suc, ◌+◌, ◌-◌, ◌<◌, ◌≡◌, Bool, cond, ◌||◌, eqb, ltb}
use Rattle.std.proofs.Math.Path.{refl}
use Rattle.std.proofs.Common.{sym, ap, ap₂, ◌∙◌, true≢false, arith, leb-true, leb-false, eq-eqb, ne_eqb}
use Rattle.std.proofs.Math.Bool.{true, false}
use Rattle.std.proofs.Math.Dec.{leb, eqb-suc-zero}
use Rattle.finite.proofs.laws.Tests.{by_cases}
use Rattle.std.proofs.lemmas.Bool.{cond-false}
use Rattle.model.specs.Phase.{Choice}
use Rattle.model.specs.Tasks.{Tasks}
use Rattle.promise.specs.Rules.{PieceOutcome, State, after, done, ends_of, next_phase, next_piece, on, outcome, start, stated, work_at}
use Rattle.promise.proofs.laws.Entering.{not_in}
use Rattle.promise.specs.laws.Late.{admit_at, elapse_at, lets_in_at, pick_by, pick_by_at}
use Rattle.promise.proofs.laws.Remaining.{Proper}
use Rattle.promise.proofs.laws.Working.{OutcomeOf, outcome_is, pass_of}

pub record InUse (S : Tasks) (x : Choice) (s : State) (used : ℕ) : Type 0 where
  pub running : (j : ℕ) → s.run ≡ suc j → s.ticks + used ≡ stated S x j (s.phase j) (s.piece j)
  pub resting : s.run ≡ 0 → used ≡ 0

-- the ticks used after a tick in which task r ran (from 1; 0: none) and its piece ended or not
abbrev pub used_after : ℕ → Bool → ℕ → ℕ
used_after r ended used = cond (eqb r 0 || ended) 0 (suc used)

module _ (S : Tasks) (x : Choice) (lag : ℕ) where
  module _ (choose : State → ℕ) (s : State) (ok : Proper S x s) (mask : ℕ → Bool) (age : ℕ → ℕ) (used : ℕ) (iu : InUse S x s used) where
    admit_use : InUse S x (admit_at S lag mask age s) used
    admit_use = record { running = running; resting = iu.resting }
      where
        running : (j : ℕ) → s.run ≡ suc j
            → s.ticks + used ≡ stated S x j (cond (lets_in_at S lag s mask age j) 1 (s.phase j)) (cond (lets_in_at S lag s mask age j) 1 (s.piece j))
        running j r =
            let out : lets_in_at S lag s mask age j ≡ false = not_in S lag s mask age j (ok.runs j r).unfinished in
            iu.running j r ∙
            sym (ap₂ (stated S x j) (cond-false (lets_in_at S lag s mask age j) 1 (s.phase j) out) (cond-false (lets_in_at S lag s mask age j) 1 (s.piece j) out))

    start_use : (s : State) → InUse S x s used → s.run ≡ 0 → (b : ℕ) → InUse S x (start S x s b) used
    start_use s iu e zero = iu
    start_use s iu e (suc h) = record { running = λ j r. started j (omega arith); resting = λ r. absurd (omega arith) }
      where
        started : (j : ℕ) → h ≡ j → stated S x h (s.phase h) (s.piece h) + used ≡ stated S x j (s.phase j) (s.piece j)
        started j q = omega (arith, iu.resting e, ap (λ i. stated S x i (s.phase i) (s.piece i)) q)

    pick_use : (r : ℕ) → s.run ≡ r → InUse S x (pick_by_at S x choose (admit_at S lag mask age s) r) used
    pick_use zero e = start_use (admit_at S lag mask age s) admit_use e (choose (admit_at S lag mask age s))
    pick_use (suc j) e = admit_use

    pub picked_use : InUse S x (pick_by S x choose (admit_at S lag mask age s)) used
    picked_use = pick_use s.run refl

  module _ (s : State) (ok : Proper S x s) (used : ℕ) (iu : InUse S x s used) (flag : Bool) where
    module _ (j : ℕ) (r : s.run ≡ suc j) where
      pub use_less : used < stated S x j (s.phase j) (s.piece j)
      use_less = omega (arith, iu.running j r, ok.runs j r)

      -- the record's test for the last tick of a piece is the history's
      last_test : leb s.ticks 1 ≡ eqb (suc used) (stated S x j (s.phase j) (s.piece j))
      last_test =
          by_cases
          (leb s.ticks 1)
          (λ e. e ∙ sym (eq-eqb (suc used) (stated S x j (s.phase j) (s.piece j)) (omega (arith, iu.running j r, ok.runs j r, leb-true s.ticks 1 e))))
          (λ e. e ∙ sym (ne_eqb (suc used) (stated S x j (s.phase j) (s.piece j)) (λ q. omega (arith, iu.running j r, leb-false s.ticks 1 e))))

      ends_test : ends_of (outcome S x flag s j) ≡ (flag || leb s.ticks 1)
      unfolding outcome
      ends_test = go (flag || leb s.ticks 1) (ltb (s.piece j) (x j (s.phase j - 1))) (ltb (s.phase j) (S.m j))
        where
          go : (u v w : Bool) → ends_of (cond u (cond v next_piece (cond w next_phase done)) on) ≡ u
          go true true w = refl
          go true false true = refl
          go true false false = refl
          go false v w = refl

      pub use_ends : ends_of (outcome S x flag s j) ≡ (flag || eqb (suc used) (stated S x j (s.phase j) (s.piece j)))
      use_ends = ends_test ∙ ap (λ v. flag || v) last_test

      -- a piece that does not end goes on
      pub goes_on_running : ends_of (outcome S x flag s j) ≡ false → (after s j (outcome S x flag s j)).run ≡ suc j
      goes_on_running = go (outcome S x flag s j)
        where
          go : (o : PieceOutcome) → ends_of o ≡ false → (after s j o).run ≡ suc j
          go on e = r
          go next_piece e = absurd (true≢false e)
          go next_phase e = absurd (true≢false e)
          go done e = absurd (true≢false e)

      after_use : (o : PieceOutcome) → OutcomeOf S x flag s j o → InUse S x (after s j o) (cond (ends_of o) 0 (suc used))
      after_use on h = record { running = λ i q. going i (omega arith); resting = λ q. absurd (omega arith) }
        where
          going : (i : ℕ) → j ≡ i → s.ticks - 1 + suc used ≡ stated S x i (s.phase i) (s.piece i)
          going i q = omega (arith, h, iu.running j r, ap (λ i. stated S x i (s.phase i) (s.piece i)) q)
      after_use next_piece h = record { running = λ i q. absurd (omega arith); resting = λ q. refl }
      after_use next_phase h = record { running = λ i q. absurd (omega arith); resting = λ q. refl }
      after_use done h = record { running = λ i q. absurd (omega arith); resting = λ q. refl }

    -- the ticks used after a tick
    pub worked_use : (r : ℕ) → s.run ≡ r → InUse S x (elapse_at S lag (work_at S x flag s r)) (used_after r (pass_of S x flag s r).ended used)
    worked_use zero e = record { running = λ j q. absurd (omega arith); resting = λ q. refl }
    worked_use (suc j) e =
        let o : PieceOutcome = outcome S x flag s j in
        let a : InUse S x (after s j o) (cond (ends_of o) 0 (suc used)) = after_use j e o (outcome_is S x flag s j) in
        let same : used_after (suc j) (ends_of o) used ≡ cond (ends_of o) 0 (suc used) = ap (λ v. cond (v || ends_of o) 0 (suc used)) (eqb-suc-zero j) in
        record { running = λ i q. ap (λ u. (after s j o).ticks + u) same ∙ a.running i q; resting = λ q. same ∙ a.resting q }
