-- The first n answers depend on the first n requests alone: n ticks are the beginning of a history for ever.
-- Assumes nothing.
use Prim.Native.Nat.{ℕ, zero, suc}
use Rattle.std.specs.Prelude.{◌≡◌}
use Rattle.std.proofs.Math.Path.{refl, ap₂}
use Rattle.std.proofs.Common.{sym, ap, ◌∙◌, arith}
use Rattle.finite.specs.Finite.{Below}
use Rattle.model.specs.Phase.{Choice}
use Rattle.model.specs.Tasks.{Tasks}
use Rattle.promise.specs.History.{answer_at}
use Rattle.promise.specs.Rules.{Request, State}
use Rattle.promise.specs.laws.Late.{LateRequest, late_answer, late_answer_at, late_record_at, late_tick}
use Rattle.promise.proofs.laws.Today.{fresh, today}
use Rattle.promise.proofs.laws.Urgent.{best_of}

module _ (S : Tasks) (x : Choice) (lag : ℕ) (choose : State → ℕ) (ask ask' : ℕ → LateRequest) where
  same_record : (n : ℕ) → Below n (λ t. ask t ≡ ask' t) → late_record_at S x lag choose ask n ≡ late_record_at S x lag choose ask' n
  unfolding late_record_at
  same_record zero e = refl
  same_record (suc n) e = ap₂ (late_tick S x lag choose) (e n (omega arith)) (same_record n (λ t l. e t (omega arith)))

  pub late_same_answers : (n : ℕ) → Below n (λ t. ask t ≡ ask' t) → Below n (λ t. late_answer_at S x lag choose ask t ≡ late_answer_at S x lag choose ask' t)
  unfolding late_answer_at
  late_same_answers n e t l = ap₂ (late_answer S x lag choose) (e t l) (same_record t (λ k h. e k (omega arith)))

-- so it is by document 01's rules
pub same_answers : (S : Tasks) (x : Choice) (ask ask' : ℕ → Request) (n : ℕ) → Below n (λ t. ask t ≡ ask' t)
    → Below n (λ t. answer_at S x ask t ≡ answer_at S x ask' t)
same_answers S x ask ask' n e t l =
    sym (today S x ask t) ∙
    late_same_answers S x 0 (best_of S) (λ t. fresh (ask t)) (λ t. fresh (ask' t)) n (λ t h. ap fresh (e t h)) t l ∙
    today S x ask' t
