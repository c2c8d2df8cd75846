-- The numbers of an answer are determined by what is asked of the verdict.
-- Assumes nothing.
use Rattle.std.specs.Prelude.{◌≡◌, ℕ}
use Rattle.std.proofs.Math.Path.{ap, ap₂}
use mathlib.Core.List.{List, ◌∷◌, ◌++◌, []}
use Rattle.finite.proofs.laws.Extremes.{max_cong}
use Rattle.finite.proofs.laws.Lists.{join_alike, list_alike}
use Rattle.model.specs.Phase.{Phases}
use Rattle.model.specs.Answer.{answer}
use Rattle.model.specs.Tasks.{Tasks}
use Rattle.model.specs.Verdict.{Judged, Same, Verdict, accepted, refused}
use Rattle.model.specs.Works.{longest}
use Rattle.model.proofs.laws.Phases.{Laws}
use Rattle.model.proofs.laws.Unique.{judged_unique}

module _ (S : Tasks) (P : Phases) (H : ℕ) where
  same_answer : (u v : Verdict) → Same S u v → answer S P H u ≡ answer S P H v
  unfolding answer longest
  same_answer (accepted x p) (accepted y q) (e, n) =
      ap₂ (λ (z : ℕ) (r : List ℕ). 0 ∷ H ∷ z ∷ r) n
      (join_alike S.n _ _ (λ i l. ap₂ (λ (r : List ℕ) (z : ℕ). r ++ (z ∷ [])) (list_alike (S.m i) (x i) (y i) (λ j k. e i j l k))
      (max_cong (S.m i) _ _ (λ j k. ap (P.longest_piece i j) (e i j l k)))))
  same_answer (accepted x p) (refused w d q i j) e = absurd e
  same_answer (refused w d p i j) (accepted y q) e = absurd e
  same_answer (refused w d p i j) (refused w' d' p' i' j') (ew, ed, ep, ei, ej) = cc

  -- whatever is as asked has the answer that the function has
  pub answer_unique : Laws S P → (u v : Verdict) → Judged S P H u → Judged S P H v → answer S P H u ≡ answer S P H v
  answer_unique laws u v a b = same_answer u v (judged_unique S P laws H u v a b)
