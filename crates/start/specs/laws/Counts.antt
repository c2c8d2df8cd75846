-- The counts that the judge gives are those used: no count stands where there is no phase.
-- Assumes nothing.
use Rattle.std.specs.Prelude.{◌≡◌, refl, Bool, true, false, ◌&&◌, List, ◌⊎◌, ℕ, ◌+◌, ◌*◌, ◌/◌, ◌%◌, ◌≤◌, ◌<◌, ltb, get_or}
use Rattle.std.proofs.Common.{sym, ap, ap₂, ◌∙◌, true≢false, inl, inr, ⊎_elim, arith, lt-ltb}
use Rattle.finite.proofs.laws.Tests.{le_or_lt}
use Rattle.std.proofs.lemmas.Bool.{cond-false, cond-true}
use Rattle.model.specs.Arrays.{phase_at}
use Rattle.model.specs.Tasks.{Tasks}
use Rattle.model.proofs.laws.Arrays.{phase_at_lem, phase_none}
use Rattle.start.specs.Start.{used}

module _ (S : Tasks) (xs : List ℕ) (no_task : (p : ℕ) → S.n ≤ p / 8 → get_or xs p 0 ≡ 0) (no_phase : (p : ℕ) → S.m (p / 8) ≤ p % 8 → get_or xs p 0 ≡ 0) where
  -- no count stands where there is no task or no phase
  no_count : (i j : ℕ) → (ltb i S.n && ltb j (S.m i)) ≡ false → phase_at xs i j ≡ 0
  no_count i j e = go (le_or_lt 8 j)
    where
      at : (p : ℕ) → p / 8 ≡ i → p % 8 ≡ j → get_or xs p 0 ≡ 0
      at p q r =
          ⊎_elim
          (λ (none : S.n ≤ i). no_task p (omega arith))
          (λ (task : i < S.n).
          ⊎_elim
          (λ (none : S.m i ≤ j). no_phase p (omega (arith, ap S.m q)))
          (λ (phase : j < S.m i). absurd (true≢false (sym (ap₂ ◌&&◌ (lt-ltb i S.n task) (lt-ltb j (S.m i) phase)) ∙ e)))
          (le_or_lt (S.m i) j))
          (le_or_lt S.n i)

      go : (8 ≤ j) ⊎ (j < 8) → phase_at xs i j ≡ 0
      go (inl l) = phase_none xs i j l
      go (inr l) = phase_at_lem xs i j l ∙ at (8 * i + j) (omega arith) (omega arith)

  -- so the counts are those used
  pub all_used : used S (phase_at xs) ≡ phase_at xs
  all_used = λ k i j. same i j (ltb i S.n && ltb j (S.m i)) refl k
    where
      same : (i j : ℕ) (b : Bool) → (ltb i S.n && ltb j (S.m i)) ≡ b → used S (phase_at xs) i j ≡ phase_at xs i j
      same i j true e = cond-true _ (phase_at xs i j) 0 e
      same i j false e = cond-false _ (phase_at xs i j) 0 e ∙ sym (no_count i j e)
