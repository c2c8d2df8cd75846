-- The places of the counts and of the longest pieces.
-- Assumes nothing.
use Rattle.std.specs.Prelude.{true, ◌≡◌, refl, List, ℕ, ◌+◌, ◌*◌, ◌/◌, ◌%◌, ◌≤◌, ◌<◌, get_or, length}
use Rattle.std.proofs.Common.{◌∙◌, sym, arith}
use Rattle.std.proofs.Math.Logic.{⊎_elim}
use Rattle.std.proofs.Math.ListN.{get_or-eq_default}
use borrow.Author.Tests.{lt-ltb, le-ltb}
use Rattle.finite.specs.Finite.{Below, list_to}
use Rattle.finite.proofs.laws.Lists.{get_or_list, length_list}
use Rattle.finite.proofs.laws.Tests.{le_or_lt}
use Rattle.model.specs.Arrays.{phase_at}
use Rattle.model.specs.Ranges.{horizon_most, work_most}
use Rattle.model.specs.Phase.{Choice, phases_of}
use Rattle.model.specs.Tasks.{Tasks}
use Rattle.model.specs.Works.{longest}
use Rattle.model.proofs.laws.Arrays.{phase_at_lem}
use Rattle.pieces.specs.Bounds.{piece_most}
use Rattle.pieces.specs.Counts.{count_at, longest_at}
use Rattle.pieces.specs.Task.{InPieces, Roomy}
use Rattle.pieces.specs.laws.Task.{longest_most, need_most}

module _ (n : ℕ) (S : Tasks) (cut : ℕ → ℕ) where
  pub count_used : (p : ℕ) → p / 8 < n → p % 8 < S.m (p / 8) → count_at n S cut p ≡ (phases_of S).need (p / 8) (p % 8) (cut (p / 8))
  unfolding count_at
  count_used p l k = rw (lt-ltb (p / 8) n l, lt-ltb (p % 8) (S.m (p / 8)) k)

  pub count_no_task : (p : ℕ) → n ≤ p / 8 → count_at n S cut p ≡ 0
  unfolding count_at
  count_no_task p le = rw (le-ltb (p / 8) n le)

  pub count_no_phase : (p : ℕ) → S.m (p / 8) ≤ p % 8 → count_at n S cut p ≡ 0
  unfolding count_at
  count_no_phase p le =
      ⊎_elim
      (λ (none : n ≤ p / 8). count_no_task p none)
      (λ (some : p / 8 < n). rw (lt-ltb (p / 8) n some, le-ltb (p % 8) (S.m (p / 8)) le))
      (le_or_lt n (p / 8))

  pub count_most : Below n (λ i. Roomy S (cut i) i) → (p : ℕ) → count_at n S cut p ≤ work_most
  count_most h p =
      ⊎_elim
      (λ (le : n ≤ p / 8). omega (arith, count_no_task p le))
      (λ (l : p / 8 < n).
      ⊎_elim
      (λ (le : S.m (p / 8) ≤ p % 8). omega (arith, count_no_phase p le))
      (λ (k : p % 8 < S.m (p / 8)).
      let r = h (p / 8) l in
      omega (arith, count_used p l k, need_most (S.c (p / 8) (p % 8)) (S.q (p / 8) (p % 8)) (cut (p / 8)) (r.room (p % 8) k), (r.phase (p % 8) k).work_at_most))
      (le_or_lt (S.m (p / 8)) (p % 8)))
      (le_or_lt n (p / 8))

  -- ---- the array

  module _ (xs : List ℕ) (is : xs ≡ list_to 256 (count_at n S cut)) where
    pub counts_wide : length xs ≡ 256
    counts_wide = rw is (length_list 256 (count_at n S cut))

    -- what holds of every place's count and of 0 holds of what any index gives
    at_place : (Q : ℕ → Type 0) (p : ℕ) → Q (count_at n S cut p) → Q 0 → Q (get_or xs p 0)
    at_place Q p q z =
        ⊎_elim
        (λ (le : 256 ≤ p). let out : length xs ≤ p = omega (arith, counts_wide) in rw (get_or-eq_default xs 0 out) z)
        (λ (l : p < 256). rw (is, get_or_list 256 (count_at n S cut) p 0 l) q)
        (le_or_lt 256 p)

    pub counts_used : (i j : ℕ) → i < n → i < 32 → j < S.m i → j < 8 → phase_at xs i j ≡ (phases_of S).need i j (cut i)
    counts_used i j l small k few =
        let task : (8 * i + j) / 8 ≡ i = omega arith in
        let phase : (8 * i + j) % 8 ≡ j = omega arith in
        let used = count_used (8 * i + j) (omega arith) (rw (task, phase) k) in
        rw (phase_at_lem xs i j few, is, get_or_list 256 (count_at n S cut) (8 * i + j) 0 (omega arith))
        (rw (task, phase) at used)

    pub counts_no_task : (p : ℕ) → n ≤ p / 8 → get_or xs p 0 ≡ 0
    counts_no_task p le = at_place (λ v. v ≡ 0) p (count_no_task p le) refl

    pub counts_no_phase : (p : ℕ) → S.m (p / 8) ≤ p % 8 → get_or xs p 0 ≡ 0
    counts_no_phase p le = at_place (λ v. v ≡ 0) p (count_no_phase p le) refl

    pub counts_most : Below n (λ i. Roomy S (cut i) i) → (p : ℕ) → get_or xs p 0 ≤ work_most
    counts_most h p = at_place (λ v. v ≤ work_most) p (count_most h p) (omega arith)

module _ (n : ℕ) (S : Tasks) (x : Choice) where
  pub longest_used : (i : ℕ) → i < n → longest_at n S x i ≡ longest S (phases_of S) x i
  unfolding longest_at
  longest_used i l = rw (lt-ltb i n l)

  pub longest_unused : (i : ℕ) → n ≤ i → longest_at n S x i ≡ 0
  unfolding longest_at
  longest_unused i le = rw (le-ltb i n le)

  module _ (ls : List ℕ) (is : ls ≡ list_to 32 (longest_at n S x)) where
    pub longests_wide : length ls ≡ 32
    longests_wide = rw is (length_list 32 (longest_at n S x))

    pub longests_used : (i : ℕ) → i < n → i < 32 → get_or ls i 0 ≡ longest S (phases_of S) x i
    longests_used i l small = rw (is, get_or_list 32 (longest_at n S x) i 0 small) (longest_used i l)

    pub longests_unused : (i : ℕ) → n ≤ i → get_or ls i 0 ≡ 0
    longests_unused i le =
        ⊎_elim
        (λ (out : 32 ≤ i). get_or-eq_default ls 0 (omega (arith, longests_wide)))
        (λ (l : i < 32). rw (is, get_or_list 32 (longest_at n S x) i 0 l) (longest_unused i le))
        (le_or_lt 32 i)

    pub longests_most : n ≤ 32 → Below n (InPieces S x) → (i : ℕ) → get_or ls i 0 ≤ piece_most
    longests_most few h i =
        ⊎_elim
        (λ (le : n ≤ i). omega (arith, longests_unused i le))
        (λ (l : i < n). rw (longests_used i l (omega arith)) (longest_most S i x (h i l)))
        (le_or_lt n i)

-- ---- the count that is formed at a place that a phase of a task has

module _ (n : ℕ) (S : Tasks) (cut : ℕ → ℕ) (h : Below n (λ i. Roomy S (cut i) i)) (p : ℕ) (l : p / 8 < n) (k : p % 8 < S.m (p / 8)) where
  pub count_fits : ((phases_of S).room (p / 8) (p % 8) (cut (p / 8)) ≡ true) × (cut (p / 8) ≤ horizon_most)
  count_fits =
      let r = h (p / 8) l in
      (r.room (p % 8) k, r.low)

  pub count_least : {r : ℕ} → r ≡ (phases_of S).need (p / 8) (p % 8) (cut (p / 8)) → (r ≡ count_at n S cut p) × (r ≤ work_most)
  count_least {r} e =
      let is : r ≡ count_at n S cut p = e ∙ sym (count_used n S cut p l k) in
      (is, omega (arith, is, count_most n S cut h p))
