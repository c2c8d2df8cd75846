-- What each move of the walk says, and the search for the first blocked phase.
-- Assumes nothing.
use Rattle.std.specs.Prelude.{◌≡◌, Bool, true, false, ◌&&◌, ltb}
use Prim.Native.Nat.{ℕ, ◌<◌}
use Rattle.finite.specs.Finite.{Below, Some, any_to, find_to}
use Rattle.finite.proofs.laws.Searches.{IsFirst, any_decides, find_first, first_none, first_some}
use Rattle.finite.proofs.laws.Tests.{not_decides}
use Rattle.std.proofs.lemmas.Bool.{true_from_ne_false}
use Rattle.std.proofs.lemmas.Bool.Decides.{Decides-and, Decides-ltb, not_from_Decides}
use Rattle.std.specs.Bool.{Decides}
use Rattle.model.specs.Phase.{Choice, Phases}
use Rattle.model.specs.Tasks.{Each, Tasks}
use Rattle.model.specs.TestPoints.{TestPoint}
use Rattle.model.specs.Verdict.{Blocked, FirstBlocked}
use Rattle.model.specs.Walk.{Move, blocked_phase, blocked_task, go_on, lacks, pass, stop}
use Rattle.model.specs.Works.{Least, WorksUpTo, demand_of}

abbrev pub MoveOk : Tasks → Phases → Choice → ℕ → Move → Type 0
MoveOk S P x t pass = ¬ TestPoint S t
MoveOk S P x t (stop d i j) = (TestPoint S t) × (d ≡ demand_of S P x t) × (Blocked S P x t i j)
MoveOk S P x t (go_on y) = (TestPoint S t) × (Least S P (λ z. WorksUpTo S P z t) y)

module _ (S : Tasks) (P : Phases) (t M : ℕ) where
  abbrev blocks : ℕ → Bool
  blocks i = ltb t (S.D i) && any_to (S.m i) (lacks P M i)

  lacks_decides : (i j : ℕ) → Decides (lacks P M i j) (P.room i j M ≡ false)
  unfolding lacks
  lacks_decides i j = not_decides (P.room i j M)

  blocks_decides : (i : ℕ) → Decides (blocks i) ((t < S.D i) × Some (S.m i) (λ j. P.room i j M ≡ false))
  blocks_decides i =
      Decides-and (ltb t (S.D i)) (any_to (S.m i) (lacks P M i)) (Decides-ltb t (S.D i))
      (any_decides (S.m i) (lacks P M i) (λ j. P.room i j M ≡ false) (λ j k. lacks_decides i j))

  -- a task that does not block has room for all its phases
  roomy_task : (i : ℕ) → blocks i ≡ false → t < S.D i → Below (S.m i) (λ j. P.room i j M ≡ true)
  roomy_task i e d j k = true_from_ne_false (P.room i j M) (λ f. not_from_Decides _ (blocks_decides i) e (d, (j, k, f)))

  pub nothing_blocked : ¬ (blocked_task S P t M < S.n) → Each S (λ i j. t < S.D i → P.room i j M ≡ true)
  unfolding blocked_task
  nothing_blocked h i j l k d = roomy_task i (first_none (find_first S.n blocks) h i l) d j k

  pub first_blocked : blocked_task S P t M < S.n → FirstBlocked S P t M (blocked_task S P t M) (blocked_phase S P M (blocked_task S P t M))
  unfolding blocked_task blocked_phase
  first_blocked h = record {
    task = h;
    phase = first_some ph some_lack;
    above = here.0;
    no_room = (lacks_decides i (find_to (S.m i) (lacks P M i))).0 (ph.found (first_some ph some_lack));
    earlier_tasks = λ a l. roomy_task a (tk.earlier a l);
    earlier_phases = λ b l. true_from_ne_false (P.room i b M) (not_from_Decides _ (lacks_decides i b) (ph.earlier b l));
  }
    where
      i : ℕ
      i = find_to S.n blocks

      tk : IsFirst S.n blocks i
      tk = find_first S.n blocks

      ph : IsFirst (S.m i) (lacks P M i) (find_to (S.m i) (lacks P M i))
      ph = find_first (S.m i) (lacks P M i)

      here : (t < S.D i) × Some (S.m i) (λ j. P.room i j M ≡ false)
      here = (blocks_decides i).0 (tk.found h)

      some_lack : Some (S.m i) (λ j. lacks P M i j ≡ true)
      some_lack = let q = here.1 in (q.0, q.1, (lacks_decides i q.0).1 q.2)
