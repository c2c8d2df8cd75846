-- The walk gives the verdict that document 01 asks for.
-- Assumes nothing.
use Rattle.std.specs.Prelude.{◌≡◌, ◌⊎◌, Bool, ltb}
use Rattle.std.proofs.Math.Path.{refl, sym}
use Rattle.std.proofs.Common.{◌∙◌, ap, inl, inr, le_trans, lt-suc_self, eq-or-lt_of_le, le_of_suc-le-suc, not-suc-le-zero}
use Rattle.std.proofs.Math.Bool.{true, false}
use Prim.Native.Nat.{ℕ, zero, suc, ◌+◌, ◌-◌, ◌≤◌, ◌<◌, suc-le-suc}
use Rattle.std.proofs.Math.Nat.{le_step}
use native.Mathlib.Omega.{arith}
use Rattle.std.proofs.lemmas.Bool.Decides.{Decides-ltb, not_from_Decides}
use Rattle.std.specs.Bool.{Decides}
use Rattle.model.specs.Phase.{Choice, Phases}
use Rattle.model.specs.Tasks.{Sane, Tasks}
use Rattle.model.specs.TestPoints.{TestPoint, is_test, points}
use Rattle.model.specs.Verdict.{Blocked, Judged, LeastBelow, NoneUpTo, Refused, Verdict, accepted, by_demand, by_phase, margin, refused}
use Rattle.model.specs.Walk.{Move, blocked_task, go_on, move, move_at, move_in, ones, pass, stop, verdict, walk}
use Rattle.model.specs.Works.{Counted, Holds, Least, Works, WorksUpTo, demand_of, longest}
use Rattle.model.proofs.laws.Horizon.{Horizon, horizon, steady_works}
use Rattle.model.proofs.laws.Phases.{Laws}
use Rattle.model.proofs.laws.Step.{demand_refuses, phase_refuses, raise_least}
use Rattle.model.proofs.laws.TestPoints.{is_test_decides, points_skip, points_test, points_zero, test_counted}
use Rattle.model.proofs.laws.Walk.{MoveOk, first_blocked, nothing_blocked}

-- the counts are least among the choices that work up to a length, and the test points up to it were met
pub record AcceptedUpTo (S : Tasks) (P : Phases) (L : ℕ) (x : Choice) (p : ℕ) : Type 0 where
  pub least : Least S P (λ y. WorksUpTo S P y L) x
  pub examined : p ≡ points S L

-- what a walk up to any length L may end with: at the horizon this is what document 01 asks (`at_horizon`)
abbrev pub JudgedUpTo : Tasks → Phases → ℕ → Verdict → Type 0
JudgedUpTo S P L (accepted x p) = AcceptedUpTo S P L x p
JudgedUpTo S P L (refused w d p i j) = Refused S P L w d p i j

module _ (S : Tasks) (sane : Sane S) (P : Phases) (laws : Laws S P) where
  module _ (x : Choice) (t : ℕ) (lb : LeastBelow S P t x) where
    -- what blocks the least choice blocks every choice
    none_up_to : TestPoint S t → {i j : ℕ} → Blocked S P x t i j → NoneUpTo S P t
    none_up_to test (by_demand h) = demand_refuses S P laws x t (test_counted S t test) lb h
    none_up_to test (by_phase h f) = phase_refuses S P laws x t (test_counted S t test) lb _ _ f.task f.phase f.above f.no_room

    pub refuse : TestPoint S t → (H : ℕ) → t ≤ H → (p : ℕ) → p ≡ points S t → {i j : ℕ} → Blocked S P x t i j
        → Refused S P H t (demand_of S P x t) p i j
    refuse test H h p n b = record {
      test = test;
      within = h;
      none = none_up_to test b;
      earlier = x;
      earlier_least = lb;
      demanded = refl;
      examined = n;
      blocked = b;
    }

    move_in_ok : TestPoint S t → demand_of S P x t ≤ t → MoveOk S P x t (move_in S P x t (demand_of S P x t) (blocked_task S P t (t - demand_of S P x t)))
    unfolding move_in margin
    move_in_ok test fits = go (ltb (blocked_task S P t (t - demand_of S P x t)) S.n) refl
      where
        i : ℕ
        i = blocked_task S P t (t - demand_of S P x t)

        dec : Decides (ltb i S.n) (i < S.n)
        dec = Decides-ltb i S.n

        go : (b : Bool) → ltb i S.n ≡ b → MoveOk S P x t (move_in S P x t (demand_of S P x t) i)
        go true e = rw (e, move_in) (test, refl, by_phase fits (first_blocked S P t (margin S P x t) (dec.0 e)))
        go false e =
            rw (e, move_in) (test, raise_least S P laws x t (test_counted S t test) lb fits (nothing_blocked S P t (margin S P x t) (not_from_Decides _ dec e)))

    move_at_ok : TestPoint S t → MoveOk S P x t (move_at S P x t (demand_of S P x t))
    unfolding move_at
    move_at_ok test = go (ltb t (demand_of S P x t)) refl
      where
        dec : Decides (ltb t (demand_of S P x t)) (t < demand_of S P x t)
        dec = Decides-ltb t (demand_of S P x t)

        go : (b : Bool) → ltb t (demand_of S P x t) ≡ b → MoveOk S P x t (move_at S P x t (demand_of S P x t))
        go true e = rw (e, move_at) (test, refl, by_demand (dec.0 e))
        go false e = rw (e, move_at) (move_in_ok test (omega (arith, not_from_Decides _ dec e)))

    move_ok : MoveOk S P x t (move S P x t)
    unfolding move
    move_ok = go (is_test S t) refl
      where
        go : (b : Bool) → is_test S t ≡ b → MoveOk S P x t (move S P x t)
        go true e = rw (e, move) (move_at_ok ((is_test_decides S sane t).0 e))
        go false e = rw (e, move) (not_from_Decides _ (is_test_decides S sane t) e)

  -- one length further
  pub next_pass : (x : Choice) (s : ℕ) → ¬ TestPoint S (suc s) → LeastBelow S P (suc s) x → LeastBelow S P (suc (suc s)) x
  next_pass x s f lb = record {
    valid = lb.valid;
    good = λ t c l. here t c (eq-or-lt_of_le (le_of_suc-le-suc l));
    least = λ y vy wy. lb.least y vy (λ t c l. wy t c (le_step l));
  }
    where
      here : (t : ℕ) → Counted S t → (t ≡ suc s) ⊎ (t < suc s) → Holds S P x t
      here t c (inl e) = rw e (steady_works S sane s f (P.budget x) (longest S P x) (λ k. lb.good s k (lt-suc_self s)) (rw e at c))
      here t c (inr l) = lb.good t c l

  pub next_least : (y : Choice) (t : ℕ) → Least S P (λ z. WorksUpTo S P z t) y → LeastBelow S P (suc t) y
  next_least y t a = record {
    valid = a.valid;
    good = λ s c l. a.good s c (le_of_suc-le-suc l);
    least = λ z vz wz. a.least z vz (λ s c l. wz s c (suc-le-suc l));
  }

  pub up_to_least : (x : Choice) (L : ℕ) → LeastBelow S P (suc L) x → Least S P (λ z. WorksUpTo S P z L) x
  up_to_least x L a = record {
    valid = a.valid;
    good = λ s c l. a.good s c (suc-le-suc l);
    least = λ z vz wz. a.least z vz (λ s c l. wz s c (le_of_suc-le-suc l));
  }

  pub start_least : LeastBelow S P 1 ones
  start_least = record {
    valid = laws.one_allowed;
    good = λ t c l. absurd (not-suc-le-zero (le_trans (sane.D_least c.0 c.1) (le_trans c.2 (le_of_suc-le-suc l))));
    least = λ y vy wy i j l k. laws.one_least i j l k (y i j) (vy i j l k);
  }

  -- ---- up to any length

  module _ (L : ℕ) where
    walk_ok : (f s : ℕ) (x : Choice) (p : ℕ) → s + f ≡ L → LeastBelow S P (suc s) x → p ≡ points S s → JudgedUpTo S P L (walk S P f s x p)
    unfolding walk
    walk_ok zero s x p e lb n =
        let h : s ≡ L = omega arith in
        record { least = up_to_least x L (rw h at lb); examined = rw h at n }
    walk_ok (suc f) s x p e lb n = go (move S P x (suc s)) refl (move_ok x (suc s) lb)
        (walk_ok f (suc s) x p (omega arith)) (λ y. walk_ok f (suc s) y (suc p) (omega arith))
      where
        go : (v : Move) → move S P x (suc s) ≡ v → MoveOk S P x (suc s) v
            → (LeastBelow S P (suc (suc s)) x → p ≡ points S (suc s) → JudgedUpTo S P L (walk S P f (suc s) x p))
            → ((y : Choice) → LeastBelow S P (suc (suc s)) y → suc p ≡ points S (suc s) → JudgedUpTo S P L (walk S P f (suc s) y (suc p)))
            → JudgedUpTo S P L (walk S P (suc f) s x p)
        go pass q ok same more = rw (q, walk) (same (next_pass x s ok lb) (n ∙ sym (points_skip S sane s ok)))
        go (stop d i j) q ok same more =
            rw (q, walk, ok.1) (refuse x (suc s) lb ok.0 L (omega arith) (suc p) (ap suc n ∙ sym (points_test S sane s ok.0)) ok.2)
        go (go_on y) q ok same more = rw (q, walk) (more y (next_least y (suc s) ok.1) (ap suc n ∙ sym (points_test S sane s ok.0)))

    -- the verdict of the walk up to L is what is asked up to L
    pub verdict_up_to : JudgedUpTo S P L (verdict S P L)
    unfolding verdict
    verdict_up_to = walk_ok L 0 ones 0 (omega arith) start_least (sym (points_zero S sane))

  -- ---- up to the horizon

  module _ (H : ℕ) (hz : Horizon S H) where
    -- what works up to the horizon works
    pub end_least : (x : Choice) → Least S P (λ y. WorksUpTo S P y H) x → Least S P (Works S P) x
    end_least x a = record {
      valid = a.valid;
      good = λ L t c l. horizon S sane H hz (P.budget x) (longest S P x) (λ s h p. a.good s (test_counted S s p) h) t c;
      least = λ y vy wy. a.least y vy (wy H);
    }

    -- so what is asked up to the horizon is what document 01 asks
    pub at_horizon : (v : Verdict) → JudgedUpTo S P H v → Judged S P H v
    at_horizon (accepted x p) a = record { least = end_least x a.least; examined = a.examined }
    at_horizon (refused w d p i j) a = a

    -- the verdict is what document 01 asks for
    pub verdict_ok : Judged S P H (verdict S P H)
    verdict_ok = at_horizon (verdict S P H) (verdict_up_to H)
