-- A whole tick by the rules, whatever the choice, as the argument sees it.
-- Assumes nothing.
use Prim.Native.Nat.{ℕ, zero, suc, ◌<◌}
use Rattle.std.proofs.Math.Path.{refl}
use Rattle.std.proofs.Common.{sym, subst, true≢false, arith}
use Rattle.std.specs.Prelude.{Bool}
use Rattle.model.specs.Phase.{Choice}
use Rattle.model.specs.Tasks.{Tasks}
use Rattle.promise.specs.History.{record_at}
use Rattle.promise.specs.Rules.{Request, State, work_at}
use Rattle.promise.proofs.laws.Entering.{admits, ask_of, late_admit_proper}
use Rattle.promise.specs.laws.Late.{Chooses, LateRequest, admit_at, elapse_at, late_advance, late_initial, late_record_at, pick_by}
use Rattle.promise.proofs.laws.Remaining.{Proper, Ranged, terms, view}
use Rattle.promise.proofs.laws.Starting.{late_picks}
use Rattle.promise.proofs.laws.Today.{fresh, today_record}
use Rattle.promise.proofs.laws.Urgent.{best_chooses, best_of}
use Rattle.promise.proofs.laws.View.{Advanced, Ask, Elapsed, Pass, ViewedRun, Views}
use Rattle.promise.proofs.laws.Working.{pass_of, works_at}

-- ---- the records of a series of requests, in each tick after admission and after the start; and what the argument sees of them
module _ (S : Tasks) (x : Choice) (lag : ℕ) (choose : State → ℕ) (ask : ℕ → LateRequest) where
  abbrev pub entered_at : ℕ → State
  entered_at t = admit_at S lag (ask t).mask (ask t).age (late_record_at S x lag choose ask t)

  abbrev pub picked_at : ℕ → State
  picked_at t = pick_by S x choose (admit_at S lag (ask t).mask (ask t).age (late_record_at S x lag choose ask t))

  abbrev pub ask_at : ℕ → Ask
  ask_at t = ask_of S lag (ask t).mask (ask t).age (late_record_at S x lag choose ask t)

  abbrev pub pass_at : ℕ → Pass
  pass_at t = pass_of S x (ask t).flag (picked_at t) (picked_at t).run

  abbrev pub views_at : Views
  views_at =
      record {
        before = λ t. view S x (late_record_at S x lag choose ask t);
        entered = λ t. view S x (entered_at t);
        picked = λ t. view S x (picked_at t);
        worked = λ t. view S x (work_at S x (ask t).flag (picked_at t) (picked_at t).run);
      }

-- step 4 of a tick keeps a record proper
pub elapse_proper : (S : Tasks) (x : Choice) (lag : ℕ) (s : State) → Proper S x s → Proper S x (elapse_at S lag s)
elapse_proper S x lag s ok =
    record {
      job = ok.job;
      runs = λ j e. record { task = (ok.runs j e).task; unfinished = (ok.runs j e).unfinished; some = (ok.runs j e).some; most = (ok.runs j e).most };
    }

module _ (S : Tasks) (x : Choice) (ranged : (i : ℕ) → i < S.n → Ranged S x i) (lag : ℕ) (choose : State → ℕ) (chosen : Chooses S choose) where
  elapses : (s : State) → Elapsed (terms S x lag) (view S x s) (view S x (elapse_at S lag s))
  elapses s =
      record {
        ages = λ i l. record { busy = refl; since = omega arith; left = refl; rem = refl };
        run = refl;
        ticks = refl;
      }

  -- steps 2 to 4 of a tick
  pub advances : (flag : Bool) (s : State) → Proper S x s →
      Advanced (terms S x lag) (pass_of S x flag (pick_by S x choose s) (pick_by S x choose s).run) (view S x s) (view S x (pick_by S x choose s))
      (view S x (work_at S x flag (pick_by S x choose s) (pick_by S x choose s).run)) (view S x (late_advance S x lag choose flag s)) ×
      Proper S x (late_advance S x lag choose flag s)
  advances flag s ok =
      let v : State = pick_by S x choose s in
      let p = late_picks S x ranged lag s ok choose (chosen s) in
      let w = works_at S x ranged lag flag v p.1 v.run refl in (
        record { picks = p.0; works = w.0; elapses = elapses (work_at S x flag v v.run) },
        elapse_proper S x lag (work_at S x flag v v.run) w.1,
      )

  initial_proper : Proper S x (late_initial S lag)
  initial_proper = record { job = λ i l b. absurd (true≢false (sym b)); runs = λ j e. absurd (omega arith) }

  -- the run of a series of requests
  module _ (ask : ℕ → LateRequest) where
    abbrev state : ℕ → State
    state t = late_record_at S x lag choose ask t

    pub late_proper : (t : ℕ) → Proper S x (state t)
    unfolding late_record_at
    late_proper zero = initial_proper
    late_proper (suc t) =
        (advances (ask t).flag (entered_at S x lag choose ask t) (late_admit_proper S x ranged lag (state t) (late_proper t) (ask t).mask (ask t).age)).1

    pub entered_proper : (t : ℕ) → Proper S x (entered_at S x lag choose ask t)
    entered_proper t = late_admit_proper S x ranged lag (state t) (late_proper t) (ask t).mask (ask t).age

    pub picked_proper : (t : ℕ) → Proper S x (picked_at S x lag choose ask t)
    picked_proper t = (late_picks S x ranged lag (entered_at S x lag choose ask t) (entered_proper t) choose (chosen (entered_at S x lag choose ask t))).1

    pub runs : ViewedRun (terms S x lag) (ask_at S x lag choose ask) (pass_at S x lag choose ask) (views_at S x lag choose ask)
    unfolding late_record_at
    runs =
        record {
          start = record { idle = λ i l. refl; rested = λ i l. refl; run = refl };
          admits = λ t. admits S x ranged lag (state t) (late_proper t) (ask t).mask (ask t).age;
          advances = λ t. (advances (ask t).flag (entered_at S x lag choose ask t) (entered_proper t)).0;
        }

-- so the records of document 01's history are proper
pub proper : (S : Tasks) (x : Choice) → ((i : ℕ) → i < S.n → Ranged S x i) → (ask : ℕ → Request) (t : ℕ) → Proper S x (record_at S x ask t)
proper S x ranged ask t =
    subst
    (Proper S x)
    (today_record S x ask t)
    (late_proper S x ranged 0 (best_of S) (best_chooses S) (λ t. fresh (ask t)) t)
