-- DEMAND 3 over the bytes: every run from the record that `start` gave keeps the promise.
-- Assumes nothing.
use Rattle.std.specs.Prelude.{◌≡◌, refl, Bool, true, false, cond, ◌&&◌, List, ℕ, ◌≤◌, ◌<◌, ltb}
use Rattle.std.proofs.Common.{sym, ◌∙◌, arith, le-ltb, lt-ltb}
use Rattle.records.specs.Held.{CountsInRange}
use Rattle.records.specs.Start.{Startable}
use Rattle.records.proofs.laws.Held.{held_for_lem}
use Rattle.dispatch.specs.declared.Answer.{Answer}
use Rattle.dispatch.specs.laws.RecordKept.{record_kept}
use Rattle.model.specs.Phase.{Choice, phases_of}
use Rattle.model.specs.Tasks.{Sane, Tasks}
use Rattle.model.specs.TestPoints.{horizon_of}
use Rattle.model.specs.Verdict.{Accepted, Judged, Verdict, accepted, refused}
use Rattle.model.specs.Works.{Least, Works}
use Rattle.model.proofs.laws.Choices.{by_works, least_same, least_within}
use Rattle.model.proofs.laws.Plain.{laws_of}
use Rattle.start.specs.Run.{Promised, Run}
use Rattle.start.specs.Start.{StartedOn, used}
use Rattle.table.proofs.Valid.{read_valid}
use Rattle.table.specs.Parse.{Result, away, got, table}
use Rattle.table.specs.TaskModel.{tasks_of}
use Rattle.table.specs.Valid.{Valid}
use Rattle.table.specs.declared.Table.{Table}
use Rattle.walk.proofs.Limits.{table_sane}

-- a choice at the phases that there are, and elsewhere
used_there : (S : Tasks) (x : Choice) (i j : ℕ) → i < S.n → j < S.m i → used S x i j ≡ x i j
used_there S x i j l k = rw (lt-ltb i S.n l, lt-ltb j (S.m i) k)

used_none : (S : Tasks) (x : Choice) (i j : ℕ) → S.m i ≤ j → used S x i j ≡ 0
used_none S x i j h = go (ltb i S.n) (ltb j (S.m i)) (le-ltb j (S.m i) h)
  where
    go : (a b : Bool) → b ≡ false → cond (a && b) (x i j) 0 ≡ 0
    go true b e = rw e
    go false b e = refl

module _ (t : Table) (valid : Valid t) (x : Choice) (p : ℕ) (a : Accepted (tasks_of t) (phases_of (tasks_of t)) (horizon_of (tasks_of t)) x p) where
  abbrev S : Tasks
  S = tasks_of t

  sane : Sane S
  sane = table_sane valid

  -- the counts of the record are least too
  pub least_used : Least S (phases_of S) (Works S (phases_of S)) (used S x)
  least_used =
      least_same S (phases_of S) (laws_of S sane) (Works S (phases_of S)) (by_works S (phases_of S) (laws_of S sane)) x (used S x)
      (λ i j l k. sym (used_there S x i j l k)) a.least

  most_used : (i j : ℕ) → i < S.n → j < S.m i → used S x i j ≤ (phases_of S).most i j
  most_used = least_within S (phases_of S) (laws_of S sane) (Works S (phases_of S)) (by_works S (phases_of S) (laws_of S sane)) (used S x) least_used

  counts_in_range : CountsInRange S (used S x)
  counts_in_range = record { count_least = least_used.valid; count_most = most_used; no_count = used_none S x }

  pub may_start : Startable S (used S x)
  may_start = record { some_task = valid.in_range.some_task; held = held_for_lem S (used S x) valid.in_range.items counts_in_range; works = least_used.good }

module _ {bytes : List ℕ} {mask : ℕ → ℕ} {flag : ℕ → Bool} {answer : ℕ → Answer} (run : Run bytes mask flag answer) where
  of_verdict : (t : Table) (next : ℕ) → table bytes 0 ≡ got t next → (v : Verdict) → Judged (tasks_of t) (phases_of (tasks_of t)) (horizon_of (tasks_of t)) v
      → StartedOn (tasks_of t) v run.begun → Promised bytes mask flag answer
  of_verdict t next e (accepted x p) a s =
      let valid = read_valid bytes 0 t next e in
      record {
        read = t;
        next = next;
        holds = e;
        counts = used (tasks_of t) x;
        least = least_used t valid x p a;
        kept =
            record_kept (tasks_of t) (used (tasks_of t) x) (may_start t valid x p a) run.before mask flag answer (run.first ∙ s.1) run.ticks;
      }
  of_verdict t next e (refused w d p i j) a s =
      let how = s.0 in
      let ready = run.ready in
      let z : ◌≡◌ {A = ℕ} 0 1 = cc in absurd (omega arith)

  pub demand_3 : Promised bytes mask flag answer
  demand_3 = go (table bytes 0) refl
    where
      go : (y : Result Table) → table bytes 0 ≡ y → Promised bytes mask flag answer
      go (got t next) e = let b = run.starts.read t next e in of_verdict t next e b.verdict b.judged b.started
      go (away reason place) e =
          let how = (run.starts.turned_away reason place e).0 in
          let ready = run.ready in
          let z : ◌≡◌ {A = ℕ} 0 1 = cc in absurd (omega arith)
