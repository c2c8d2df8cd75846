-- What the judge's verdict gives at the start, and that bytes allow one start only.
-- Assumes nothing.
use Rattle.std.specs.Prelude.{◌≡◌, refl, Bool, true, false, cond, ◌&&◌, List, ℕ, ltb}
use Rattle.std.proofs.Common.{sym, ap, ◌∙◌, arith, ltb-true}
use Rattle.records.specs.Record.{empty_record}
use Rattle.records.specs.Start.{ready_record}
use Rattle.model.specs.Arrays.{phase_at}
use Rattle.model.specs.Phase.{Choice, phases_of}
use Rattle.model.specs.Tasks.{Each, Sane, Tasks}
use Rattle.model.specs.TestPoints.{horizon_of}
use Rattle.model.specs.Verdict.{Same, Verdict, accepted, refused}
use Rattle.model.proofs.laws.Plain.{laws_of}
use Rattle.model.proofs.laws.Unique.{judged_unique}
use Rattle.start.specs.Start.{Begins, StartedOn, Starts, refusal, used}
use Rattle.start.specs.declared.How.{How}
use Rattle.start.specs.declared.How.TheVariants.{Ready, Refused, TurnedAway}
use Rattle.start.specs.declared.Started.{Started}
use Rattle.start.specs.laws.Counts.{all_used}
use Rattle.table.proofs.Valid.{read_valid}
use Rattle.table.specs.Parse.{Result, away, got, table}
use Rattle.table.specs.TaskModel.{tasks_of}
use Rattle.table.specs.declared.Reason.{Reason}
use Rattle.table.specs.declared.Table.{Table}
use Rattle.walk.proofs.Limits.{table_sane}
use Rattle.walk.specs.Judge.{Accepts, Refuses}
use Rattle.walk.specs.declared.judge.Least.{Least}
use Rattle.walk.specs.declared.judge.Refused.{Refused as Walked}

-- ---- the verdict

module _ (S : Tasks) {points : ℕ} (r : Started) where
  pub accepted_begins : {l : Least} → Accepts S points l → r.how ≡ Ready → r.dispatcher ≡ ready_record S (phase_at l.counts) → Begins S r
  accepted_begins {l} a how d = record {
    verdict = accepted (phase_at l.counts) points;
    judged = a.verdict;
    started = (how, d ∙ ap (ready_record S) (sym (all_used S l.counts a.no_task a.no_phase)));
  }

  pub refused_begins : {f : Walked} → Refuses S points f → r.how ≡ Refused (refusal f.witness f.demand points f.task f.phase) → r.dispatcher ≡ empty_record → Begins S r
  refused_begins {f} b how d = record {
    verdict = refused f.witness f.demand points f.task f.phase;
    judged = b.verdict;
    started = (how, d);
  }

-- ---- one start

same_started : (r s : Started) → r.how ≡ s.how → r.dispatcher ≡ s.dispatcher → r ≡ s
same_started r s h d = λ k. record { how = h k; dispatcher = d k }

used_same : (S : Tasks) (x y : Choice) → Each S (λ i j. x i j ≡ y i j) → used S x ≡ used S y
used_same S x y e = λ k i j. go i j (ltb i S.n) (ltb j (S.m i)) refl refl k
  where
    go : (i j : ℕ) (a b : Bool) → ltb i S.n ≡ a → ltb j (S.m i) ≡ b → cond (a && b) (x i j) 0 ≡ cond (a && b) (y i j) 0
    go i j true true p q = e i j (ltb-true i S.n p) (ltb-true j (S.m i) q)
    go i j true false p q = refl
    go i j false b p q = refl

module _ (S : Tasks) (sane : Sane S) (r s : Started) where
  same_start : (u v : Verdict) → Same S u v → StartedOn S u r → StartedOn S v s → r ≡ s
  same_start (accepted x p) (accepted y q) e a b =
      same_started r s (a.0 ∙ sym b.0) (a.1 ∙ ap (ready_record S) (used_same S x y e.0) ∙ sym b.1)
  same_start (accepted x p) (refused w d q i j) e a b = absurd e
  same_start (refused w d p i j) (accepted y q) e a b = absurd e
  same_start (refused w d p i j) (refused w' d' p' i' j') (ew, ed, ep, ei, ej) a b =
      same_started r s (a.0 ∙ numbers ∙ sym b.0) (a.1 ∙ sym b.1)
    where
      numbers : ◌≡◌ {A = How} (Refused (refusal w d p i j)) (Refused (refusal w' d' p' i' j'))
      numbers = cc

  begins_one : Begins S r → Begins S s → r ≡ s
  begins_one a b =
      same_start a.verdict b.verdict
      (judged_unique S (phases_of S) (laws_of S sane) (horizon_of S) a.verdict b.verdict a.judged b.judged) a.started b.started

-- two starts that the same bytes allow are equal
pub starts_one : (bytes : List ℕ) (r s : Started) → Starts bytes r → Starts bytes s → r ≡ s
starts_one bytes r s a b = go (table bytes 0) refl
  where
    go : (x : Result Table) → table bytes 0 ≡ x → r ≡ s
    go (got t next) e = begins_one (tasks_of t) (table_sane (read_valid bytes 0 t next e)) r s (a.read t next e) (b.read t next e)
    go (away reason place) e =
        let p = a.turned_away reason place e in
        let q = b.turned_away reason place e in
        same_started r s (p.0 ∙ sym q.0) (p.1 ∙ sym q.1)

-- ---- the whole call

pub away_starts : {bytes : List ℕ} {reason : Reason} {place : ℕ} {r : Started} → table bytes 0 ≡ away reason place → r.how ≡ TurnedAway (record { reason = reason; place = place })
    → r.dispatcher ≡ empty_record → Starts bytes r
away_starts {bytes} {reason} {place} {r} e how d = record {
  turned_away = λ reason' place' f.
      let same : ◌≡◌ {A = How} (TurnedAway (record { reason = reason; place = place })) (TurnedAway (record { reason = reason'; place = place' })) = cc in
      (how ∙ same, d);
  read = λ t next f. let z : ◌≡◌ {A = ℕ} 0 1 = cc in absurd (omega arith);
}

pub read_starts : {bytes : List ℕ} {t : Table} {next : ℕ} {r : Started} → table bytes 0 ≡ got t next → Begins (tasks_of t) r → Starts bytes r
read_starts {bytes} {t} {next} {r} e b = record {
  turned_away = λ reason place f. let z : ◌≡◌ {A = ℕ} 0 1 = cc in absurd (omega arith);
  read = λ t' next' f. let same : t ≡ t' = cc in rw same at b;
}
