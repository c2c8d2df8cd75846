-- DEFINITIONS. Document 01, "The dispatcher": starting it on table bytes gives reasons 2 to 7, or the refused verdict, each with the empty record;
-- or the ready record. (The numbers of the reasons are table/Reason's.)
-- Assumes nothing.
use Rattle.std.specs.Prelude.{◌≡◌, ◌&&◌, List, ℕ, ltb}
use Rattle.records.specs.Record.{empty_record}
use Rattle.records.specs.Start.{ready_record}
use Rattle.std.specs.Prelude.{if◌then◌else◌}
use Rattle.model.specs.Phase.{Choice, phases_of}
use Rattle.model.specs.Tasks.{Tasks}
use Rattle.model.specs.TestPoints.{horizon_of}
use Rattle.model.specs.Verdict.{Judged, Verdict, accepted, refused}
use Rattle.start.specs.declared.How.TheVariants.{Ready, Refused, TurnedAway}
use Rattle.start.specs.declared.Refusal.{Refusal}
use Rattle.start.specs.declared.Started.{Started}
use Rattle.table.specs.declared.Reason.{Reason}
use Rattle.table.specs.Parse.{away, got, table}
use Rattle.table.specs.TaskModel.{tasks_of}
use Rattle.table.specs.declared.Table.{Table}

-- the counts of a choice at the phases that there are; unused places 0
abbrev pub used : Tasks → Choice → Choice
used S x i j = if ltb i S.n && ltb j (S.m i) then x i j else 0

-- the numbers of a refused verdict
abbrev pub refusal : (witness demand points task phase : ℕ) → Refusal
refusal w d p i j = record { witness = w; demand = d; points = p; task = i; phase = j }

-- Accepted: the ready record, with the counts. Refused: the verdict's numbers, with the empty record.
abbrev pub StartedOn : Tasks → Verdict → Started → Type 0
StartedOn S (accepted x p) r = (r.how ≡ Ready) × (r.dispatcher ≡ ready_record S (used S x))
StartedOn S (refused w d p i j) r = (r.how ≡ Refused (refusal w d p i j)) × (r.dispatcher ≡ empty_record)

-- what starting gives on the tasks of a table that was read: the verdict is the judge's (demand 2)
pub record Begins (S : Tasks) (r : Started) : Type 0 where
  pub verdict : Verdict
  pub judged : Judged S (phases_of S) (horizon_of S) verdict
  pub started : StartedOn S verdict r

-- what starting gives on bytes
pub record Starts (bytes : List ℕ) (r : Started) : Type 0 where
  pub turned_away : (reason : Reason) (place : ℕ) → table bytes 0 ≡ away reason place → (r.how ≡ TurnedAway (record { reason = reason; place = place })) × (r.dispatcher ≡ empty_record)
  pub read : (t : Table) (next : ℕ) → table bytes 0 ≡ got t next → Begins (tasks_of t) r
