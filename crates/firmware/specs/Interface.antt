-- DEFINITIONS. What the C interface returns where the calls that it wraps answer an enum: document 01's number and values for each case.
-- Assumes nothing.
use Rattle.std.specs.Prelude.{◌≡◌, Result, Ok, Err, List, ℕ}
use Rattle.edf.specs.Judge as edf
use Rattle.records.specs.declared.Dispatcher.{Dispatcher}
use Rattle.start.specs.Start as start
use Rattle.start.specs.declared.How.{How}
use Rattle.start.specs.declared.How.TheVariants.{Ready, Refused, TurnedAway as Unread}
use Rattle.start.specs.declared.Started as begun
use Rattle.table.specs.Reason.{reason_number}
use Rattle.table.specs.declared.TurnedAway.{TurnedAway}
use Rattle.firmware.specs.declared.Outcome.{Outcome}
use Rattle.firmware.specs.declared.StartOutcome.{StartOutcome}

-- An answer has reason 0 and its length; a table turned away has the reason's number and the place. What does not apply is 0.
abbrev pub judge_outcome_of : Result ℕ TurnedAway → Outcome
judge_outcome_of (Ok length) = record { reason = 0; place = 0; length = length }
judge_outcome_of (Err e) = record { reason = reason_number e.reason; place = e.place; length = 0 }

-- What the judge returns to C and leaves in the buffer: some outcome that `edf::judge` promises, in these numbers.
pub record JudgesInC (bytes before after : List ℕ) (r : Outcome) : Type 0 where
  pub outcome : Result ℕ TurnedAway
  pub judged : edf.Judges bytes before after outcome
  pub returned : r ≡ judge_outcome_of outcome

-- a start with no verdict's numbers
abbrev pub unrefused : ℕ → ℕ → ℕ → Dispatcher → StartOutcome
unrefused how reason place d = record { how = how; reason = reason; place = place; witness = 0; demand = 0; points = 0; task = 0; phase = 0; dispatcher = d }

-- Ready is 0. Refused is 1, with the witness, the demand there, the points examined, the blocked task and phase. Turned away is 2, with the reason's
-- number and the place. What does not apply is 0, and the record goes with each.
abbrev pub start_outcome_of : How → Dispatcher → StartOutcome
start_outcome_of Ready d = unrefused 0 0 0 d
start_outcome_of (Refused r) d = record {
  how = 1;
  reason = 0;
  place = 0;
  witness = r.witness;
  demand = r.demand;
  points = r.points;
  task = r.task;
  phase = r.phase;
  dispatcher = d;
}
start_outcome_of (Unread e) d = unrefused 2 (reason_number e.reason) e.place d

-- What starting returns to C: some start that `start::start` promises, in these numbers.
pub record StartsInC (bytes : List ℕ) (r : StartOutcome) : Type 0 where
  pub begun : begun.Started
  pub starts : start.Starts bytes begun
  pub returned : r ≡ start_outcome_of (begun).how (begun).dispatcher
