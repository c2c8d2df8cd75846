-- What the contracts of the C interface allow is determined: two outcomes for the same call are equal. (Of the tick, dispatch says so.)
-- Assumes nothing.
use mathlib.Core.Path.{◌≡◌, sym, ap, ◌∙◌}
use mathlib.Core.List.{List}
use Prim.Native.Nat.{ℕ}
use Rattle.edf.proofs.Unique.{judges_unique}
use Rattle.start.specs.declared.Started as begun
use Rattle.start.specs.laws.Beginning.{starts_one}
use Rattle.firmware.specs.declared.Outcome.{Outcome}
use Rattle.firmware.specs.declared.StartOutcome.{StartOutcome}
use Rattle.firmware.specs.Interface.{judge_outcome_of, start_outcome_of, JudgesInC, StartsInC}

pub outcome_unique : {bytes before after after' : List ℕ} {r r' : Outcome} → JudgesInC bytes before after r → JudgesInC bytes before after' r' → (r ≡ r') × (after ≡ after')
outcome_unique a b =
    let e = judges_unique a.judged b.judged in
    (a.returned ∙ ap judge_outcome_of e.0 ∙ sym b.returned, e.1)

pub start_unique : {bytes : List ℕ} {r r' : StartOutcome} → StartsInC bytes r → StartsInC bytes r' → r ≡ r'
start_unique {bytes} a b =
    a.returned ∙ ap (λ (s : begun.Started). start_outcome_of s.how s.dispatcher) (starts_one bytes a.begun b.begun a.starts b.starts) ∙ sym b.returned
