-- DEFINITIONS. How the dispatcher's record, an array for each field, is read as what it holds (Held) and as the rules' state, and how it is written from
-- them. The rules are those of promise; tasks and phases are numbered from 0.
-- Assumes nothing.
use Rattle.std.specs.Prelude.{◌≡◌, Bool, ℕ, eqb, get_or, length, replicate}
use Rattle.finite.specs.Masks.{bit, digit}
use Rattle.finite.specs.Finite.{list_to}
use Rattle.records.specs.declared.Dispatcher.{Dispatcher}
use Rattle.model.specs.Arrays.{Sized}
use Rattle.promise.specs.Rules.{Request, State}
use Rattle.records.specs.Held.{Held, arrays_in, fixed_of, nothing_fixed, record_with}

-- ---- a record, read

-- its state: a job is unfinished where the record has 1
abbrev pub state_in : Dispatcher → State
state_in d = record {
  busy = λ i. eqb (get_or d.unfinished i 0) 1;
  since = λ i. get_or d.since i 0;
  left = λ i. get_or d.left i 0;
  phase = λ i. get_or d.phase i 0;
  piece = λ i. get_or d.piece i 0;
  run = d.running;
  ticks = d.ticks;
}

-- a release mask with its flag: bit 0 is task 1
abbrev pub request_of : ℕ → Bool → Request
request_of mask flag = record { mask = bit mask; flag = flag }

-- ---- a record, written

-- the way back: the record of a table with counts, and of a state, place by place
abbrev pub record_of : Held → State → Dispatcher
record_of h s =
    record_with (fixed_of h) (list_to 32 s.since) (list_to 32 (λ i. digit (s.busy i))) (list_to 32 s.left) (list_to 32 s.phase) (list_to 32 s.piece)
    s.run s.ticks

-- the empty record: it runs nothing and lets nothing in
abbrev pub empty_record : Dispatcher
empty_record = record_with nothing_fixed (replicate 32 0) (replicate 32 0) (replicate 32 0) (replicate 32 0) (replicate 32 0) 0 0

-- the lengths of the arrays, which their types give
pub record Long (d : Dispatcher) : Type 0 where
  pub table : Sized (arrays_in d)
  pub counts : length d.counts ≡ 256
  pub since : length d.since ≡ 32
  pub unfinished : length d.unfinished ≡ 32
  pub left : length d.left ≡ 32
  pub phase : length d.phase ≡ 32
  pub piece : length d.piece ≡ 32
