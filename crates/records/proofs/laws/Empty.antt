-- The empty record is in range, and no other record in range has no tasks.
-- Assumes nothing.
use Rattle.std.specs.Prelude.{◌≡◌, refl, true, false, ℕ, zero, suc, ◌≤◌}
use Rattle.std.proofs.Common.{sym, ◌∙◌, subst, arith}
use Rattle.finite.specs.Finite.{all_to, list_to}
use Rattle.model.specs.Arrays.{empty_arrays}
use Rattle.model.specs.Ranges.{table_test}
use Rattle.promise.proofs.laws.Range.{Zeros}
use Rattle.records.specs.Ranges.{in_range}
use Rattle.records.specs.Record.{empty_record, record_of, state_in}
use Rattle.records.specs.Held.{held_in, held_test, tasks_in}
use Rattle.records.specs.declared.Dispatcher.{Dispatcher}
use Rattle.records.proofs.laws.Fields.{Fields, Long}
use Rattle.records.proofs.laws.Held.{none_held, record_long}
use Rattle.records.proofs.laws.InRange.{range_fields}
use Rattle.records.proofs.laws.Views.{record_of_views}

-- it is read as it was written, so its arrays have their lengths
empty_views : record_of (held_in empty_record) (state_in empty_record) ≡ empty_record
unfolding list_to empty_arrays
empty_views = refl

pub empty_long : Long empty_record
empty_long = subst Long empty_views (record_long (held_in empty_record) (state_in empty_record))

pub empty_in_range : in_range empty_record ≡ true
unfolding in_range held_test table_test all_to empty_arrays
empty_in_range = refl

empty_none : empty_record.tasks ≡ 0
unfolding empty_arrays
empty_none = refl

-- a record in range without a task has 0 everywhere
module _ (d : Dispatcher) (f : Fields d) (z : d.tasks ≡ 0) where
  none : (i : ℕ) → (tasks_in d).n ≤ i
  none i = omega arith

  idle : (i : ℕ) → (state_in d).busy i ≡ false
  idle i = f.state.none i (none i)

  no_since : (i : ℕ) → (state_in d).since i ≡ 0
  no_since i = omega (arith, f.state.since i, (f.held.table.no_task i (none i)).no_spacing)

  zeros : (i : ℕ) → Zeros (state_in d) i
  zeros i = f.state.idle i (idle i)

  still : d.running ≡ 0
  still = go d.running refl
    where
      go : (r : ℕ) → d.running ≡ r → d.running ≡ 0
      go zero q = q
      go (suc j) q = absurd (omega (arith, (f.jobs.runs j q).task))

-- the number of tasks is 0 only in the empty record
pub empty_alone : (d : Dispatcher) → Long d → in_range d ≡ true → d.tasks ≡ 0 → d ≡ empty_record
empty_alone d long e z =
    sym (record_of_views d long f.binary) ∙
    (λ k. record_of (held k) (state k)) ∙
    empty_views
  where
    f : Fields d
    f = range_fields d long e

    g : Fields empty_record
    g = range_fields empty_record empty_long empty_in_range

    held : held_in d ≡ held_in empty_record
    held = none_held (held_in d) (held_in empty_record) f.held g.held z empty_none

    state : state_in d ≡ state_in empty_record
    state = λ k.
        record {
          busy = λ i. (idle d f z i ∙ sym (idle empty_record g empty_none i)) k;
          since = λ i. (no_since d f z i ∙ sym (no_since empty_record g empty_none i)) k;
          left = λ i. ((zeros d f z i).left ∙ sym (zeros empty_record g empty_none i).left) k;
          phase = λ i. ((zeros d f z i).phase ∙ sym (zeros empty_record g empty_none i).phase) k;
          piece = λ i. ((zeros d f z i).piece ∙ sym (zeros empty_record g empty_none i).piece) k;
          run = still d f z k;
          ticks = f.state.rest (still d f z) k;
        }
