-- The record of a table with counts in range, in a state that the rules keep, is in range, and is read as it was written.
-- Assumes nothing.
use Rattle.std.specs.Prelude.{◌≡◌, true}
use Rattle.std.proofs.Common.{sym, ap, ◌∙◌, subst}
use Rattle.std.proofs.lemmas.Bool.{cond-true}
use Rattle.promise.specs.Rules.{State}
use Rattle.promise.proofs.laws.Range.{Range}
use Rattle.promise.proofs.laws.Remaining.{Proper}
use Rattle.records.specs.Ranges.{in_range, usable}
use Rattle.records.specs.Record.{empty_record, record_of, state_in}
use Rattle.records.specs.Held.{Held, HeldInRange, held_in}
use Rattle.records.specs.declared.Dispatcher.{Dispatcher}
use Rattle.records.proofs.laws.Held.{record_long}
use Rattle.records.proofs.laws.InRange.{fields_range}
use Rattle.records.proofs.laws.Views.{flags_binary, held_of_record, state_of_record}

module _ (h : Held) (held : HeldInRange h) (s : State) (range : Range h.table s) where
  abbrev d : Dispatcher
  d = record_of h s

  -- what holds of them holds of those that the record is read as
  pub of_views : (P : Held → State → Type 0) → P h s → P (held_in d) (state_in d)
  of_views P p = subst (λ h. P h (state_in d)) (sym (held_of_record h held s)) (subst (P h) (sym (state_of_record h held s range)) p)

  -- what is read from the record is what was written
  pub read_as : {A : Type 0} (f : Held → State → A) → f (held_in d) (state_in d) ≡ f h s
  read_as f = ap (λ h. f h (state_in d)) (held_of_record h held s) ∙ ap (f h) (state_of_record h held s range)

  pub record_in_range : Proper h.table h.counts s → in_range d ≡ true
  record_in_range good =
      fields_range d (record_long h s)
      (record {
        held = of_views (λ h s. HeldInRange h) held;
        state = of_views (λ h s. Range h.table s) range;
        jobs = of_views (λ h s. Proper h.table h.counts s) good;
        binary = flags_binary s.busy;
      })

  pub usable_is : Proper h.table h.counts s → usable d ≡ d
  usable_is good = cond-true (in_range d) d empty_record (record_in_range good)
