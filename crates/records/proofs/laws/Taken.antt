-- What a record is taken as is in range: itself where it is, else the empty record.
-- Assumes nothing.
use Rattle.std.specs.Prelude.{◌≡◌, Bool, true, false, not, ◌&&◌}
use Rattle.std.proofs.Common.{sym, ap, ◌∙◌, subst, true≢false}
use Rattle.std.proofs.lemmas.Bool.{cond-false, cond-true}
use Rattle.records.specs.Held.{held_in, held_test}
use Rattle.records.specs.Lent.{changing_all, running_all}
use Rattle.records.specs.Ranges.{in_range}
use Rattle.records.specs.Record.{empty_record}
use Rattle.records.specs.Taken.{Taken}
use Rattle.records.specs.declared.Dispatcher.{Dispatcher}
use Rattle.records.proofs.laws.Empty.{empty_in_range, empty_long}
use Rattle.records.proofs.laws.Fields.{Long}
use Rattle.records.proofs.laws.Tested.{together}

-- a record whose test passes as it is
pub taken_in : (d : Dispatcher) → Long d → (b : Bool) → b ≡ in_range d → not b ≡ false → Taken d d
taken_in d long true e h = record { is = sym (cond-true (in_range d) d empty_record (sym e)); range = sym e; long = long }
taken_in d long false e h = absurd (true≢false h)

-- any other as the empty one
pub taken_out : (d r : Dispatcher) (b : Bool) → b ≡ in_range d → not b ≡ true → r ≡ empty_record → Taken d r
taken_out d r true e h g = absurd (true≢false (sym h))
taken_out d r false e h g = record {
  is = g ∙ sym (cond-false (in_range d) d empty_record (sym e));
  range = ap in_range g ∙ empty_in_range;
  long = subst Long (sym g) empty_long;
}

-- the same by the tests that the code makes one by one
module _ (d : Dispatcher) (long : Long d) (held changing runs : Bool)
    (held_is : held ≡ held_test (held_in d)) (changing_is : changing ≡ changing_all d) (runs_is : runs ≡ running_all d) where
  whole : (held && changing && runs) ≡ in_range d
  whole = rw (held_is, changing_is, runs_is) (together d long)

  pub tested_in : (held && changing && runs) ≡ true → Taken d d
  tested_in h = taken_in d long _ whole (ap not h)

  pub tested_out : (r : Dispatcher) → (held && changing && runs) ≡ false → r ≡ empty_record → Taken d r
  tested_out r h e = taken_out d r _ whole (ap not h) e
