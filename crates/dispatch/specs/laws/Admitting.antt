-- Step 1 on the record's arrays: the loop that begins the jobs of those let in.
-- Assumes nothing.
use Rattle.std.specs.Prelude.{◌≡◌, Bool, ◌||◌, ℕ, ◌+◌, ◌<◌, get_or, set}
use Rattle.std.proofs.Math.Path.{refl, ap}
use Rattle.std.proofs.Common.{sym, ◌∙◌}
use Rattle.std.proofs.Math.Bool.{true, false}
use Rattle.finite.specs.Masks.{bit, digit, mask_of}
use Rattle.finite.proofs.laws.Masks.{bit_mask_of}
use Rattle.finite.proofs.laws.Lists.{filled_more}
use Rattle.std.proofs.lemmas.Bool.{cond-false, cond-true}
use Rattle.promise.specs.Rules.{State, admit, lets_in}
use Rattle.records.specs.Record.{state_in}
use Rattle.records.specs.Rules.{enters_of}
use Rattle.records.specs.Held.{counts_in, tasks_in}
use Rattle.records.specs.declared.Dispatcher.{Dispatcher}
use Rattle.records.proofs.laws.Fields.{Fields, Long}
use Rattle.dispatch.specs.Steps.{Admits, in_state}
use Rattle.dispatch.specs.laws.Keeps.{admit_keeps}
use Rattle.dispatch.specs.laws.Reads.{own_keeps, ranged, still_in_range}
use Rattle.dispatch.specs.laws.Updates.{filled_kept, filling, filling_all, in_state_lem, jobs_alike, own_flag, with_jobs}

-- the state after admission
abbrev pub admitted_state : Dispatcher → ℕ → State
admitted_state d asked = admit (tasks_in d) (bit asked) (state_in d)

-- whom the scan over the arrays lets in is whom the rules let in
pub scan_is : (d : Dispatcher) (asked m : ℕ) → m ≡ mask_of 32 (enters_of d asked) → m ≡ mask_of 32 (lets_in (tasks_in d) (state_in d) (bit asked))
unfolding lets_in
scan_is d asked m e = e

module _ (d : Dispatcher) (asked m i : ℕ) (scan : m ≡ mask_of 32 (lets_in (tasks_in d) (state_in d) (bit asked))) (l : i < 32) (r : Dispatcher) (e : r ≡ filling d (admitted_state d asked) i) where
  abbrev enters : Bool
  enters = lets_in (tasks_in d) (state_in d) (bit asked) i

  enters_is : (b : Bool) → bit m i ≡ b → enters ≡ b
  enters_is b h = sym (bit_mask_of 32 (lets_in (tasks_in d) (state_in d) (bit asked)) i l) ∙ ap (λ z. bit z i) (sym scan) ∙ h

  -- a turn in which a job begins
  pub begins : bit m i ≡ true
      → with_jobs r (set r.since i 0) (set r.unfinished i 1) (set r.left i (get_or r.deadline i 0)) (set r.phase i 1) (set r.piece i 1) r.running r.ticks
      ≡ filling d (admitted_state d asked) (i + 1)
  unfolding filling
  begins h =
      let b : enters ≡ true = enters_is true h in
      ap (λ (r : Dispatcher). with_jobs r (set r.since i 0) (set r.unfinished i 1) (set r.left i (get_or r.deadline i 0)) (set r.phase i 1) (set r.piece i 1) r.running r.ticks) e ∙
      jobs_alike d
      (filled_more i _ _ _ 0 refl (sym (cond-true enters 0 _ b)))
      (filled_more i _ _ _ 1 refl (ap (λ (c : Bool). digit (c || (state_in d).busy i)) (sym b)))
      (filled_more i _ _ _ _ refl (sym (cond-true enters (get_or d.deadline i 0) _ b)))
      (filled_more i _ _ _ 1 refl (sym (cond-true enters 1 _ b)))
      (filled_more i _ _ _ 1 refl (sym (cond-true enters 1 _ b)))
      refl refl

  -- a turn in which none does: what a state says of a task not let in is what the record has
  pub stays : Long d → Fields d → bit m i ≡ false → r ≡ filling d (admitted_state d asked) (i + 1)
  unfolding filling
  stays long f h =
      let b : enters ≡ false = enters_is false h in
      e ∙
      jobs_alike d
      (filled_kept i _ _ (sym (cond-false enters 0 _ b)))
      (filled_kept i _ _ (own_flag d long f i l ∙ ap (λ (c : Bool). digit (c || (state_in d).busy i)) (sym b)))
      (filled_kept i _ _ (sym (cond-false enters (get_or d.deadline i 0) _ b)))
      (filled_kept i _ _ (sym (cond-false enters 1 _ b)))
      (filled_kept i _ _ (sym (cond-false enters 1 _ b)))
      refl refl

-- the whole step
pub admits_by : (d : Dispatcher) → Long d → Fields d → (asked m i : ℕ) (r : Dispatcher) → m ≡ mask_of 32 (lets_in (tasks_in d) (state_in d) (bit asked)) →
    i ≡ 32 → r ≡ filling d (admitted_state d asked) i → Admits d asked r m
admits_by d long f asked m i r scan last e =
    let moved : r ≡ in_state d (admitted_state d asked) =
    e ∙ ap (filling d (admitted_state d asked)) last ∙ filling_all d (admitted_state d asked) long ∙ in_state_lem d long f (admitted_state d asked) in
    record {
      moved = moved;
      answered = scan;
      kept = still_in_range d f (admitted_state d asked) (admit_keeps (tasks_in d) (counts_in d) (ranged d f) (state_in d) (own_keeps d f) (bit asked)) r moved;
    }
