-- A record is given by what it holds and its state, and these by the record.
-- Assumes nothing.
use Rattle.std.specs.Prelude.{◌≡◌, refl, Bool, true, false, List, ℕ, zero, suc, ◌+◌, ◌-◌, ◌*◌, ◌≤◌, ◌<◌, eqb, length, get_or}
use Rattle.std.proofs.Common.{sym, ap, ◌∙◌, arith}
use Rattle.std.proofs.Math.Decide.{dec_lt}
use Rattle.std.proofs.Math.ListN.{get_or-eq_default}
use Rattle.finite.specs.Masks.{digit}
use Rattle.finite.specs.Finite.{list_to}
use Rattle.finite.proofs.laws.Lists.{get_or_list, length_list, list_alike, list_of}
use Rattle.model.specs.Phase.{piece_length}
use Rattle.model.specs.Tasks.{Tasks}
use Rattle.model.proofs.laws.Arrays.{at_place, phase_at_lem}
use Rattle.model.proofs.laws.Places.{Few, at_task}
use Rattle.model.proofs.laws.Ranges.{few_of}
use Rattle.promise.specs.Rules.{State, stated}
use Rattle.promise.proofs.laws.Range.{Range}
use Rattle.records.specs.Record.{record_of, state_in}
use Rattle.records.specs.Rules.{ticks_of}
use Rattle.records.specs.Held.{Held, HeldInRange, counts_in, held_in, record_with, tasks_in}
use Rattle.records.specs.declared.Dispatcher.{Dispatcher}
use Rattle.records.proofs.laws.Fields.{Long}
use Rattle.records.proofs.laws.Held.{fixed_of_held, held_of_fixed}

-- ---- from the record and back

-- a number that is 0 or 1
digit_of : (v : ℕ) → v ≤ 1 → digit (eqb v 1) ≡ v
digit_of zero h = refl
digit_of (suc zero) h = refl
digit_of (suc (suc v)) h = absurd (omega arith)

flags_of : (a : List ℕ) → length a ≡ 32 → ((i : ℕ) → get_or a i 0 ≤ 1) → list_to 32 (λ i. digit (eqb (get_or a i 0) 1)) ≡ a
flags_of a e h =
    list_alike 32 (λ i. digit (eqb (get_or a i 0) 1)) (λ i. get_or a i 0) (λ i l. digit_of (get_or a i 0) (h i)) ∙ list_of 32 a 0 e

pub record_of_views : (d : Dispatcher) → Long d → ((i : ℕ) → get_or d.unfinished i 0 ≤ 1) → record_of (held_in d) (state_in d) ≡ d
record_of_views d long binary =
    λ k.
    record_with (fixed_of_held d long k) (list_of 32 d.since 0 long.since k) (flags_of d.unfinished long.unfinished binary k)
    (list_of 32 d.left 0 long.left k) (list_of 32 d.phase 0 long.phase k) (list_of 32 d.piece 0 long.piece k) d.running d.ticks

-- ---- to the record and back

flag_at : (f : ℕ → Bool) (i : ℕ) → (32 ≤ i → f i ≡ false) → eqb (get_or (list_to 32 (λ i. digit (f i))) i 0) 1 ≡ f i
flag_at f i h = ap (λ z. eqb z 1) (at_place 32 (λ i. digit (f i)) i (λ l. ap digit (h l))) ∙ read (f i)
  where
    read : (b : Bool) → eqb (digit b) 1 ≡ b
    read true = refl
    read false = refl

-- the record has 0 or 1
pub flags_binary : (f : ℕ → Bool) (i : ℕ) → get_or (list_to 32 (λ i. digit (f i))) i 0 ≤ 1
flags_binary f i = go (dec_lt i 32)
  where
    small : (b : Bool) → digit b ≤ 1
    small true = omega arith
    small false = omega arith

    go : Dec (i < 32) → get_or (list_to 32 (λ i. digit (f i))) i 0 ≤ 1
    go (yes l) = omega (arith, get_or_list 32 (λ i. digit (f i)) i 0 l, small (f i))
    go (no l) = omega (arith, get_or-eq_default (list_to 32 (λ i. digit (f i))) 0 {n = i} (omega (arith, length_list 32 (λ i. digit (f i)))))

module _ (h : Held) (range : HeldInRange h) where
  abbrev S : Tasks
  S = h.table

  few : Few S
  few = few_of S range.table

  pub held_of_record : (s : State) → held_in (record_of h s) ≡ h
  held_of_record s = held_of_fixed h range

  pub state_of_record : (s : State) → Range S s → state_in (record_of h s) ≡ s
  state_of_record s ok =
      λ k.
      record {
        busy = λ i. flag_at s.busy i (λ h. ok.none i (omega (arith, few.tasks))) k;
        since = λ i. at_task S few s.since (λ i l. omega (arith, ok.since i, (range.table.no_task i l).no_spacing)) i k;
        left = λ i. at_task S few s.left (λ i l. (ok.idle i (ok.none i l)).left) i k;
        phase = λ i. at_task S few s.phase (λ i l. (ok.idle i (ok.none i l)).phase) i k;
        piece = λ i. at_task S few s.piece (λ i l. (ok.idle i (ok.none i l)).piece) i k;
        run = s.run;
        ticks = s.ticks;
      }

-- ---- the ticks of a piece

-- straight from the arrays they are what the rules state, where the phase is one of the eight
pub due_of_views : (d : Dispatcher) (j : ℕ) → get_or d.phase j 0 - 1 < 8
    → ticks_of d (suc j) ≡ stated (tasks_in d) (counts_in d) j (get_or d.phase j 0) (get_or d.piece j 0)
unfolding stated
due_of_views d j l =
    let e : suc j - 1 ≡ j = omega arith in
    let k : ℕ = get_or d.phase j 0 - 1 in
    ap
    (λ z. piece_length (get_or d.work (8 * z + (get_or d.phase z 0 - 1)) 0) (get_or d.cost (8 * z + (get_or d.phase z 0 - 1)) 0) (get_or d.counts (8 * z + (get_or d.phase z 0 - 1)) 0) (get_or d.piece z 0 - 1))
    e ∙
    (λ t. piece_length (sym (phase_at_lem d.work j k l) t) (sym (phase_at_lem d.cost j k l) t) (sym (phase_at_lem d.counts j k l) t) (get_or d.piece j 0 - 1))
