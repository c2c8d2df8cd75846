-- One number passed to a sink, and a loop that passes one part of the numbers a turn. Assumes nothing.
use Rattle.std.proofs.Common.{ℕ, ◌+◌, ◌≤◌, ◌<◌, ◌≡◌, refl, ap, sym, subst, ◌∙◌, get_or, List, [], ◌∷◌, ◌++◌, length, drop, append_assoc, zero-add, arith}
use Rattle.std.proofs.lemmas.List.Edits.{sets}
use lib.Seq.{sets-eq}
use Rattle.finite.specs.Finite.{join_to}
use Rattle.finite.proofs.laws.Lists.{join_more, join_part, list_join, list_of}
use Rattle.groups.specs.Encode.{encode, encode_all}
use Rattle.groups.specs.Sinks.{SinkLaws, Counts, Countable, RoomFor, Fills}
use Rattle.groups.specs.SinkLaws.{encode_all_one}

-- ---- one number

pub one_countable : {bytes value : ℕ} → Countable bytes (value ∷ []) → bytes + length (encode value) ≤ 1_000_000
one_countable {value = value} f = omega (arith, f.most, ap length (encode_all_one value))

pub one_counted : {bytes n value : ℕ} → n ≡ length (encode value) → Counts bytes (bytes + n) (value ∷ [])
one_counted {value = value} e = record { after_is = omega (arith, ap length (encode_all_one value)) }

pub one_fits : {buffer : List ℕ} {at value : ℕ} → RoomFor buffer at (value ∷ []) → at + length (encode value) ≤ length buffer
one_fits {value = value} f = omega (arith, f.most, ap length (encode_all_one value))

pub one_filled : {before after : List ℕ} {at next value : ℕ} → next ≡ at + length (encode value) → after ≡ sets before at (encode value)
    → Fills before after at next (value ∷ [])
one_filled {value = value} e f = record { next_is = omega (arith, ap length (encode_all_one value)); after_is = rw encode_all_one f }

-- ---- a loop that passes one part of the numbers a turn

module _ {S : Type 0} (takes : S → List ℕ → Type 0) (passed : S → List ℕ → S → Type 0) where
  -- a loop over n parts, begun at the sink `from`, has passed i of them, and `sink` is what it made of it
  pub record Passing (from : S) (n : ℕ) (parts : ℕ → List ℕ) (sink : S) (i : ℕ) : Type 0 where
    pub fits : takes from (join_to n parts)
    pub so_far : passed from (join_to i parts) sink

module _ {S : Type 0} {takes : S → List ℕ → Type 0} {passed : S → List ℕ → S → Type 0} (laws : SinkLaws takes passed) where
  pub begins : {from : S} {n : ℕ} {parts : ℕ → List ℕ} → takes from (join_to n parts) → Passing takes passed from n parts from 0
  unfolding join_to
  begins {from} f = record { fits = f; so_far = laws.nothing from }

  module _ {from sink : S} {n i : ℕ} {parts : ℕ → List ℕ} (l : Passing takes passed from n parts sink i) {part : List ℕ} (due : part ≡ parts i) where
    whole : (rest : List ℕ) → join_to n parts ≡ join_to (i + 1) parts ++ rest → join_to n parts ≡ join_to i parts ++ (part ++ rest)
    whole rest e =
        e
        ∙ ap (λ (ms : List ℕ). ms ++ rest) (join_more i parts ∙ ap (λ (ms : List ℕ). join_to i parts ++ ms) (sym due))
        ∙ append_assoc (join_to i parts) part rest

    -- the part that is due has room
    pub part_fits : i < n → takes sink part
    part_fits h =
        let (rest, e) = join_part (i + 1) n parts (omega arith) in
        laws.front_fits sink part rest (laws.rest_fits from sink (join_to i parts) (part ++ rest) l.so_far (subst (takes from) (whole rest e) l.fits))

    -- and is passed
    pub part_passed : {after : S} → passed sink part after → Passing takes passed from n parts after (i + 1)
    part_passed {after} w = record {
      fits = l.fits;
      so_far =
          let more : join_to i parts ++ part ≡ join_to (i + 1) parts = ap (λ (ms : List ℕ). join_to i parts ++ ms) due ∙ sym (join_more i parts) in
          subst (λ (ms : List ℕ). passed from ms after) more (laws.joined from sink after (join_to i parts) part l.so_far w);
    }

pub all_passed : {S : Type 0} {takes : S → List ℕ → Type 0} {passed : S → List ℕ → S → Type 0} {from sink : S} {n i : ℕ} {parts : ℕ → List ℕ}
    → Passing takes passed from n parts sink i → i ≡ n → passed from (join_to n parts) sink
all_passed {passed = passed} {from = from} {sink = sink} {parts = parts} l e = subst (λ (k : ℕ). passed from (join_to k parts) sink) e l.so_far

-- ---- the same of a loop over the numbers of a list

-- the numbers of a list, one a turn
abbrev pub each : List ℕ → ℕ → List ℕ
each values k = get_or values k 0 ∷ []

pub all_each : (values : List ℕ) → join_to (length values) (each values) ≡ values
all_each values = sym (list_join (length values) (λ k. get_or values k 0)) ∙ list_of (length values) values 0 refl

pub begins_each : {S : Type 0} {takes : S → List ℕ → Type 0} {passed : S → List ℕ → S → Type 0} → SinkLaws takes passed → {from : S} (values : List ℕ) → takes from values
    → Passing takes passed from (length values) (each values) from 0
begins_each {takes = takes} laws {from} values f = begins laws (subst (takes from) (sym (all_each values)) f)

pub all_each_passed : {S : Type 0} {takes : S → List ℕ → Type 0} {passed : S → List ℕ → S → Type 0} {from sink : S} {i : ℕ} (values : List ℕ)
    → Passing takes passed from (length values) (each values) sink i → i ≡ length values → passed from values sink
all_each_passed {passed = passed} {from = from} {sink = sink} values l e = subst (λ (ms : List ℕ). passed from ms sink) (all_each values) (all_passed l e)

-- ---- numbers at the front of a buffer

pub in_front_lem : {before after : List ℕ} {next : ℕ} {numbers : List ℕ} → 0 + length (encode_all numbers) ≤ length before → Fills before after 0 next numbers
    → (next ≡ length (encode_all numbers)) × (after ≡ encode_all numbers ++ drop (length (encode_all numbers)) before)
in_front_lem {before} {after} {next} {numbers} h w = (
  w.next_is ∙ zero-add (length (encode_all numbers)),
  w.after_is ∙ sets-eq (encode_all numbers) before 0 h ∙ ap (λ (k : ℕ). encode_all numbers ++ drop k before) (zero-add (length (encode_all numbers))),
)
