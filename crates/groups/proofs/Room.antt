-- The three answers of `groups::write`, by what decides them, and what each leaves. Assumes nothing.
use Prim.Native.Nat.{ℕ, ◌+◌, ◌^◌, ◌≤◌, ◌<◌}
use mathlib.Core.Path.{◌≡◌, sym, ap, ◌∙◌}
use mathlib.Core.List.{List}
use lib.ListN.{length}
use lib.Seq.{sets, sets-eq}
use borrow.Author.Tests.{le-leb, lt-leb, lt-ltb, le-ltb}
use Rattle.std.specs.Prelude.{Ok, Err}
use Rattle.groups.specs.declared.WriteError.TheVariants.{TooLarge, NoRoom}
use Rattle.groups.specs.Encode.{encode}
use Rattle.groups.specs.Write.{written_of, WritesNumber}

module _ (buffer : List ℕ) (at value : ℕ) where
  pub too_large : 2 ^ 56 ≤ value → written_of buffer at value ≡ Err TooLarge
  too_large h = rw (le-leb (2 ^ 56) value h)

  module _ (small : value < 2 ^ 56) where
    pub no_room : length buffer < at + length (encode value) → written_of buffer at value ≡ Err NoRoom
    no_room h = rw (lt-leb (2 ^ 56) value small, lt-ltb (length buffer) (at + length (encode value)) h)

    pub fits : at + length (encode value) ≤ length buffer → written_of buffer at value ≡ Ok (at + length (encode value))
    fits h = rw (lt-leb (2 ^ 56) value small, le-ltb (length buffer) (at + length (encode value)) h)

module _ {buffer : List ℕ} {at value : ℕ} where
  pub writes_it : {after : List ℕ} {next : ℕ} → value < 2 ^ 56 → at + length (encode value) ≤ length buffer → next ≡ at + length (encode value)
      → after ≡ sets buffer at (encode value) → WritesNumber buffer after at value (Ok next)
  writes_it small h e put = record { answer = ap Ok e ∙ sym (fits buffer at value small h); left = put ∙ sets-eq (encode value) buffer at h }
