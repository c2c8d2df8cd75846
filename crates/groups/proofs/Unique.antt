-- What the contracts of `groups::read` and `groups::write` allow is one outcome: they are equations. Assumes nothing.
use Prim.Native.Nat.{ℕ}
use mathlib.Core.Path.{◌≡◌, sym, ap, ◌∙◌}
use mathlib.Core.List.{List}
use Rattle.std.specs.Prelude.{Result}
use Rattle.groups.specs.declared.Number.{Number}
use Rattle.groups.specs.declared.NumberError.{NumberError}
use Rattle.groups.specs.declared.WriteError.{WriteError}
use Rattle.groups.specs.Number.{number_at}
use Rattle.groups.specs.Write.{left_by, WritesNumber}

pub read_unique : (s : List ℕ) (at : ℕ) {r r' : Result Number NumberError} → r ≡ number_at s at → r' ≡ number_at s at → r ≡ r'
read_unique s at a b = a ∙ sym b

module _ {before after after' : List ℕ} {at value : ℕ} {r r' : Result ℕ WriteError} where
  pub write_unique : WritesNumber before after at value r → WritesNumber before after' at value r' → (r ≡ r') × (after ≡ after')
  write_unique a b =
      let e = a.answer ∙ sym b.answer in
      (e, a.left ∙ ap (λ (w : Result ℕ WriteError). left_by w before at value) e ∙ sym b.left)
