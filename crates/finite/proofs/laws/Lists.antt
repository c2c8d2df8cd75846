-- The laws of lists given place by place, of lists that a loop fills from the front, one place a turn, and of tests of every place.
-- Assumes nothing.
use Rattle.std.specs.Prelude.{◌≡◌, Bool, true, ◌&&◌, ◌⊎◌, length, get_or, set}
use Rattle.std.proofs.Math.Path.{refl, sym, ap}
use Rattle.std.proofs.Common.{ap₂, ◌∙◌, inl, inr, eq-or-lt_of_le, get_or-set_same, ext_get_or}
use Rattle.std.proofs.Math.Logic.{⊎_elim}
use mathlib.Core.List.{List, [], ◌∷◌, ◌++◌, append_assoc, append-nil}
use Prim.Native.Nat.{ℕ, zero, suc, ◌+◌, ◌≤◌, ◌<◌}
use Rattle.std.proofs.Math.Numerals.{add-one}
use native.Mathlib.Omega.{arith}
use Rattle.std.proofs.Math.ListN.{length-set, length-append, get_or-append}
use Rattle.std.proofs.Math.Seq.{get_or-set_other, get_or_at}
use Rattle.finite.specs.Finite.{all_to, join_to, list_to}

-- an index below n + 1 is n or below n
pub last_or_below : {k n : ℕ} → k < suc n → (k ≡ n) ⊎ (k < n)
last_or_below {k} {n} h = eq-or-lt_of_le (omega arith)

module _ {A : Type 0} where
  -- a with f 0, .., f (i - 1) put at its first i places
  unfoldable pub filled : ℕ → (ℕ → A) → List A → List A
  filled zero f a = a
  filled (suc i) f a = set (filled i f a) i (f i)

  pub length_list : (n : ℕ) (f : ℕ → A) → length (list_to n f) ≡ n
  unfolding list_to
  length_list zero f = refl
  length_list (suc n) f = length-append (list_to n f) (f n ∷ []) ∙ omega (arith, length_list n f)

  pub get_or_list : (n : ℕ) (f : ℕ → A) (k : ℕ) (d : A) → k < n → get_or (list_to n f) k d ≡ f k
  unfolding list_to
  get_or_list zero f k d h = absurd (omega arith)
  get_or_list (suc n) f k d h =
      ⊎_elim
      (λ e. get_or_at (list_to n f) (f n) [] d k (length_list n f ∙ sym e) ∙ ap f (sym e))
      (λ l. get_or-append (list_to n f) (f n ∷ []) d k (omega (arith, length_list n f)) ∙ get_or_list n f k d l)
      (last_or_below h)

  pub length_filled : (i : ℕ) (f : ℕ → A) (a : List A) → length (filled i f a) ≡ length a
  unfolding filled
  length_filled zero f a = refl
  length_filled (suc i) f a = length-set (filled i f a) i (f i) ∙ length_filled i f a

  -- the places not yet reached are as they were
  pub filled_rest : (i : ℕ) (f : ℕ → A) (a : List A) (k : ℕ) (d : A) → i ≤ k → get_or (filled i f a) k d ≡ get_or a k d
  unfolding filled
  filled_rest zero f a k d h = refl
  filled_rest (suc i) f a k d h = get_or-set_other (filled i f a) i k (f i) d (omega arith) ∙ filled_rest i f a k d (omega arith)

  pub filled_done : (i : ℕ) (f : ℕ → A) (a : List A) (k : ℕ) (d : A) → k < i → i ≤ length a → get_or (filled i f a) k d ≡ f k
  unfolding filled
  filled_done zero f a k d h l = absurd (omega arith)
  filled_done (suc i) f a k d h l =
      ⊎_elim
      (λ e. rw e (get_or-set_same (filled i f a) i (f i) d (omega (arith, length_filled i f a))))
      (λ b. get_or-set_other (filled i f a) i k (f i) d (omega arith) ∙ filled_done i f a k d b (omega arith))
      (last_or_below h)

  -- a list as long as what was filled in is that
  pub filled_all : (n : ℕ) (f : ℕ → A) (a : List A) (d : A) → length a ≡ n → filled n f a ≡ list_to n f
  filled_all n f a d e =
      ext_get_or d (filled n f a) (list_to n f)
      (length_filled n f a ∙ e ∙ sym (length_list n f))
      (λ i h.
      let l : i < n = omega (arith, length_filled n f a) in
      filled_done n f a i d l (omega arith) ∙ sym (get_or_list n f i d l))

  -- one turn of a loop that fills
  pub filled_more : (i : ℕ) (f : ℕ → A) (a b : List A) (v : A) → b ≡ filled i f a → v ≡ f i → set b i v ≡ filled (i + 1) f a
  unfolding filled
  filled_more i f a b v e g = rw (add-one, e, g)

  pub filled_none : (f : ℕ → A) (a : List A) → a ≡ filled 0 f a
  unfolding filled
  filled_none f a = refl

  -- the end of a loop that fills
  pub filled_end : (i n : ℕ) (f : ℕ → A) (a b : List A) (d : A) → i ≡ n → b ≡ filled i f a → length a ≡ n → b ≡ list_to n f
  filled_end i n f a b d e g l = g ∙ ap (λ (k : ℕ). filled k f a) e ∙ filled_all n f a d l

  -- two lists given alike place by place
  pub list_alike : (n : ℕ) (f g : ℕ → A) → ((k : ℕ) → k < n → f k ≡ g k) → list_to n f ≡ list_to n g
  unfolding list_to
  list_alike zero f g h = refl
  list_alike (suc n) f g h = rw (list_alike n f g (λ k l. h k (omega arith)), h n (omega arith))

  -- a list is given by its own places
  pub list_of : (n : ℕ) (a : List A) (d : A) → length a ≡ n → list_to n (λ k. get_or a k d) ≡ a
  list_of n a d e =
      ext_get_or d (list_to n (λ k. get_or a k d)) a
      (length_list n (λ k. get_or a k d) ∙ sym e)
      (λ i h. get_or_list n (λ k. get_or a k d) i d (omega (arith, length_list n (λ k. get_or a k d))))

  -- a list that has at each of its n places what f gives there
  pub list_by_place : (n : ℕ) (f : ℕ → A) (a : List A) (d : A) → length a ≡ n → ((k : ℕ) → k < n → get_or a k d ≡ f k) → a ≡ list_to n f
  list_by_place n f a d e h = sym (list_of n a d e) ∙ list_alike n (λ k. get_or a k d) f h

-- ---- lists one after the other

module _ {A : Type 0} where
  -- one list more
  pub join_more : (n : ℕ) (f : ℕ → List A) → join_to (n + 1) f ≡ join_to n f ++ f n
  unfolding join_to
  join_more n f = rw add-one

  -- two joins of lists that are alike
  pub join_alike : (n : ℕ) (f g : ℕ → List A) → ((k : ℕ) → k < n → f k ≡ g k) → join_to n f ≡ join_to n g
  unfolding join_to
  join_alike zero f g h = refl
  join_alike (suc n) f g h = rw (join_alike n f g (λ k l. h k (omega arith)), h n (omega arith))

  -- a list given place by place, as lists of one
  pub list_join : (n : ℕ) (f : ℕ → A) → list_to n f ≡ join_to n (λ k. f k ∷ [])
  unfolding list_to join_to
  list_join zero f = refl
  list_join (suc n) f = rw (list_join n f)

  -- the first of them in front of the others
  pub join_first : (n : ℕ) (f : ℕ → List A) → join_to (suc n) f ≡ f 0 ++ join_to n (λ k. f (suc k))
  unfolding join_to
  join_first zero f = sym (append-nil (f 0))
  join_first (suc n) f = ap (λ (l : List A). l ++ f (suc n)) (join_first n f) ∙ append_assoc (f 0) (join_to n (λ k. f (suc k))) (f (suc n))

  -- the same of those from place k on
  pub join_from : (n k : ℕ) (f : ℕ → List A) → join_to (suc n) (λ j. f (k + j)) ≡ f k ++ join_to n (λ j. f (k + 1 + j))
  join_from n k f =
      let here : k + 0 ≡ k = omega arith in
      join_first n (λ j. f (k + j))
      ∙ ap₂ (λ (x : List A) (y : List A). x ++ y) (ap f here) (join_alike n (λ j. f (k + suc j)) (λ j. f (k + 1 + j)) (λ j l. ap f (next j)))
    where
      next : (j : ℕ) → k + suc j ≡ k + 1 + j
      next j = omega arith

  -- the first i of them in front of the others
  pub join_part : (i n : ℕ) (f : ℕ → List A) → i ≤ n → (rest : List A) × (join_to n f ≡ join_to i f ++ rest)
  unfolding join_to
  join_part i zero f h = let none : i ≡ 0 = omega arith in ([], ap (λ (k : ℕ). join_to k f) (sym none) ∙ sym (append-nil (join_to i f)))
  join_part i (suc n) f h = go (eq-or-lt_of_le h) (λ l. join_part i n f l)
    where
      go : (i ≡ suc n) ⊎ (i < suc n) → (i ≤ n → (rest : List A) × (join_to n f ≡ join_to i f ++ rest)) → (rest : List A) × (join_to (suc n) f ≡ join_to i f ++ rest)
      go (inl e) shorter = ([], ap (λ (k : ℕ). join_to k f) (sym e) ∙ sym (append-nil (join_to i f)))
      go (inr l) shorter =
          let p = shorter (omega arith) in
          (p.0 ++ f n, ap (λ (r : List A). r ++ f n) p.1 ∙ append_assoc (join_to i f) p.0 (f n))

-- ---- a loop that tests every place

pub all_none : (p : ℕ → Bool) → true ≡ all_to 0 p
unfolding all_to
all_none p = refl

pub all_more : (i : ℕ) (p : ℕ → Bool) (b v : Bool) → b ≡ all_to i p → v ≡ (b && p i) → v ≡ all_to (i + 1) p
unfolding all_to
all_more i p b v e f = f ∙ rw (add-one, e)
