-- The two sinks keep the laws of a sink. Assumes nothing.
use Rattle.std.proofs.Common.{ℕ, suc, ◌+◌, ◌≡◌, refl, ap, ap₂, sym, ◌∙◌, List, [], ◌∷◌, ◌++◌, length, arith, add-zero, append_assoc, append-nil, length-append}
use Rattle.std.proofs.lemmas.List.Edits.{sets}
use lib.Seq.{length-sets}
use Rattle.groups.specs.Encode.{encode, encode_all}
use Rattle.groups.specs.Sinks.{Counts, Countable, RoomFor, Fills}

-- the bytes of no numbers, and of numbers one behind the other
pub none : length (encode_all []) ≡ 0
unfolding encode_all
none = refl

pub encode_all_append : (ms ns : List ℕ) → encode_all (ms ++ ns) ≡ encode_all ms ++ encode_all ns
unfolding encode_all
encode_all_append [] ns = refl
encode_all_append (m ∷ ms) ns =
    ap (λ (l : List ℕ). encode m ++ l) (encode_all_append ms ns) ∙ sym (append_assoc (encode m) (encode_all ms) (encode_all ns))

pub encode_all_one : (n : ℕ) → encode_all (n ∷ []) ≡ encode n
unfolding encode_all
encode_all_one n = append-nil (encode n)

pub append : (ms ns : List ℕ) → length (encode_all (ms ++ ns)) ≡ length (encode_all ms) + length (encode_all ns)
append ms ns = rw encode_all_append (length-append (encode_all ms) (encode_all ns))

-- bytes behind one another
sets_append : (l : List ℕ) (i : ℕ) (xs ys : List ℕ) → sets l i (xs ++ ys) ≡ sets (sets l i xs) (i + length xs) ys
sets_append l i [] ys = ap (λ (k : ℕ). sets l k ys) (omega arith)
sets_append l i (x ∷ xs) ys = sets_append _ (suc i) xs ys ∙ ap (λ (k : ℕ). sets (sets l i (x ∷ xs)) k ys) (omega arith)

pub same_long : {before after : List ℕ} {at next : ℕ} {ns : List ℕ} → Fills before after at next ns → length after ≡ length before
same_long {before} {after} {at} {next} {ns} w = ap length w.after_is ∙ length-sets before at (encode_all ns)

pub counts_none : (bytes : ℕ) → Counts bytes bytes []
counts_none bytes = record { after_is = omega (arith, none) }

pub count_front : {bytes : ℕ} (ms ns : List ℕ) → Countable bytes (ms ++ ns) → Countable bytes ms
count_front ms ns f = record { most = omega (arith, f.most, append ms ns) }

pub count_rest : {bytes after : ℕ} (ms ns : List ℕ) → Counts bytes after ms → Countable bytes (ms ++ ns) → Countable after ns
count_rest ms ns w f = record { most = omega (arith, f.most, append ms ns, w.after_is) }

pub count_joined : {bytes between after : ℕ} (ms ns : List ℕ) → Counts bytes between ms → Counts between after ns → Counts bytes after (ms ++ ns)
count_joined ms ns v w = record { after_is = omega (arith, v.after_is, w.after_is, append ms ns) }

pub fills_none : (buffer : List ℕ) (at : ℕ) → Fills buffer buffer at at []
unfolding encode_all
fills_none buffer at = record { next_is = sym (add-zero at); after_is = refl }

pub fill_front : {buffer : List ℕ} {at : ℕ} (ms ns : List ℕ) → RoomFor buffer at (ms ++ ns) → RoomFor buffer at ms
fill_front ms ns f = record { most = omega (arith, f.most, append ms ns) }

pub fill_rest : {before after : List ℕ} {at next : ℕ} (ms ns : List ℕ) → Fills before after at next ms → RoomFor before at (ms ++ ns) → RoomFor after next ns
fill_rest ms ns w f = record { most = omega (arith, f.most, append ms ns, w.next_is, same_long w) }

pub fill_joined : {before between after : List ℕ} {at p next : ℕ} (ms ns : List ℕ) → Fills before between at p ms → Fills between after p next ns
    → Fills before after at next (ms ++ ns)
fill_joined {before} {between} {after} {at} {p} {next} ms ns v w = record {
  next_is = omega (arith, v.next_is, w.next_is, append ms ns);
  after_is = w.after_is
      ∙ ap₂ (λ (o : List ℕ) (k : ℕ). sets o k (encode_all ns)) v.after_is v.next_is
      ∙ sym (ap (λ (l : List ℕ). sets before at l) (encode_all_append ms ns) ∙ sets_append before at (encode_all ms) (encode_all ns));
}
