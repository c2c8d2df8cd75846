-- A buffer that is filled part by part. Assumes nothing.
use Rattle.std.proofs.Common.{◌≡◌, ℕ, ◌+◌, ◌≤◌, List, ◌++◌, length, take, drop, ap, ◌∙◌, le_refl, drop_at, length-take-le}
use Rattle.std.proofs.lemmas.Slice.{take-put_mid_below}
use borrow.Rule.Slice.PartMut.{put_mid, post_of}
use lib.Seq.{take-add, take-append-le}

-- xs holds a bytes, and ys was read into what is behind them: with n bytes of ys it holds a + n
pub take-filled : (a k n : ℕ) (xs ys : List ℕ) → a ≤ length xs → n ≤ length ys → take (a + n) (put_mid a k xs ys) ≡ take a xs ++ take n ys
take-filled a k n xs ys within fits =
    let put = put_mid a k xs ys in
    let after = post_of a k xs in
    take-add a n put ∙
    ap (λ l. l ++ take n (drop a put)) (take-put_mid_below a k xs ys a (le_refl a) within) ∙
    ap (λ l. take a xs ++ take n l) (drop_at (take a xs) (ys ++ after) a (length-take-le a xs within)) ∙
    ap (λ l. take a xs ++ l) (take-append-le n ys after fits)
