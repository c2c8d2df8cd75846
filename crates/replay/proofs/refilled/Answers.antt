use Rattle.std.proofs.Common.{◌≡◌, ℕ, ◌-◌, ◌≤◌, List, ◌++◌, length, take, slice_range, rules, arith, ap, ◌∙◌}
use Rattle.std.specs.List.{copy_within}
use Rattle.std.proofs.lemmas.List.{length-drop}
use Rattle.std.proofs.lemmas.Slice.{overwrites}
use Rattle.show.proofs.Filling.{take-filled}
use Rattle.replay.proofs.refilled.Goals as goal

-- What was moved to the front stands there.
take-copy_within : (i j : ℕ) (xs : List ℕ) → i ≤ j → j ≤ length xs → take (j - i) (copy_within xs i j 0) ≡ slice_range xs i j
take-copy_within i j xs order within = grind (arith, overwrites, length-drop)

pub returns-clause-bytes : goal.returns-clause-bytes
returns-clause-bytes g c =
    let kept = c.args.left.end - c.args.left.start in
    let front = ap (take kept) c.copy_within.ensures.after ∙ take-copy_within c.args.left.start c.args.left.end c.args.buffer.now (omega arith) (omega arith) in
    let filled = take-filled kept _ c.in_ok-more.more c.copy_within.new.self c.read_full.new.buffer (search rules) (search rules) in
    (take c.in_ok-more.more c.read_full.new.buffer, filled ∙ ap (λ l. l ++ take c.in_ok-more.more c.read_full.new.buffer) front, c.in_ok-more.ensures.bytes)
