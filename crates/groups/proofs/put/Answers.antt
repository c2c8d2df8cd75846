use Rattle.std.proofs.Common.{◌+◌, length, sym, ap, ◌∙◌, add-one, arith}
use Rattle.std.proofs.lemmas.List.Edits.{sets}
use Rattle.groups.proofs.Writing.{last, longer, some}
use Rattle.groups.proofs.put.Goals as goal

pub bounds-out-p : goal.bounds-out-p
bounds-out-p c = omega (arith, some c.loop-rest.invariant.0 c.loop-rest.rest)

pub loop-rest-preserved : goal.loop-rest-preserved
loop-rest-preserved c = let l = c.loop-rest in
    let (m, h) = longer l.invariant.0 l.rest c.loop-rest-test.true l.invariant.3 in (
      m,
      rw add-one (l.invariant.1 ∙ ap (sets l.out l.p) h.bytes),
      l.invariant.2 ∙ ap (λ xs. l.p + length xs) h.bytes ∙ omega arith,
      h.below,
    )

pub bounds-out-p-2 : goal.bounds-out-p-2
bounds-out-p-2 c = omega (arith, some c.loop-rest.invariant.0 c.loop-rest.rest)

pub returns : goal.returns
returns c = let l = c.loop-rest in
    let e = last l.invariant.0 l.rest c.loop-rest-test.false in
    (sym (l.invariant.2 ∙ ap (λ xs. l.p + length xs) e), sym (l.invariant.1 ∙ ap (sets l.out l.p) e))
