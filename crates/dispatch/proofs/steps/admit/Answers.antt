use mathlib.Core.Path.{refl, ◌∙◌}
use native.Mathlib.Omega.{arith}
use borrow.Author.Tests.{eq-eqb, ne_eqb}
use Rattle.records.proofs.laws.Fields.{Long}
use Rattle.records.proofs.laws.InRange.{range_fields}
use Rattle.dispatch.specs.laws.Admitting.{admits_by, begins, scan_is, stays}
use Rattle.dispatch.specs.laws.Updates.{filling_none}
use borrow.Author.Rules.{rules}
use Rattle.dispatch.proofs.steps.admit.Goals as goal
use Rattle.dispatch.proofs.steps.admit.Goals.{then-let_in-i-eq1, else-let_in-i-eq1}

pub loop-i-init : goal.loop-i-init
loop-i-init c =
    let long : Long c.args.held = search rules in
    (search rules, filling_none _ _ refl refl, scan_is c.args.held c.args.asked _ c.let_in-let_in.ensures, c.requires, long)

pub loop-i-preserved : goal.loop-i-preserved
loop-i-preserved c = let l = c.loop-i in
    let at = l.invariant in (
      search rules,
      elim c.if-let_in-i-eq1.branch [
        | then-let_in-i-eq1 w ↦ w.held-is ∙ begins _ _ _ l.i at.2 (omega arith) l.held at.1 (eq-eqb _ 1 w.if-let_in-i-eq1.true)
        | else-let_in-i-eq1 w ↦ w.held-is ∙ stays _ _ _ l.i at.2 (omega arith) l.held at.1 at.4 (range_fields _ at.4 at.3) (ne_eqb _ 1 w.if-let_in-i-eq1.false)
      ],
      at.2,
      at.3,
      at.4,
    )

pub returns : goal.returns
returns c = let l = c.loop-i in
    admits_by _ l.invariant.4 (range_fields _ l.invariant.4 l.invariant.3) _ _ l.i l.held l.invariant.2 (omega arith) l.invariant.1
