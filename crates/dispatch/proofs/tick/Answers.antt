-- `tick` meets its contract: the range, then the four steps. Assumes nothing.
use Rattle.dispatch.specs.laws.Follows.{entered_most, ticks_by}
use borrow.Author.Rules.{rules}
use Rattle.dispatch.proofs.tick.Goals as goal

pub admit-admitted-requires : goal.admit-admitted-requires
admit-admitted-requires c = c.taken-held.ensures.range

pub answered-answer-requires : goal.answered-answer-requires
answered-answer-requires c = entered_most _ _ _ _ (search rules) c.admit-admitted.ensures

pub returns : goal.returns
returns c = ticks_by c.args.given c.taken-held.result c.taken-held.ensures.is c.taken-held.ensures.long c.taken-held.ensures.range c.args.mask c.args.flag c.ranges.mask.fits _ _ _ _ _ _ _
    c.admit-admitted.ensures c.pick.ensures c.work-worked.ensures c.elapse-next.ensures c.answered-answer.ensures
