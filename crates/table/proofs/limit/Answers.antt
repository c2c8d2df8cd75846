-- `table::limit` meets its contract: the horizon and the sum of H/T, tested as the definition tests them. Assumes nothing.
use Rattle.std.proofs.Common.{◌≡◌, ◌∙◌, sym, ap, rules, Err}
use Rattle.table.proofs.Ranges.{limit_far, limit_crowded, limit_read, horizon_small}
use Rattle.table.proofs.limit.Goals as goal

pub returns-in_err-horizon : goal.returns-in_err-horizon
returns-in_err-horizon c =
    let far : c.from_residual.result ≡ Err c.whole.result = search rules in
    far ∙ ap Err c.whole.ensures ∙ limit_far _ (sym c.in_err-horizon.ensures.ok_part ∙ c.horizon.ensures)

pub jobs_within-requires : goal.jobs_within-requires
jobs_within-requires c = (c.requires, horizon_small c.args.table.now (sym c.in_ok-horizon.ensures.ok_part ∙ c.horizon.ensures))

pub returns-then-jobs_within-gt-JOBS_MOST : goal.returns-then-jobs_within-gt-JOBS_MOST
returns-then-jobs_within-gt-JOBS_MOST c =
    let crowded = limit_crowded _ (sym c.in_ok-horizon.ensures.ok_part ∙ c.horizon.ensures) c.jobs_within.ensures c.if-jobs_within-gt-JOBS_MOST.true in
    rw c.whole-then-jobs_within-gt-JOBS_MOST.ensures crowded

pub returns : goal.returns
returns c = limit_read _ (sym c.in_ok-horizon.ensures.ok_part ∙ c.horizon.ensures) c.jobs_within.ensures c.if-jobs_within-gt-JOBS_MOST.false
