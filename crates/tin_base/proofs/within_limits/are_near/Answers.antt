-- Answers to the goals of `are_near` in src/within_limits.rt.
use Rattle.tin_base.proofs.LimitLemmas.{near_told}
use Rattle.tin_base.proofs.within_limits.are_near.Goals as goal

pub returns : goal.returns
returns c = near_told c.args.frame c.args.c.now c.args.d.now c.at.result c.at-2.result c.is_near.result c.at.ensures
    c.at-2.ensures c.is_near.ensures
