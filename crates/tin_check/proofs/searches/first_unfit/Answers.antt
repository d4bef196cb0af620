-- Answers to the goals of `first_unfit` in src/searches.rt.
use Rattle.std.proofs.Common.{refl}
use Rattle.tin_check.proofs.CallerLemmas.Progress.{first_of_list, one_more_listed, one_more_first}
use Rattle.tin_check.proofs.searches.first_unfit.Goals as goal

pub returns-then-is_unfit : goal.returns-then-is_unfit
returns-then-is_unfit c =
    let i = c.loop-second.second-index in
    first_of_list c.args.tin.now c.args.frame c.args.first c.args.seconds.now i c.requires.in_order c.requires.before
    c.requires.others c.loop-second.invariant (c.requires.in_range i 0 c.loop-second-test.true)
    (c.if-is_unfit.ensures.behind refl) (c.if-is_unfit.ensures.not_fit refl)

pub loop-second-preserved : goal.loop-second-preserved
loop-second-preserved c = one_more_listed c.args.tin.now c.args.frame c.args.first c.args.seconds.now
    c.loop-second.second-index c.loop-second.invariant (c.if-is_unfit.ensures.fit refl)

pub returns : goal.returns
returns c = one_more_first c.args.tin.now c.args.frame c.args.first c.args.seconds.now c.loop-second.second-index
    c.loop-second-test.false c.requires.before c.requires.others c.loop-second.invariant
