-- Answers to the goals of `first_in_order` in src/searches.rt.
use Rattle.std.proofs.Common.{arith}
use Rattle.tin_check.proofs.PairFits.Partners.{near_in_range, others_fit}
use Rattle.tin_check.proofs.PairFits.InBoxes.{box_ordered}
use Rattle.tin_check.proofs.CallerLemmas.Progress.{fit_below}
use Rattle.tin_check.proofs.searches.first_in_order.Goals as goal

pub near-requires : goal.near-requires
near-requires c = let is = c.box_in.ensures in box_ordered is.tri c.box_in.result is.is

pub first_unfit-requires-clause-in_range : goal.first_unfit-requires-clause-in_range
first_unfit-requires-clause-in_range c = near_in_range c.args.tin.now c.args.frame c.args.grid.now.boxes c.box_in.result
    c.in_ok-near.near.items c.deref.result.now c.requires.boxes c.in_ok-near.ensures c.deref.ensures.value

pub first_unfit-requires-clause-others : goal.first_unfit-requires-clause-others
first_unfit-requires-clause-others c =
    others_fit c.args.tin.now c.args.frame c.args.grid.now.boxes c.loop-first.first c.box_in.result
    c.in_ok-near.near.items c.deref.result.now
    c.boxes_share_a_point_or_are_apart.ensures c.requires.boxes c.box_in.ensures c.in_ok-near.ensures
    c.deref.ensures.value

pub returns : goal.returns
returns c = fit_below c.args.tin.now c.args.frame c.loop-first.first c.args.end (omega arith) c.loop-first.invariant
