-- Answers to the goals of `do_all_fit` in src/searches.rt.
use Rattle.std.proofs.Common.{refl, arith}
use Rattle.tin_check.proofs.PairFits.Partners.{partners_in_range, more_partners, all_partners_fit}
use Rattle.tin_check.proofs.searches.do_all_fit.Goals as goal

pub fits_each-requires-clause-others : goal.fits_each-requires-clause-others
fits_each-requires-clause-others c =
    partners_in_range c.args.tin.now c.args.frame c.args.grid.now c.loop-triangle.triangle
    c.partners.new.found.items c.deref.result.now c.requires.boxes c.in_ok-partners.ensures c.deref.ensures.value

pub loop-triangle-preserved : goal.loop-triangle-preserved
loop-triangle-preserved c =
    more_partners c.args.tin.now c.args.frame c.args.grid.now c.loop-triangle.triangle c.partners.new.found.items
    c.deref.result.now c.loop-triangle.invariant c.in_ok-partners.ensures c.deref.ensures.value
    (c.if-not-fits_each.ensures refl)

pub returns : goal.returns
returns c = λ yes.
    all_partners_fit c.args.tin.now c.args.frame c.args.grid.now c.loop-triangle.triangle
    c.boxes_share_a_point_or_are_apart.ensures c.each_pair_is_told_once.ensures c.requires.positive c.requires.boxes
    (omega arith) c.loop-triangle.invariant
