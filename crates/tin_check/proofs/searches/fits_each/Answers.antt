-- Answers to the goals of `fits_each` in src/searches.rt.
use Rattle.tin_base.proofs.TriangleLemmas.TestAnswers.{told}
use Rattle.tin_check.proofs.PairFits.Partners.{one_more_other, all_others}
use Rattle.tin_check.proofs.searches.fits_each.Goals as goal

pub loop-other-preserved : goal.loop-other-preserved
loop-other-preserved c = one_more_other c.args.tin.now c.args.frame c.args.triangle c.args.others.now
    c.loop-other.other-index c.loop-other.invariant (told c.if-not-pair_fits.ensures)

pub returns : goal.returns
returns c = λ yes. all_others c.args.tin.now c.args.frame c.args.triangle c.args.others.now c.loop-other.other-index
    c.loop-other-test.false c.loop-other.invariant
