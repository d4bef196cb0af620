-- Answers to the goals of `rings_fit` in src/premises.rt.
use Rattle.change_places.specs.Words.{ring_words}
use Rattle.change_places.specs.Laws.{IsRingHeld}
use Rattle.change_places.proofs.MoreElements.{all_more}
use Rattle.change_places.proofs.premises.rings_fit.Goals as goal

pub loop-ring-preserved : goal.loop-ring-preserved
loop-ring-preserved c =
    all_more (λ ring. IsRingHeld (ring_words c.args.texts.now ring)) c.args.rings.now c.loop-ring.ring-index _
    c.loop-ring-test.true c.loop-ring.invariant c.ring_fits.ensures
