-- Answers to the goals of `is_corner_in_reach` in src/within_limits.rt.
use Rattle.tin_base.specs.declared.frames.Frame.TheVariants.{Source}
use Rattle.tin_base.specs.Limits.{IsCornerInReach}
use Rattle.tin_base.proofs.TriangleLemmas.TestAnswers.{no, denied, told}
use Rattle.tin_base.proofs.LimitLemmas.{both_told}
use Rattle.tin_base.proofs.within_limits.is_corner_in_reach.Goals as goal

pub returns-then-not-is_place_in_reach : goal.returns-then-not-is_place_in_reach
returns-then-not-is_place_in_reach c = no (λ h. denied c.if-not-is_place_in_reach.ensures (h Source))

pub returns : goal.returns
returns c = both_told (λ frame. IsCornerInReach frame c.args.corner.now) c.is_place_in_reach-2.result
    (told c.if-not-is_place_in_reach.ensures) c.is_place_in_reach-2.ensures
