-- Answers to the goals of `are_beside` in src/within_limits.rt.
use Rattle.tin_base.specs.declared.frames.Frame.TheVariants.{Source}
use Rattle.tin_base.proofs.TriangleLemmas.TestAnswers.{no, denied, told}
use Rattle.tin_base.proofs.LimitLemmas.{beside_told}
use Rattle.tin_base.proofs.within_limits.are_beside.Goals as goal

pub returns-then-not-are_near : goal.returns-then-not-are_near
returns-then-not-are_near c = no (λ h. denied c.if-not-are_near.ensures (h.1 Source))

pub returns : goal.returns
returns c = beside_told c.args.c.now c.args.d.now c.are_near-2.result (denied c.if-is_same.ensures)
    (told c.if-not-are_near.ensures) c.are_near-2.ensures
