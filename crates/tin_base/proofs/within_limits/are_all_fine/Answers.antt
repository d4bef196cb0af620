-- Answers to the goals of `are_all_fine` in src/within_limits.rt.
use Rattle.std.proofs.Common.{ℕ, get_or}
use borrow.Author.Count.{below_more}
use Rattle.tin_base.specs.declared.frames.Frame.{Frame}
use Rattle.tin_base.specs.Triangulation.{no_corner}
use Rattle.tin_base.specs.Limits.{IsCornerInReach}
use Rattle.tin_base.proofs.TriangleLemmas.TestAnswers.{denied, told, no, yes}
use Rattle.tin_base.specs.InsideLimits.{IsBesideFirst}
use Rattle.tin_base.proofs.LimitLemmas.{at_end}
use Rattle.tin_base.proofs.within_limits.are_all_fine.Goals as goal

pub returns-then-not-is_corner_in_reach : goal.returns-then-not-is_corner_in_reach
returns-then-not-is_corner_in_reach c = no
    (λ all. denied c.if-not-is_corner_in_reach.ensures (all c.loop-n.n c.loop-n-test.true).0)

pub returns-then-not-is_beside_earlier : goal.returns-then-not-is_beside_earlier
returns-then-not-is_beside_earlier c = no (λ all. denied c.if-not-is_beside_earlier.ensures
    (all c.loop-n.n c.loop-n-test.true).1)

pub loop-n-preserved : goal.loop-n-preserved
loop-n-preserved c =
    let corners = c.args.corners.now in
    below_more (λ (k : ℕ). ((frame : Frame) → IsCornerInReach frame (get_or corners k no_corner))
    × IsBesideFirst corners k k) c.loop-n.n c.loop-n.invariant
    (told c.if-not-is_corner_in_reach.ensures, told c.if-not-is_beside_earlier.ensures)

pub returns : goal.returns
returns c = yes (at_end c.args.corners.now c.loop-n.n c.loop-n-test.false c.loop-n.invariant)
