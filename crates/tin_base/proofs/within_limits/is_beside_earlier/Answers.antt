-- Answers to the goals of `is_beside_earlier` in src/within_limits.rt.
use Rattle.std.proofs.Common.{ℕ, get_or}
use borrow.Author.Count.{below_more}
use Rattle.tin_base.specs.Triangulation.{no_corner}
use Rattle.tin_base.proofs.TriangleLemmas.TestAnswers.{told}
use Rattle.tin_base.specs.InsideLimits.{AreBeside}
use Rattle.tin_base.proofs.within_limits.is_beside_earlier.Goals as goal

pub loop-m-preserved : goal.loop-m-preserved
loop-m-preserved c = below_more (λ (k : ℕ). AreBeside (get_or c.args.corners.now k no_corner)
    (get_or c.args.corners.now c.args.n no_corner)) c.loop-m.m c.loop-m.invariant (told c.if-not-are_beside.ensures)
