-- The invariant of the loop of `is_clear_along` in src/trees.rt.
use Rattle.std.proofs.Common.{drop}
use Rattle.ring_side.specs.Rings.{chain}
use Rattle.ring_side.specs.InsideClear.{AreSegmentsApart}
use Rattle.ring_side.proofs.trees.is_clear_along.Given as goal

abbrev pub invariant-loop-to : goal.invariant-loop-to
invariant-loop-to l = AreSegmentsApart l.rect (chain l.from (drop l.to-index l.points))
    → AreSegmentsApart l.rect (chain l.initial.from l.points)
