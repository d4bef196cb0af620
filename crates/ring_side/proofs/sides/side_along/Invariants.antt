-- The invariant of the loop of `side_along` in src/sides.rt.
use Rattle.std.proofs.Common.{◌≡◌, drop}
use Rattle.plane_base.specs.Plane.{IsNear}
use Rattle.ring_side.specs.Rings.{AreNearTo, chain}
use Rattle.ring_side.specs.InsideSides.{side_by_all, both}
use Rattle.ring_side.proofs.sides.side_along.Given as goal

abbrev pub invariant-loop-to : goal.invariant-loop-to
invariant-loop-to l = (both l.side (side_by_all l.p (chain l.from (drop l.to-index l.points)))
    ≡ side_by_all l.p (chain l.initial.from l.points)) × IsNear l.from l.p × AreNearTo l.points l.from
