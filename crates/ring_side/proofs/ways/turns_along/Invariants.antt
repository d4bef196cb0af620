-- The invariant of the loop of `turns_along` in src/ways.rt.
use Rattle.std.proofs.Common.{◌≡◌, ◌+ℤ◌, ◌≤◌, ◌*◌, ◌^◌, unsigned_abs, drop}
use Rattle.plane_base.specs.Plane.{IsNear}
use Rattle.ring_side.specs.Rings.{AreNearTo, chain}
use Rattle.ring_side.specs.InsideSides.{turns}
use Rattle.ring_side.proofs.ways.turns_along.Given as goal

abbrev pub invariant-loop-to : goal.invariant-loop-to
invariant-loop-to l = (l.sum +ℤ turns l.first (chain l.from (drop l.to-index l.points))
    ≡ turns l.first (chain l.first l.points)) × (unsigned_abs l.sum ≤ l.to-index * 2 ^ 63)
    × AreNearTo l.points l.first × AreNearTo l.points l.from × IsNear l.first l.from
