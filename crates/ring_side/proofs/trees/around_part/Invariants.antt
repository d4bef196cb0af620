-- The invariant of the loop of `around_part` in src/trees.rt.
use Rattle.std.proofs.Common.{take}
use Rattle.plane_base.specs.Boxes.{HasPoint}
use Rattle.ring_side.specs.InsideParts.{HasAll, before_of}
use Rattle.ring_side.proofs.trees.around_part.Given as goal

abbrev pub invariant-loop-p : goal.invariant-loop-p
invariant-loop-p l = HasPoint l.around (before_of l.ring l.first) × HasAll l.around (take l.p-index l.part)
