-- The invariants of `read_vertices` in src/polylines.rt.
use Rattle.std.proofs.Common.{length, ◌-◌}
use Rattle.dxf_entities.specs.DrawingContents.{contents_of}
use Rattle.dxf_entities.proofs.Vertices.{AreReadTo}
use Rattle.dxf_entities.proofs.polylines.read_vertices.Given as goal

abbrev pub invariant-loop-at : goal.invariant-loop-at
invariant-loop-at l = AreReadTo l.bytes l.exact l.fields l.at (contents_of l.initial.drawing) (contents_of l.drawing)

abbrev pub decreases-loop-at : goal.decreases-loop-at
decreases-loop-at l = length l.fields - l.at
