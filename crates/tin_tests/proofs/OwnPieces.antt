-- The piece of a segment that a triangle has, by the slice of the segment, or by the point where both ends are one.
use Rattle.std.proofs.Common.{◌≡◌, ◌≢◌, ◌<◌, length, refl}
use Rattle.frac128.specs.Fractions.{IsBelow}
use Rattle.plane_base.specs.Plane.{whole}
use Rattle.plane_base.specs.declared.stretches.Stretch.{Stretch}
use Rattle.tin_base.specs.declared.frames.Frame.TheVariants.{Source}
use Rattle.tin_base.specs.declared.pieces.Piece.{Piece}
use Rattle.tin_base.specs.Triangulation.{Triangulation, IsInTriangle}
use Rattle.tin_base.specs.Limits.{IsWithinLimits}
use Rattle.tin_base.specs.Slices.{spot_of, IsSliceIn}
use Rattle.tin_base.specs.Segments.{at_a}
use Rattle.tin_base.specs.Pieces.{IsPiece}
use Rattle.tin_base.proofs.SegmentSpots.SlicedParts.{part_told}

pub part_piece : (tin : Triangulation) (piece : Piece) (s : Stretch) → IsWithinLimits tin
    → piece.tri < length tin.triangles → piece.a ≢ piece.b → IsSliceIn tin piece.a piece.b piece.tri s
    → IsBelow s.lo s.hi → IsPiece tin piece
part_piece tin piece s limits ht differ told order = (
  record { triangle = piece.tri; first = spot_of s.lo; last = spot_of s.hi },
  record {
    triangle = refl;
    of_point = λ e. absurd (differ e);
    of_segment = λ _. part_told tin piece.a piece.b piece.tri s limits ht told order;
  },
)

pub point_piece : (tin : Triangulation) (piece : Piece) → piece.tri < length tin.triangles → piece.a ≡ piece.b
    → IsInTriangle tin Source piece.tri (whole piece.a) → IsPiece tin piece
point_piece tin piece ht same has = (
  record { triangle = piece.tri; first = at_a; last = at_a },
  record {
    triangle = refl;
    of_point = λ _. record { in_range = ht; has_point = has; begins = refl; ends = refl };
    of_segment = λ differ. absurd (differ same);
  },
)
