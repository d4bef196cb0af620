-- The pieces of segments as a run lists them: each with its segment's ends, its triangle, and the rounded images of its
-- own ends.
use Rattle.std.specs.Prelude.{◌≡◌, ◌≢◌, ◌<◌, length}
use Rattle.plane_base.specs.Plane.{Point, whole}
use Rattle.tin_base.specs.declared.frames.Frame.TheVariants.{Source}
use Rattle.tin_base.specs.declared.pieces.Piece.{Piece}
use Rattle.tin_base.specs.Triangulation.{Triangulation, IsInTriangle}
use Rattle.tin_base.specs.Images.{IsInSome}
use Rattle.tin_base.specs.Segments.{Part, at_a, spot_at, IsPart}

-- the piece of a segment from a point to itself: the point, which its triangle has
pub record IsPointPiece (tin : Triangulation) (piece : Piece) (part : Part) : Type 0 where
  pub in_range : piece.tri < length tin.triangles
  pub has_point : IsInTriangle tin Source piece.tri (whole piece.a)
  pub begins : part.first ≡ at_a
  pub ends : part.last ≡ at_a

-- the part of the piece's segment that its triangle has
pub record IsPieceOf (tin : Triangulation) (piece : Piece) (part : Part) : Type 0 where
  pub triangle : part.triangle ≡ piece.tri
  pub of_point : piece.a ≡ piece.b → IsPointPiece tin piece part
  pub of_segment : piece.a ≢ piece.b → IsPart tin piece.a piece.b piece.tri part.first part.last

-- the exact first and last point of the piece
abbrev pub first_point : Piece → Part → Point
first_point piece part = spot_at piece.a piece.b part.first

abbrev pub last_point : Piece → Part → Point
last_point piece part = spot_at piece.a piece.b part.last

-- it is a piece of some segment's
abbrev pub IsPiece : Triangulation → Piece → Type 0
IsPiece tin piece = (part : Part) × IsPieceOf tin piece part

-- a piece of a segment whose two ends are in source triangles
pub record IsPieceInside (tin : Triangulation) (piece : Piece) : Type 0 where
  pub is_piece : IsPiece tin piece
  pub begins : IsInSome tin Source (whole piece.a)
  pub ends : IsInSome tin Source (whole piece.b)
