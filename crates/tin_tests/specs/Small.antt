-- Points near the origin, as the tests take them.
use Rattle.std.specs.Prelude.{◌≤◌, unsigned_abs}
use Rattle.plane_base.specs.declared.shapes.Pt.{Pt}
use Rattle.tin_base.specs.declared.pieces.Piece.{Piece}
use Rattle.tin_base.specs.Triangulation.{Triangulation}
use Rattle.tin_base.specs.Pieces.{IsPieceInside}

-- both numbers are small
pub record IsSmall (p : Pt) : Type 0 where
  pub x : unsigned_abs p.x ≤ 32768
  pub y : unsigned_abs p.y ≤ 32768

-- the rounded images are
pub record IsSmallPiece (piece : Piece) : Type 0 where
  pub ia : IsSmall piece.ia
  pub ib : IsSmall piece.ib

-- the piece is one that the tests compare
abbrev pub IsTried : Triangulation → Piece → Type 0
IsTried tin piece = IsPieceInside tin piece × IsSmallPiece piece
