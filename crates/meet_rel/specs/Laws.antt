-- The laws of relations.
use Rattle.std.specs.Prelude.{◌≡◌, ◌↔◌, pos, ◌<ℤ◌}
use Rattle.plane_base.specs.Plane.{Point}
use Rattle.tin_base.specs.declared.pieces.Piece.{Piece}
use Rattle.tin_base.specs.declared.relations.Rel.{Rel}
use Rattle.tin_base.specs.Triangulation.{Triangulation}
use Rattle.tin_base.specs.Soundness.{IsSound}
use Rattle.tin_base.specs.Images.{IsImage}
use Rattle.tin_base.specs.Segments.{Part}
use Rattle.tin_base.specs.Pieces.{IsPieceOf, first_point, last_point}
use Rattle.tin_base.specs.Relations.{HaveRelation}

-- two segments, of points with denominators, have one relation at most
abbrev pub RelationsAreExclusive : Type 0
RelationsAreExclusive = (p q e f : Point) (first second : Rel) → HaveRelation first p q e f
    → HaveRelation second p q e f → first ≡ second

-- exact images of the first and of the last point of a piece
pub record AreImages (tin : Triangulation) (piece : Piece) (part : Part) (first last : Point) : Type 0 where
  pub first_positive : pos 0 <ℤ first.w
  pub last_positive : pos 0 <ℤ last.w
  pub of_first : IsImage tin (first_point piece part) first
  pub of_last : IsImage tin (last_point piece part) last

-- the exact pieces have the relation that the segments between the exact images of their ends have
pub record HaveRelationOfImages (p q : Piece) (s t : Part) (a b c d : Point) : Type 0 where
  pub kept : (relation : Rel) → HaveRelation relation (first_point p s) (last_point p s) (first_point q t)
      (last_point q t) ↔ HaveRelation relation a b c d

-- For each sound triangulation: two pieces, in one triangle or in two, have the relation that their exact images have
abbrev pub PiecesKeepRelations : Type 0
PiecesKeepRelations =
    (tin : Triangulation) → IsSound tin → (p q : Piece) (s t : Part) → IsPieceOf tin p s → IsPieceOf tin q t
    → (a b c d : Point) → AreImages tin p s a b → AreImages tin q t c d → HaveRelationOfImages p q s t a b c d
