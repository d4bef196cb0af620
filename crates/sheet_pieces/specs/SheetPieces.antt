-- The pieces of the segments of sheets, each with the rounded images of its own ends.
use Rattle.std.specs.Prelude.{◌≡◌, ℕ, ◌+◌, List, [], ◌∷◌, ◌++◌}
use Rattle.plane_base.specs.declared.shapes.Pt.{Pt}
use Rattle.sheet_base.specs.Sheets.{Contents}
use Rattle.tin_base.specs.declared.pieces.Piece.{Piece}
use Rattle.tin_base.specs.declared.pieces.Place.{Place}
use Rattle.tin_base.specs.Triangulation.{Triangulation}
use Rattle.tin_base.specs.Segments.{Part, spot_at, IsInside, ArePiecesOf}
use Rattle.tin_base.specs.Pieces.{IsPieceOf, first_point, last_point}
use Rattle.affine_image.specs.RoundedImages.{IsRoundedImageAt}
use Rattle.sheet_pieces.specs.SheetSegments.{SheetSegment, sheet_segments}

-- ---- the pieces of one segment
-- the piece states a part of the segment from a to b: its triangle, the rounded images of its first and its last point,
-- and where it comes from
pub record IsTold (tin : Triangulation) (a b : Pt) (from : Place) (part : Part) (piece : Piece) : Type 0 where
  pub begins : piece.a ≡ a
  pub ends : piece.b ≡ b
  pub triangle : piece.tri ≡ part.triangle
  pub first_image : IsRoundedImageAt tin (spot_at a b part.first) piece.ia
  pub last_image : IsRoundedImageAt tin (spot_at a b part.last) piece.ib
  pub place : piece.from ≡ from

-- the place of the piece after that of this place
abbrev pub next_place : Place → Place
next_place from = record { layer = from.layer; path = from.path; segment = from.segment; piece = from.piece + 1 }

-- one piece for each part, in order, numbered on from this place
abbrev pub AreTold : Triangulation → Pt → Pt → Place → List Part → List Piece → Type 0
AreTold tin a b from [] [] = Unit {0}
AreTold tin a b from [] (piece ∷ pieces) = ⊥
AreTold tin a b from (part ∷ parts) [] = ⊥
AreTold tin a b from (part ∷ parts) (piece ∷ pieces) =
    IsTold tin a b from part piece × AreTold tin a b (next_place from) parts pieces

-- the place of a segment's first piece
abbrev pub first_place : ℕ → SheetSegment → Place
first_place layer segment = record { layer = layer; path = segment.path; segment = segment.number; piece = 0 }

-- the pieces of a segment of this layer, in order from its first end to its last
pub record ArePiecesOfSegment (tin : Triangulation) (layer : ℕ) (segment : SheetSegment) (pieces : List Piece) : Type 0
  where
    pub parts : List Part
    pub cut : ArePiecesOf tin segment.a segment.b parts
    pub told : AreTold tin segment.a segment.b (first_place layer segment) parts pieces

-- ---- the pieces of many
-- of segments of one layer: those of each segment, in order of the segments
abbrev pub ArePiecesOfAll : Triangulation → ℕ → List SheetSegment → List Piece → Type 0
ArePiecesOfAll tin layer [] pieces = pieces ≡ []
ArePiecesOfAll tin layer (segment ∷ segments) pieces =
    (own : List Piece) × (rest : List Piece) × (pieces ≡ own ++ rest) × ArePiecesOfSegment tin layer segment own
    × ArePiecesOfAll tin layer segments rest

-- of a sheet
abbrev pub ArePiecesOfSheet : Triangulation → ℕ → Contents → List Piece → Type 0
ArePiecesOfSheet tin layer sheet pieces = ArePiecesOfAll tin layer (sheet_segments sheet) pieces

-- ---- inside
-- each of some segments is inside
abbrev pub AreInside : Triangulation → List SheetSegment → Type 0
AreInside tin [] = Unit {0}
AreInside tin (segment ∷ segments) = IsInside tin segment.a segment.b × AreInside tin segments

-- all segments of a sheet are
abbrev pub IsSheetInside : Triangulation → Contents → Type 0
IsSheetInside tin sheet = AreInside tin (sheet_segments sheet)

-- ---- a piece by itself
-- it is the part of its segment that its triangle has, and bears the rounded images of the part's first and last point
pub record IsImagedPiece (tin : Triangulation) (piece : Piece) : Type 0 where
  pub part : Part
  pub is_part : IsPieceOf tin piece part
  pub first_image : IsRoundedImageAt tin (first_point piece part) piece.ia
  pub last_image : IsRoundedImageAt tin (last_point piece part) piece.ib
