-- Why a layer is not carried: its first segment that is outside, or whose pieces find no room.
use Rattle.std.specs.Prelude.{◌≡◌, ℕ, ◌+◌, ◌<◌, ◌≤◌, List, ◌∷◌, ◌++◌, length}
use Rattle.tin_base.specs.declared.pieces.Piece.{Piece}
use Rattle.tin_base.specs.Triangulation.{Triangulation}
use Rattle.tin_base.specs.Segments.{Part, IsInside, ArePiecesOf}
use Rattle.sheet_pieces.specs.SheetSegments.{SheetSegment}
use Rattle.sheet_pieces.specs.SheetPieces.{ArePiecesOfAll, AreInside}
use Rattle.carry_map.specs.declared.segments.PathSegment.{PathSegment}
use Rattle.carry_map.specs.declared.faults.CarryFault.{CarryFault}
use Rattle.carry_map.specs.declared.faults.CarryFault.TheVariants.{Layer, Outside, TooMany, NoMemory}

-- some segments are inside, and with their pieces after `old` others there are at most `most`
pub record HaveRoom (tin : Triangulation) (layer old most : ℕ) (segments : List SheetSegment) : Type 0 where
  pub inside : AreInside tin segments
  pub pieces : List Piece
  pub are : ArePiecesOfAll tin layer segments pieces
  pub room : old + length pieces ≤ most

-- the segment is one of these, and those before it are inside and have room
pub record IsReached (tin : Triangulation) (layer old most : ℕ) (segments : List SheetSegment)
    (segment : SheetSegment) : Type 0
  where
    pub before : List SheetSegment
    pub behind : List SheetSegment
    pub stands : segments ≡ before ++ segment ∷ behind
    pub room : HaveRoom tin layer old most before

-- the first of these segments that is not carried is outside, and is the one of these numbers
pub record IsFirstOutside (tin : Triangulation) (layer old most : ℕ) (segments : List SheetSegment)
    (path number : ℕ) : Type
    0 where
  pub segment : SheetSegment
  pub reached : IsReached tin layer old most segments segment
  pub path_is : segment.path ≡ path
  pub number_is : segment.number ≡ number
  pub outside : IsInside tin segment.a segment.b → ⊥

-- the first of these segments that is not carried is inside, but with its pieces there are more than `most`
pub record IsFirstTooMany (tin : Triangulation) (layer old most : ℕ) (segments : List SheetSegment) : Type 0 where
  pub segment : SheetSegment
  pub reached : IsReached tin layer old most segments segment
  pub inside : IsInside tin segment.a segment.b
  pub parts : List Part
  pub cut : ArePiecesOf tin segment.a segment.b parts
  pub full : (let room = reached.room in most < old + length room.pieces + length parts)

-- the cause of a fault; running out of memory has none, and that the layer is not read is no answer here
abbrev pub IsCause : Triangulation → ℕ → ℕ → ℕ → List SheetSegment → CarryFault → Type 0
IsCause tin layer old most segments (Layer fault) = ⊥
IsCause tin layer old most segments (Outside path number) = IsFirstOutside tin layer old most segments path number
IsCause tin layer old most segments TooMany = IsFirstTooMany tin layer old most segments
IsCause tin layer old most segments NoMemory = Unit {0}

-- ---- of one segment alone
abbrev pub IsWayOutside : Triangulation → PathSegment → ℕ → ℕ → Type 0
IsWayOutside tin way path number = (way.from.path ≡ path) × (way.from.segment ≡ number) × (IsInside tin way.a way.b → ⊥)

-- why a segment has no pieces
abbrev pub IsCutCause : Triangulation → PathSegment → CarryFault → Type 0
IsCutCause tin way (Layer fault) = ⊥
IsCutCause tin way (Outside path number) = IsWayOutside tin way path number
IsCutCause tin way TooMany = ⊥
IsCutCause tin way NoMemory = Unit {0}

-- it is inside, but with its pieces there are more than `most`
pub record IsWayTooMany (tin : Triangulation) (way : PathSegment) (old most : ℕ) : Type 0 where
  pub inside : IsInside tin way.a way.b
  pub parts : List Part
  pub cut : ArePiecesOf tin way.a way.b parts
  pub full : most < old + length parts

-- why a segment is not carried
abbrev pub IsWayCause : Triangulation → PathSegment → ℕ → ℕ → CarryFault → Type 0
IsWayCause tin way old most (Layer fault) = ⊥
IsWayCause tin way old most (Outside path number) = IsWayOutside tin way path number
IsWayCause tin way old most TooMany = IsWayTooMany tin way old most
IsWayCause tin way old most NoMemory = Unit {0}
