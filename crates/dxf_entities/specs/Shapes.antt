-- What is read of an entity: a path or none, its points and their heights, and the edits.
use Rattle.std.specs.Prelude.{ℕ, ◌+◌, Bool, if◌then◌else◌, List, [], ◌∷◌, ◌++◌, length, map, Option, None, Some}
use Rattle.plane_base.specs.declared.shapes.Pt.{Pt}
use Rattle.sheet_base.specs.declared.edits.Edit.{Edit}
use Rattle.sheet_base.specs.declared.edits.What.{What}
use Rattle.sheet_base.specs.declared.edits.What.TheVariants.{X, Y}
use Rattle.sheet_base.specs.declared.paths.PathKind.{PathKind}
use Rattle.sheet_base.specs.declared.paths.PathRow.{PathRow}
use Rattle.sheet_base.specs.PointHeights.{Height, no_heights}
use Rattle.sheet_base.specs.Sheets.{Contents}
use Rattle.dxf_pairs.specs.declared.pairs.Pair.{Pair}
use Rattle.dxf_entities.specs.declared.drawing.PointFields.{PointFields}
use Rattle.dxf_entities.specs.declared.drawing.Rise.{Rise}

-- The path's kind, where there is one, and its points. The heights of a line's two ends, where they have some. How many
-- of these numbers lost digits, and how many entities are left out. The edits by the numbers of the path and of its
-- first point.
pub record Shape : Type 0 where
  pub kind : Option PathKind
  pub points : List Pt
  pub rise : Option Rise
  pub lost : ℕ
  pub dropped : ℕ
  pub edits : ℕ → ℕ → List Edit

-- the value of a field is replaced
abbrev pub value_edit : What → Pair → Edit
value_edit what pair = record { start = pair.value; end = pair.value_end; what = what }

abbrev pub point_of : PointFields → Pt
point_of spot = record { x = spot.x.mm; y = spot.y.mm }

abbrev pub lost_count : Bool → ℕ
lost_count lost = if lost then 1 else 0

-- how many numbers of a point lost digits
abbrev pub lost_of : PointFields → ℕ
lost_of spot = lost_count spot.x.lost + lost_count spot.y.lost

-- and how many heights of a line's two ends
abbrev pub lost_by : Option Rise → ℕ
lost_by None = 0
lost_by (Some rise) = lost_count rise.begin.lost + lost_count rise.end.lost

-- the heights of the points of a shape: those of a line's two ends, or none
abbrev pub heights_by : Option Rise → List Pt → List Height
heights_by None points = no_heights (length points)
heights_by (Some rise) [] = []
heights_by (Some rise) (begin ∷ points) = Some rise.begin.mm ∷ map (λ (end : Pt). Some rise.end.mm) points

-- the values of the point of this number are replaced
abbrev pub spot_edits : ℕ → PointFields → List Edit
spot_edits point spot = value_edit (X point) spot.x.pair ∷ value_edit (Y point) spot.y.pair ∷ []

-- the path of a shape's points, where it has one
abbrev pub rows_of : Option PathKind → ℕ → ℕ → List PathRow
rows_of None first past = []
rows_of (Some kind) first past = record { kind = kind; first = first; past = past } ∷ []

-- what is read so far, with a shape after it: its path and its points have the next numbers, and the edits are in
-- order of the shapes
abbrev pub with_shape : Contents → Shape → Contents
with_shape before shape =
    let first = length before.points in
    record {
      paths = before.paths ++ rows_of shape.kind first (first + length shape.points);
      points = before.points ++ shape.points;
      heights = before.heights ++ heights_by shape.rise shape.points;
      edits = before.edits ++ shape.edits (length before.paths) first;
      inexact = before.inexact + shape.lost;
      dropped = before.dropped + shape.dropped;
    }

abbrev pub with_shapes : Contents → List Shape → Contents
with_shapes before [] = before
with_shapes before (shape ∷ shapes) = with_shapes (with_shape before shape) shapes
