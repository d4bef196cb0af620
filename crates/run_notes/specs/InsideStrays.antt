-- Where a segment is that is outside, and whether numbers look like degrees.
use Rattle.std.specs.Prelude.{◌≡◌, ◌+◌, ◌&&◌, ℕ, Bool, true, false, List, length, map, Option, None, Some, nat_le, nat_lt, slice_get}
use Rattle.std.specs.Prelude.{◌↔◌, if◌then◌else◌, IsTrue, unsigned_abs}
use Rattle.std.specs.List.{AllByRecursion, list_all}
use Rattle.plane_base.specs.declared.shapes.Pt.{Pt}
use Rattle.plane_base.specs.declared.shapes.Rect.{Rect}
use Rattle.plane_base.specs.Boxes.{HasBox, HasPoint}
use Rattle.plane_base.specs.Plane.{Point, whole}
use Rattle.tin_base.specs.declared.corners.Corner.{Corner}
use Rattle.tin_base.specs.declared.frames.Frame.{Frame}
use Rattle.tin_base.specs.declared.frames.Frame.TheVariants.{Source, Target}
use Rattle.tin_base.specs.Triangulation.{Triangulation, other, place, x_in, y_in}
use Rattle.sheet_base.specs.declared.paths.PathKind.{PathKind}
use Rattle.sheet_base.specs.declared.paths.PathKind.TheVariants.{Dot, Line, Loop}
use Rattle.sheet_base.specs.declared.paths.PathRow.{PathRow}
use Rattle.sheet_base.specs.Sheets.{Contents}
use Rattle.sheet_base.specs.declared.edits.Edit.{Edit}
use Rattle.sheet_base.specs.EditStarts.{start_in}
use Rattle.remarks.specs.LineColumns.{line_at}
use Rattle.std.specs.Option.{option_map}
use Rattle.tin_height.specs.declared.points.PointRow.{PointRow}
use Rattle.remarks.specs.declared.stray_lines.Stray.{Stray}
use Rattle.run_notes.specs.declared.strays.TheConstants.{MOST_DEGREES}

-- ---- degrees
-- both coordinates of a place are such as degrees are
abbrev pub has_degrees : Point → Bool
has_degrees p = nat_le (unsigned_abs p.x) MOST_DEGREES && nat_le (unsigned_abs p.y) MOST_DEGREES

-- so are those of the corner in the source frame
abbrev pub is_in_degrees : Corner → Bool
is_in_degrees corner = has_degrees (place Source corner)

-- ---- boxes
-- where a corner is in a frame
abbrev pub spot_in : Frame → Corner → Pt
spot_in frame corner = record { x = x_in frame corner; y = y_in frame corner }

-- the box has each of the points
abbrev pub HasEach : Rect → List Pt → Type 0
HasEach box points = AllByRecursion (HasPoint box) points

-- the box has each of the points, and each other box that has them has it
pub record IsLeastBox (points : List Pt) (box : Rect) : Type 0 where
  pub has : HasEach box points
  pub least : (other : Rect) → HasEach other points → HasBox other box

-- ---- segments
-- the point at which the last segment of a path ends, where that segment begins at the point of this number
abbrev pub last_end : PathKind → PathRow → ℕ → ℕ
last_end Loop path number = path.first
last_end Line path number = number
last_end Dot path number = number

-- the number of the point at which a segment of the path ends that begins at the point of this number
abbrev pub end_number : PathRow → ℕ → ℕ
end_number path number = if nat_lt (number + 1) path.past then number + 1 else last_end path.kind path number

-- the frame that a layer is in, by whether it is the target
abbrev pub layer_frame : Bool → Frame
layer_frame true = Target
layer_frame false = Source

-- a box with its two coordinates exchanged
abbrev pub exchanged_box : Rect → Rect
exchanged_box box = record { x0 = box.y0; y0 = box.x0; x1 = box.y1; y1 = box.x1 }

-- each point is in the box once its coordinates are exchanged, and not each is as it stands
abbrev pub AreExchanged : Rect → List Pt → Type 0
AreExchanged box points = HasEach (exchanged_box box) points × ¬ HasEach box points

-- where the edit of this number begins
abbrev pub start_of : List Edit → Option ℕ → Option ℕ
start_of edits None = None
start_of edits (Some number) = option_map (λ (edit : Edit). edit.start) (slice_get edits number)

-- this is the line on which the text of the segment begins
abbrev pub IsSegmentLine : List ℕ → List Edit → ℕ → ℕ → ℕ → Type 0
IsSegmentLine bytes edits path number line =
    (start : ℕ) × (start_in edits path number ≡ Some start) × (line ≡ line_at bytes start)

-- the stray is the segment of this number of the path, with the triangles that it is not wholly in
pub record IsStrayOf (sheet : Contents) (bytes : List ℕ) (path segment : ℕ) (tin : Triangulation) (inverse : Bool)
    (stray : Stray) : Type 0 where
  pub row : PathRow
  pub on_path : slice_get sheet.paths path ≡ Some row
  pub from : slice_get sheet.points (row.first + segment) ≡ Some stray.from
  pub to : slice_get sheet.points (end_number row (row.first + segment)) ≡ Some stray.to
  pub line : IsSegmentLine bytes sheet.edits path (row.first + segment) stray.line
  pub triangles : stray.triangles ≡ length tin.triangles
  pub box : IsLeastBox (map (spot_in (layer_frame inverse)) tin.corners) (record {
    x0 = stray.least.x;
    y0 = stray.least.y;
    x1 = stray.greatest.x;
    y1 = stray.greatest.y;
  })
  pub target : Rect
  pub target_box : IsLeastBox (map (spot_in (other (layer_frame inverse))) tin.corners) target
  pub in_target : IsTrue stray.is_in_target ↔ HasEach target sheet.points
  pub small : stray.is_small ≡ list_all (λ (p : Pt). has_degrees (whole p)) sheet.points
  pub exchanged : IsTrue stray.is_exchanged ↔ AreExchanged (record {
    x0 = stray.least.x;
    y0 = stray.least.y;
    x1 = stray.greatest.x;
    y1 = stray.greatest.y;
  }) sheet.points

-- ---- points with heights
-- the places of all points of a list are such as degrees are
abbrev pub are_small_rows : List PointRow → Bool
are_small_rows rows = list_all (λ (row : PointRow). has_degrees (whole row.p)) rows

-- the stray is the point of this number of a list, with the triangles, none of which contains it; whether the list
-- was moved already, or has its coordinates exchanged, is not asked
pub record IsStrayPoint (rows : List PointRow) (bytes : List ℕ) (number : ℕ) (tin : Triangulation) (stray : Stray)
    : Type 0 where
  pub row : PointRow
  pub in_list : slice_get rows number ≡ Some row
  pub line : stray.line ≡ line_at bytes row.start
  pub from : stray.from ≡ row.p
  pub to : stray.to ≡ row.p
  pub triangles : stray.triangles ≡ length tin.triangles
  pub box : IsLeastBox (map (spot_in Source) tin.corners) (record {
    x0 = stray.least.x;
    y0 = stray.least.y;
    x1 = stray.greatest.x;
    y1 = stray.greatest.y;
  })
  pub not_asked : (stray.is_in_target ≡ false) × (stray.is_exchanged ≡ false)
  pub small : stray.is_small ≡ are_small_rows rows
