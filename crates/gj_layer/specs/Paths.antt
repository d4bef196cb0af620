-- Paths of positions, and the sheet of a list of paths.
use Rattle.std.specs.Prelude.{ℕ, ◌+◌, ◌-◌, Bool, ◌&&◌, List, [], ◌∷◌, ◌++◌, take, length, map, flat_map, sum_by}
use Rattle.std.specs.Prelude.{Result, Ok, Err, if◌then◌else◌}
use Rattle.jtext.specs.Values.{Json, array, no_element}
use Rattle.jtext.specs.Nodes.{inner_place}
use Rattle.sheet_base.specs.PointHeights.{Height, Position, height_in, points_of, heights_of}
use Rattle.sheet_base.specs.declared.faults.LayerFault.{LayerFault}
use Rattle.sheet_base.specs.declared.faults.LayerFault.TheVariants.{Shape, Ring as RingFault}
use Rattle.sheet_base.specs.declared.paths.PathKind.{PathKind}
use Rattle.sheet_base.specs.declared.paths.PathKind.TheVariants as kinds
use Rattle.sheet_base.specs.declared.paths.PathRow.{PathRow}
use Rattle.sheet_base.specs.declared.edits.Edit.{Edit}
use Rattle.sheet_base.specs.declared.edits.What.{What}
use Rattle.sheet_base.specs.declared.edits.What.TheVariants.{GeoList, GeoRing}
use Rattle.sheet_base.specs.Rings.{is_same_height, is_closed}
use Rattle.sheet_base.specs.Sheets.{Contents}
use Rattle.gj_layer.specs.declared.forms.Trace.{Trace}
use Rattle.gj_layer.specs.declared.forms.Trace.TheVariants as traces
use Rattle.gj_layer.specs.declared.positions.PositionRead.{PositionRead}
use Rattle.sheet_base.specs.Faults.{and_then}
use Rattle.gj_layer.specs.Positions.{position, positions, position_of, lost_of}

-- a path: its points with their heights, how many of its numbers lost digits, and where its first position begins and
-- its last one ends
pub record Path : Type 0 where
  pub kind : PathKind
  pub positions : List Position
  pub lost : ℕ
  pub start : ℕ
  pub end : ℕ

-- where the last position ends
abbrev pub end_of : PositionRead → List PositionRead → ℕ
end_of one [] = one.end
end_of one (next ∷ more) = end_of next more

-- the path of these points that is where these were read; none read, no path
abbrev pub path_of : PathKind → List Position → List PositionRead → List Path
path_of kind positions [] = []
path_of kind positions (one ∷ more) = record {
  kind = kind;
  positions = positions;
  lost = sum_by lost_of (one ∷ more);
  start = one.start;
  end = end_of one more;
} ∷ []

abbrev pub dot_of : PositionRead → Result (List Path) LayerFault
dot_of one = Ok (path_of kinds.Dot (position_of one ∷ []) (one ∷ []))

abbrev pub line_of : List PositionRead → Result (List Path) LayerFault
line_of all = Ok (path_of kinds.Line (map position_of all) all)

-- whether the heights of the first and the last are one, or neither has one
abbrev pub has_one_end : List Height → Bool
has_one_end heights = is_same_height (height_in heights 0) (height_in heights (length heights - 1))

-- whether a ring is closed: it has four positions or more, whose last one is the first again, in its place and in
-- its height
abbrev pub is_ring : List Position → Bool
is_ring positions = is_closed (points_of positions) && has_one_end (heights_of positions)

-- a linear ring is closed (RFC 7946, section 3.1.6), and is kept without its closing position
abbrev pub ring_of : ℕ → List PositionRead → Result (List Path) LayerFault
ring_of start all =
    let ring = map position_of all in
    if is_ring ring then Ok (path_of kinds.Loop (take (length ring - 1) ring) all) else Err (RingFault start)

-- coordinates that are one path at most
abbrev pub paths_of_trace : Bool → Trace → ℕ → Json → Result (List Path) LayerFault
paths_of_trace exact traces.Point start (array blank no_element) = Ok []
paths_of_trace exact traces.Point start value = and_then dot_of (position exact start value)
paths_of_trace exact traces.Position start value = and_then dot_of (position exact start value)
paths_of_trace exact traces.Line start (array blank elements) =
    and_then line_of (positions exact (inner_place start blank) elements)
paths_of_trace exact traces.Ring start (array blank elements) =
    and_then (ring_of start) (positions exact (inner_place start blank) elements)
paths_of_trace exact trace start value = Err (Shape start)

abbrev pub text_for : PathKind → ℕ → What
text_for kinds.Loop number = GeoRing number
text_for kind number = GeoList number

-- the images of the path of this number take the place of its positions
abbrev pub edit_of : ℕ → Path → Edit
edit_of number path = record { start = path.start; end = path.end; what = text_for path.kind number }

-- the edits of paths whose first one has this number
abbrev pub edits_from : ℕ → List Path → List Edit
edits_from number [] = []
edits_from number (path ∷ paths) = edit_of number path ∷ edits_from (number + 1) paths

-- what is read of a value: paths, and edits of its text
pub record Part : Type 0 where
  pub paths : List Path
  pub edits : List Edit

abbrev pub nothing : Part
nothing = record { paths = []; edits = [] }

-- what is read of one value and of the next
abbrev pub joint_part : Part → Part → Part
joint_part one next = record { paths = one.paths ++ next.paths; edits = one.edits ++ next.edits }

-- paths whose first one has this number
abbrev pub part_of : ℕ → List Path → Result Part LayerFault
part_of number paths = Ok (record { paths = paths; edits = edits_from number paths })

-- the rows of paths whose first point has this number
abbrev pub rows_from : ℕ → List Path → List PathRow
rows_from first [] = []
rows_from first (path ∷ paths) =
    record { kind = path.kind; first = first; past = first + length path.positions }
    ∷ rows_from (first + length path.positions) paths

abbrev pub vertices_in : Path → List Position
vertices_in path = path.positions

-- the points of all paths with their heights
abbrev pub vertices_of : List Path → List Position
vertices_of paths = flat_map vertices_in paths

abbrev pub lost_in : Path → ℕ
lost_in path = path.lost

abbrev pub sheet_of : Part → Contents
sheet_of part = record {
  paths = rows_from 0 part.paths;
  points = points_of (vertices_of part.paths);
  heights = heights_of (vertices_of part.paths);
  edits = part.edits;
  inexact = sum_by lost_in part.paths;
  dropped = 0;
}
