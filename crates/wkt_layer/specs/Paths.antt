-- The paths of a geometry, and the sheet of a list of paths.
use Rattle.std.specs.Prelude.{ℕ, ◌+◌, List, [], ◌∷◌, ◌++◌, length, map, flat_map, sum_by}
use Rattle.sheet_base.specs.PointHeights.{Height}
use Rattle.sheet_base.specs.declared.paths.PathKind.{PathKind}
use Rattle.sheet_base.specs.declared.paths.PathKind.TheVariants.{Dot, Line, Loop}
use Rattle.sheet_base.specs.declared.paths.PathRow.{PathRow}
use Rattle.sheet_base.specs.declared.edits.Edit.{Edit}
use Rattle.sheet_base.specs.declared.edits.What.{What}
use Rattle.sheet_base.specs.declared.edits.What.TheVariants.{WktList, WktRing}
use Rattle.sheet_base.specs.Sheets.{Contents}
use Rattle.plane_base.specs.declared.shapes.Pt.{Pt}
use Rattle.wkt_layer.specs.Numbers.{Point, past_of, place_of, height_of, lost_of}
use Rattle.wkt_layer.specs.Geometries.{Member, dot, bare, Geometry, point, line_string, polygon, multi_point}
use Rattle.wkt_layer.specs.Geometries.{multi_line_string, multi_polygon, collection, Geometries, no_geometry, geometry}
use Rattle.wkt_layer.specs.Geometries.{last_behind}

-- a path with its points as they are in the text, a ring's closing point too
pub record Path : Type 0 where
  pub kind : PathKind
  pub first : Point
  pub more : List Point

-- EMPTY has no path
abbrev pub path_of : PathKind → List Point → List Path
path_of kind [] = []
path_of kind (first ∷ more) = record { kind = kind; first = first; more = more } ∷ []

abbrev pub member_path : Member → List Path
member_path (dot points) = path_of Dot points
member_path (bare p) = path_of Dot (p ∷ [])

abbrev mutual
  pub geometry_paths : Geometry → List Path
  geometry_paths (point raised points) = path_of Dot points
  geometry_paths (line_string raised points) = path_of Line points
  geometry_paths (polygon raised rings) = flat_map (path_of Loop) rings
  geometry_paths (multi_point raised members) = flat_map member_path members
  geometry_paths (multi_line_string raised lists) = flat_map (path_of Line) lists
  geometry_paths (multi_polygon raised polygons) = flat_map (flat_map (path_of Loop)) polygons
  geometry_paths (collection raised geometries) = geometries_paths geometries

  pub geometries_paths : Geometries → List Path
  geometries_paths no_geometry = []
  geometries_paths (geometry first more) = geometry_paths first ++ geometries_paths more

-- the points of a text but its last one
abbrev pub points_before_last : Point → List Point → List Point
points_before_last p [] = []
points_before_last p (next ∷ more) = p ∷ points_before_last next more

-- a loop is kept without its last point
abbrev pub kept_of : PathKind → Point → List Point → List Point
kept_of Dot first more = first ∷ more
kept_of Line first more = first ∷ more
kept_of Loop first more = points_before_last first more

abbrev pub kept_points : Path → List Pt
kept_points path = map place_of (kept_of path.kind path.first path.more)

abbrev pub kept_heights : Path → List Height
kept_heights path = map height_of (kept_of path.kind path.first path.more)

abbrev pub lost_on : Path → ℕ
lost_on path = sum_by lost_of (path.first ∷ path.more)

-- the rows of paths whose first point has this number
abbrev pub rows_from : ℕ → List Path → List PathRow
rows_from first [] = []
rows_from first (path ∷ paths) =
    record { kind = path.kind; first = first; past = first + length (kept_points path) }
    ∷ rows_from (first + length (kept_points path)) paths

abbrev pub text_for : PathKind → ℕ → What
text_for Dot number = WktList number
text_for Line number = WktList number
text_for Loop number = WktRing number

-- the images of a path take the place of its points: from the first byte of the first number to the last byte of the
-- last one
abbrev pub edit_of : ℕ → Path → Edit
edit_of number path =
    record {
      start = path.first.x.start;
      end = past_of (last_behind path.first path.more);
      what = text_for path.kind number;
    }

-- the edits of paths whose first one has this number
abbrev pub edits_from : ℕ → List Path → List Edit
edits_from number [] = []
edits_from number (path ∷ paths) = edit_of number path ∷ edits_from (number + 1) paths

-- the sheet of a layer's paths
abbrev pub sheet_of : List Path → Contents
sheet_of paths = record {
  paths = rows_from 0 paths;
  points = flat_map kept_points paths;
  heights = flat_map kept_heights paths;
  edits = edits_from 0 paths;
  inexact = sum_by lost_on paths;
  dropped = 0;
}
