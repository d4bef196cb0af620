-- The vertices of a sheet's paths in order, and the segments that begin at them.
use Rattle.std.specs.Prelude.{ℕ, ◌+◌, nat_lt, Bool, false, if◌then◌else◌, Option, Some, None, List, [], ◌∷◌, ◌++◌, map}
use Rattle.std.specs.Prelude.{filter_map}
use Rattle.std.specs.List.{range_with_len}
use Rattle.plane_base.specs.declared.shapes.Pt.{Pt}
use Rattle.sheet_base.specs.declared.paths.PathKind.{PathKind}
use Rattle.sheet_base.specs.declared.paths.PathKind.TheVariants.{Dot, Line, Loop}
use Rattle.sheet_base.specs.declared.paths.PathRow.{PathRow}
use Rattle.sheet_base.specs.PointHeights.{Height, height_in}
use Rattle.sheet_base.specs.ReadBack.{Ends, height_ends_at}
use Rattle.sheet_base.specs.Segments.{points_in, segments_in, begin_of, end_of}
use Rattle.sheet_base.specs.Sheets.{Contents}

-- a segment from a to b, with the heights of its ends: the path that it is of, and its number in the path, each counted
-- from 0
pub record SheetSegment : Type 0 where
  pub path : ℕ
  pub number : ℕ
  pub a : Pt
  pub b : Pt
  pub heights : Ends Height

-- a point of a path with its height, and the segment that begins there, where one does
pub record PathVertex : Type 0 where
  pub point : Pt
  pub height : Height
  pub segment : Option SheetSegment

-- the segment of this number, of the path of that number
abbrev pub segment_at : List Pt → List Height → ℕ → PathRow → ℕ → SheetSegment
segment_at points heights path row number = record {
  path = path;
  number = number;
  a = begin_of points row number;
  b = end_of points row number;
  heights = height_ends_at heights row number;
}

-- the path's vertex of this number: the segment of the same number begins there, if the path has one
abbrev pub vertex_at : List Pt → List Height → ℕ → PathRow → ℕ → PathVertex
vertex_at points heights path row number = record {
  point = begin_of points row number;
  height = height_in heights (row.first + number);
  segment = if nat_lt number (segments_in row) then Some (segment_at points heights path row number) else None;
}

-- the vertices of a path
abbrev pub path_vertices : List Pt → List Height → ℕ → PathRow → List PathVertex
path_vertices points heights path row = map (vertex_at points heights path row) (range_with_len 0 (points_in row))

-- of paths that are numbered from this number on
abbrev pub vertices_from : List Pt → List Height → ℕ → List PathRow → List PathVertex
vertices_from points heights path [] = []
vertices_from points heights path (row ∷ rows) = path_vertices points heights path row
    ++ vertices_from points heights (path + 1) rows

-- the vertices of a sheet
abbrev pub sheet_vertices : Contents → List PathVertex
sheet_vertices sheet = vertices_from sheet.points sheet.heights 0 sheet.paths

-- the segments that begin at some vertices
abbrev pub segments_begun : List PathVertex → List SheetSegment
segments_begun vertices = filter_map (λ vertex. vertex.segment) vertices

-- the segments of a sheet: path by path, and in each from point to point
abbrev pub sheet_segments : Contents → List SheetSegment
sheet_segments sheet = segments_begun (sheet_vertices sheet)

-- ---- how many
-- the last point of a path begins no segment where it is a line of two points or more
abbrev pub ends_open_of : PathKind → ℕ → Bool
ends_open_of Dot count = false
ends_open_of Line count = nat_lt 1 count
ends_open_of Loop count = false

abbrev pub ends_open : PathRow → Bool
ends_open row = ends_open_of row.kind (points_in row)
