-- The segments of a path, from point to point by their numbers in the sheet.
use Rattle.std.specs.Prelude.{ℕ, pos, ◌+◌, ◌-◌, nat_lt, if◌then◌else◌, max, List, slice_index_or}
use Rattle.plane_base.specs.declared.shapes.Pt.{Pt}
use Rattle.sheet_base.specs.declared.paths.PathKind.{PathKind}
use Rattle.sheet_base.specs.declared.paths.PathKind.TheVariants.{Dot, Line, Loop}
use Rattle.sheet_base.specs.declared.paths.PathRow.{PathRow}

abbrev pub points_in : PathRow → ℕ
points_in path = path.past - path.first

-- how many segments a path of this many points has: one point has the segment to itself, a line joins each point to the
-- next, a loop joins its last to its first, too
abbrev pub segments_of : PathKind → ℕ → ℕ
segments_of Dot count = 1
segments_of Line count = max 1 (count - 1)
segments_of Loop count = count

abbrev pub segments_in : PathRow → ℕ
segments_in path = segments_of path.kind (points_in path)

-- the point to which a segment goes that begins at this point of the path: the next one, or the first after the last
abbrev pub next_in : PathRow → ℕ → ℕ
next_in path point = if nat_lt (point + 1) path.past then point + 1 else path.first

abbrev pub no_point : Pt
no_point = record { x = pos 0; y = pos 0 }

-- the point of this number
abbrev pub point_at : List Pt → ℕ → Pt
point_at points number = slice_index_or points number no_point

-- the ends of the path's segment of this number, counted from 0
abbrev pub begin_of : List Pt → PathRow → ℕ → Pt
begin_of points path segment = point_at points (path.first + segment)

abbrev pub end_of : List Pt → PathRow → ℕ → Pt
end_of points path segment = point_at points (next_in path (path.first + segment))
