-- Which path or point an edit writes, and where the first edit of one begins.
use Rattle.std.specs.Prelude.{ℕ, ◌==◌, Bool, false, List, find, Option, None, Some}
use Rattle.std.specs.Option.{option_map, option_or}
use Rattle.sheet_base.specs.declared.edits.Edit.{Edit}
use Rattle.sheet_base.specs.declared.edits.What.{What}
use Rattle.sheet_base.specs.declared.edits.What.TheVariants.{WktList, WktRing, GeoList, GeoRing, X, Lines, Vertex}

-- the path whose whole list of images, or whole entity, an edit writes
abbrev pub path_of : What → Option ℕ
path_of (WktList path) = Some path
path_of (WktRing path) = Some path
path_of (GeoList path) = Some path
path_of (GeoRing path) = Some path
path_of (Lines path) = Some path
path_of what = None

-- the point whose image an edit begins to write
abbrev pub point_of : What → Option ℕ
point_of (X point) = Some point
point_of (Vertex point) = Some point
point_of what = None

abbrev pub is_number : ℕ → Option ℕ → Bool
is_number number None = false
is_number number (Some other) = other == number

-- where the first edit begins that names this number so
abbrev pub first_start : (What → Option ℕ) → ℕ → List Edit → Option ℕ
first_start of number edits = option_map (λ (edit : Edit). edit.start)
    (find (λ (edit : Edit). is_number number (of edit.what)) edits)

-- where the text of a path begins, from this point of it on: its whole list or entity, or else the image of the point
abbrev pub start_in : List Edit → ℕ → ℕ → Option ℕ
start_in edits path point = option_or (first_start path_of path edits) (first_start point_of point edits)
