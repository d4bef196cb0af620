-- Corners of vertex rows, triangles of them, and spans. What is merged and exchanged is this project's own rule.
use Rattle.std.specs.Prelude.{ℕ, Bool, ◌&&◌, List, [], ◌∷◌, ◌++◌, slice_index_or, Result, Ok, Err, if◌then◌else◌, ℤ}
use Rattle.std.specs.Prelude.{pos, ◌-ℤ◌, int_le, int_lt}
use Rattle.std.specs.List.{list_any, position_or_len}
use Rattle.std.specs.Ordering.{int_eq}
use Rattle.plane_base.specs.Plane.{turn_of}
use Rattle.plane_base.specs.declared.shapes.TheConstants.{SPAN}
use Rattle.tin_base.specs.declared.corners.Corner.{Corner}
use Rattle.tin_base.specs.declared.frames.Frame.TheVariants.{Source, Target}
use Rattle.tin_base.specs.declared.frames.Axis.TheVariants.{X, Y}
use Rattle.tin_base.specs.Triangulation.{place, x_in, y_in, no_corner}
use Rattle.tin_file.specs.declared.faults.TinFault.{TinFault}
use Rattle.tin_file.specs.declared.faults.TinFault.TheVariants.{Span}

-- equal in all four numbers
abbrev pub is_same : Corner → Corner → Bool
is_same c d = int_eq c.sx d.sx && (int_eq c.sy d.sy && (int_eq c.tx d.tx && int_eq c.ty d.ty))

-- the rows that equal no earlier one, after these
abbrev pub kept_behind : List Corner → List Corner → List Corner
kept_behind earlier [] = []
kept_behind earlier (row ∷ rows) =
    if list_any (is_same row) earlier then kept_behind (earlier ++ row ∷ []) rows else row
    ∷ kept_behind (earlier ++ row ∷ []) rows

-- the corners are the vertex rows without any row that equals an earlier one
abbrev pub corners_of : List Corner → List Corner
corners_of rows = kept_behind [] rows

-- a row's corner is the one that it equals
abbrev pub corner_number : List Corner → Corner → ℕ
corner_number corners row = position_or_len (is_same row) corners

-- the corner of the row of this number
abbrev pub number_of_row : List Corner → ℕ → ℕ
number_of_row rows row = corner_number (corners_of rows) (slice_index_or rows row no_corner)

-- twice the area of a triangle of corners in the source, negative where it is clockwise
abbrev pub source_turn : List Corner → ℕ → ℕ → ℕ → ℤ
source_turn corners p q r =
    turn_of (place Source (slice_index_or corners p no_corner)) (place Source (slice_index_or corners q no_corner))
    (place Source (slice_index_or corners r no_corner))

-- with its last two corners exchanged where it is clockwise
abbrev pub counterclockwise_face : List Corner → List ℕ → List ℕ
counterclockwise_face corners (p ∷ q ∷ r ∷ []) = if int_lt (source_turn corners p q r) (pos 0) then p ∷ r ∷ q ∷ [] else p ∷ q ∷ r
    ∷ []
counterclockwise_face corners numbers = numbers

-- two corners are so far apart
abbrev pub is_wide : (Corner → ℤ) → List Corner → Bool
is_wide coordinate corners = list_any (λ c. list_any (λ d. int_le SPAN (coordinate c -ℤ coordinate d)) corners) corners

-- the first axis on which the corners are too far apart
abbrev pub spans : List Corner → Result (Unit {0}) TinFault
spans corners =
    if is_wide (x_in Source) corners then Err (Span Source X)
    else if is_wide (y_in Source) corners then Err (Span Source Y)
    else if is_wide (x_in Target) corners then Err (Span Target X)
    else if is_wide (y_in Target) corners then Err (Span Target Y)
    else Ok tt
