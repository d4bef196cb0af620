-- What is gathered of the rows. Only private functions speak of it.
use Rattle.std.specs.Prelude.{◌≡◌, ℕ, ◌<◌, ◌≤◌, List, [], ◌∷◌, map, length, slice_index_or, sum_by, min, ℤ, Option}
use Rattle.std.specs.Prelude.{Some, None, Result, Ok, Err}
use Rattle.std.specs.List.{AllByRecursion}
use Rattle.indexmap.specs.IndexSet.{IndexSet}
use Rattle.tin_base.specs.declared.corners.Corner.{Corner}
use Rattle.tin_base.specs.declared.frames.Frame.TheVariants.{Source, Target}
use Rattle.tin_base.specs.declared.limits.TheConstants.{MOST_CORNERS, MOST_TRIANGLES}
use Rattle.tin_base.specs.Limits.{IsCornerInReach, IsNotFarBelow}
use Rattle.tin_base.specs.Triangulation.{x_in, y_in, no_corner}
use Rattle.tin_base.specs.declared.frames.Frame.{Frame}
use Rattle.tin_base.specs.declared.frames.Axis.{Axis}
use Rattle.tin_base.specs.declared.frames.Axis.TheVariants.{X, Y}
use Rattle.tin_file.specs.Corners.{corners_of, corner_number}
use Rattle.tin_file.specs.declared.columns.VertexColumns.{VertexColumns}
use Rattle.tin_file.specs.declared.columns.TriangleColumns.{TriangleColumns}
use Rattle.tin_file.specs.declared.headings.Heading.{Heading}
use Rattle.tin_file.specs.declared.vertices.VertexRow.{VertexRow}
use Rattle.tin_file.specs.declared.vertices.Numbers.{Numbers}
use Rattle.tin_file.specs.declared.vertices.Vertices.{Vertices}
use Rattle.tin_file.specs.declared.faults.TinFault.{TinFault}

-- the places of the columns are below their number
pub record AreVertexColumns (columns : VertexColumns) : Type 0 where
  pub source_x : columns.source_x < columns.count
  pub source_y : columns.source_y < columns.count
  pub target_x : columns.target_x < columns.count
  pub target_y : columns.target_y < columns.count

pub record AreTriangleColumns (columns : TriangleColumns) : Type 0 where
  pub first : columns.first < columns.count
  pub second : columns.second < columns.count
  pub third : columns.third < columns.count

pub record IsHeading (heading : Heading) : Type 0 where
  pub vertices : AreVertexColumns heading.vertices
  pub triangles : AreTriangleColumns heading.triangles

abbrev pub corners_in : List VertexRow → List Corner
corners_in rows = map (λ (row : VertexRow). row.corner) rows

-- the corners of the rows, the number of each row's corner, and how many numbers lost digits
pub record AreGathered (done : Vertices) (rows : List VertexRow) : Type 0 where
  pub corners : done.corners.items ≡ corners_of (corners_in rows)
  pub numbers : done.numbers.items ≡ map (corner_number (corners_of (corners_in rows))) (corners_in rows)
  pub inexact : done.inexact ≡ sum_by (λ (row : VertexRow). row.inexact) rows

abbrev pub numbers_in : Corner → Numbers
numbers_in corner = record { source_x = corner.sx; source_y = corner.sy; target_x = corner.tx; target_y = corner.ty }

-- the keys that were seen are the corners
pub record AreCollected {S : Type 0} (done : Vertices) (seen : IndexSet Numbers S) (rows : List VertexRow) : Type 0 where
  pub gathered : AreGathered done rows
  pub keys : seen.keys ≡ map numbers_in done.corners.items

-- the numbers that are at the places of the face
abbrev pub face_corners : List ℕ → List ℕ → List ℕ
face_corners numbers face = map (λ row. slice_index_or numbers row 0) face

abbrev pub placed_or_fault : List ℕ → Result (List ℕ) TinFault → Result (List ℕ) TinFault
placed_or_fault numbers (Ok face) = Ok (face_corners numbers face)
placed_or_fault numbers (Err fault) = Err fault

-- the corners' numbers are within the reach of the frames
abbrev pub AreInReach : List Corner → Type 0
AreInReach corners = AllByRecursion (λ corner. IsCornerInReach Source corner × IsCornerInReach Target corner) corners

-- the number, and MOST_CORNERS for all that are greater
abbrev pub at_most : Option ℕ → Option ℕ
at_most None = None
at_most (Some number) = Some (min number MOST_CORNERS)

-- the corners' numbers on an axis of a frame
abbrev pub coordinate_of : Frame → Axis → Corner → ℤ
coordinate_of frame X = x_in frame
coordinate_of frame Y = y_in frame

-- no two corners are SPAN apart in the source
abbrev pub AreNear : List Corner → Type 0
AreNear corners =
    (m n : ℕ) → m < length corners → n < length corners
    → IsNotFarBelow Source (slice_index_or corners m no_corner) (slice_index_or corners n no_corner)

-- three numbers below this one
abbrev pub IsBelow : ℕ → List ℕ → Type 0
IsBelow count (p ∷ q ∷ r ∷ []) = (p < count) × (q < count) × (r < count)
IsBelow count numbers = ⊥

-- three numbers of corners
abbrev pub IsFaceOf : List Corner → List ℕ → Type 0
IsFaceOf corners numbers = IsBelow (length corners) numbers

abbrev pub AreFacesOf : List Corner → List (List ℕ) → Type 0
AreFacesOf corners faces = AllByRecursion (IsFaceOf corners) faces

-- what is gathered of all rows, which are within the limits
pub record IsComplete (vertices : Vertices) (triangles : List (List ℕ)) (rows : List VertexRow)
    (faces : List (List ℕ)) : Type 0 where
  pub gathered : AreGathered vertices rows
  pub placed_so : triangles ≡ map (face_corners vertices.numbers.items) faces
  pub reach : AreInReach (corners_in rows)
  pub below : AllByRecursion (IsBelow (length rows)) faces
  pub few_rows : length rows ≤ MOST_CORNERS
  pub few_faces : length faces ≤ MOST_TRIANGLES
