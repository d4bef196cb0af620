-- What is gathered of rows with a vertical component. Only private functions speak of it.
use Rattle.std.specs.Prelude.{◌≡◌, ℕ, ◌<◌, true, List, [], ◌∷◌, ◌++◌, length, ℤ}
use Rattle.tin_base.specs.declared.corners.Corner.{Corner}
use Rattle.tin_file.specs.Corners.{is_same}
use Rattle.tin_file.specs.TallVertices.{vertices_in, offsets_of, offset_at}
use Rattle.tin_file.specs.RowContents.{AreGathered, AreTriangleColumns}
use Rattle.tin_file.specs.declared.vertices.Vertices.{Vertices}
use Rattle.tin_file.specs.declared.tall_columns.TargetColumns.{TargetColumns}
use Rattle.tin_file.specs.declared.tall_columns.TargetColumns.TheVariants as targets
use Rattle.tin_file.specs.declared.tall_columns.OffsetColumns.{OffsetColumns}
use Rattle.tin_file.specs.declared.tall_columns.OffsetColumns.TheVariants as offsets
use Rattle.tin_file.specs.declared.tall_columns.TallColumns.{TallColumns}
use Rattle.tin_file.specs.declared.tall_headings.TallHeading.{TallHeading}
use Rattle.tin_file.specs.declared.tall_vertices.TallVertex.{TallVertex}
use Rattle.tin_file.specs.declared.tall_vertices.TallVertices.{TallVertices}

-- the places of the columns are below their number
abbrev pub IsTargetBelow : ℕ → TargetColumns → Type 0
IsTargetBelow count (targets.Own x y) = (x < count) × (y < count)
IsTargetBelow count targets.OfSource = Unit {0}

abbrev pub IsOffsetBelow : ℕ → OffsetColumns → Type 0
IsOffsetBelow count (offsets.Offset z) = z < count
IsOffsetBelow count (offsets.Heights source_z target_z) = (source_z < count) × (target_z < count)

pub record AreTallColumns (columns : TallColumns) : Type 0 where
  pub source_x : columns.source_x < columns.count
  pub source_y : columns.source_y < columns.count
  pub target : IsTargetBelow columns.count columns.target
  pub offset : IsOffsetBelow columns.count columns.offset

pub record IsTallHeading (heading : TallHeading) : Type 0 where
  pub vertices : AreTallColumns heading.vertices
  pub triangles : AreTriangleColumns heading.triangles

-- the corners of the rows and their offsets
pub record AreTallGathered (done : TallVertices) (rows : List TallVertex) : Type 0 where
  pub gathered : AreGathered done.vertices (vertices_in rows)
  pub offsets : done.offsets.items ≡ offsets_of rows

-- each row that is this corner has this offset
abbrev pub HaveOffset : Corner → ℤ → List TallVertex → Type 0
HaveOffset corner offset [] = Unit {0}
HaveOffset corner offset (row ∷ rows) =
    (is_same corner row.vertex.corner ≡ true → row.offset ≡ offset) × HaveOffset corner offset rows

-- rows that are one corner have one offset
abbrev pub DoAgree : List TallVertex → Type 0
DoAgree rows = (corner : Corner) → HaveOffset corner (offset_at rows corner) rows

-- the corner of one row more is added after those of the rows, and its offset is not added yet
pub record IsAdded (vertices : Vertices) (offsets : List ℤ) (row : ℕ) (offset : ℤ) (rows : List TallVertex)
    (one : TallVertex) : Type 0 where
  pub gathered : AreGathered vertices (vertices_in rows ++ one.vertex ∷ [])
  pub before : offsets ≡ offsets_of rows
  pub agree : DoAgree rows
  pub row_is : row ≡ length rows
  pub offset_is : offset ≡ one.offset
