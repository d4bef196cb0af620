-- What a report holds, and what it keeps.
use Rattle.std.specs.Prelude.{◌≢◌, ℕ, ◌<◌, ◌≤◌, ◌^◌, List, length, Option, None, Some, IsUtf8}
use Rattle.std.specs.List.{AllByRecursion}
use Rattle.tin_base.specs.declared.pieces.Place.{Place}
use Rattle.tin_base.specs.declared.pieces.Change.{Change}
use Rattle.ring_side.specs.declared.kinds.Spot.{Spot}
use Rattle.ring_side.specs.declared.kinds.SideChange.{SideChange}
use Rattle.ring_side.specs.declared.kinds.SideChange.TheVariants.{Turn, Point}
use Rattle.ring_side.specs.Differences.{DoesDiffer}
use Rattle.report_text.specs.declared.rows.LayerRow.{LayerRow}

-- the numbers and the name of a triangulation, the layers that were carried through it, the changes among their
-- pieces, and where sides of rings were asked for, their changes
pub record ReportContents : Type 0 where
  pub corners : ℕ
  pub triangles : ℕ
  pub inexact : ℕ
  pub name : List ℕ
  pub layers : List LayerRow
  pub changes : List Change
  pub sides : Option (List SideChange)

-- no byte is below 32
abbrev pub IsPrintable : List ℕ → Type 0
IsPrintable name = AllByRecursion (λ byte. 32 ≤ byte) name

-- the relation is another one after rounding
abbrev pub IsChanged : Change → Type 0
IsChanged change = change.was ≢ change.now

-- in each change of a side or a direction, where these were asked for, the two differ
abbrev pub DoSidesDiffer : Option (List SideChange) → Type 0
DoSidesDiffer None = Unit {0}
DoSidesDiffer (Some sides) = AllByRecursion DoesDiffer sides

-- what each report keeps
pub record IsReport (report : ReportContents) : Type 0 where
  pub name : IsPrintable report.name
  pub layers : AllByRecursion (λ row. IsPrintable row.name) report.layers
  pub changes : AllByRecursion IsChanged report.changes
  pub sides : DoSidesDiffer report.sides

-- the numbers of corners, of triangles and of numbers that lost digits fit their fields
abbrev pub AreCountsHeld : ReportContents → Type 0
AreCountsHeld report = (report.corners < 2 ^ 32) × (report.triangles < 2 ^ 32) × (report.inexact < 2 ^ 64)

-- the numbers of a layer's paths, segments and pieces fit their fields
abbrev pub AreSizesHeld : LayerRow → Type 0
AreSizesHeld row = (row.paths < 2 ^ 32) × (row.segments < 2 ^ 32) × (row.pieces < 2 ^ 32)

-- and those of what was lost do
abbrev pub AreLossesHeld : LayerRow → Type 0
AreLossesHeld row = (row.inexact < 2 ^ 64) × (row.dropped < 2 ^ 64)

-- the numbers of a layer fit their fields, and its name is text
pub record IsLayerHeld (row : LayerRow) : Type 0 where
  pub paths : row.paths < 2 ^ 32
  pub segments : row.segments < 2 ^ 32
  pub pieces : row.pieces < 2 ^ 32
  pub inexact : row.inexact < 2 ^ 64
  pub dropped : row.dropped < 2 ^ 64
  pub name : IsUtf8 row.name

-- the numbers of a place fit their fields
pub record IsPlaceHeld (place : Place) : Type 0 where
  pub layer : place.layer < 2 ^ 32
  pub path : place.path < 2 ^ 32
  pub segment : place.segment < 2 ^ 32
  pub piece : place.piece < 2 ^ 32

abbrev pub IsChangeHeld : Change → Type 0
IsChangeHeld change = IsPlaceHeld change.first × IsPlaceHeld change.second

-- the numbers of a point of a path fit their fields
pub record IsSpotHeld (spot : Spot) : Type 0 where
  pub layer : spot.layer < 2 ^ 32
  pub path : spot.path < 2 ^ 32
  pub vertex : spot.vertex < 2 ^ 32

-- the numbers of a ring do
pub record IsRingHeld (of_layer of_path : ℕ) : Type 0 where
  pub layer : of_layer < 2 ^ 32
  pub path : of_path < 2 ^ 32

abbrev pub IsSideHeld : SideChange → Type 0
IsSideHeld (Turn layer path was now) = IsRingHeld layer path
IsSideHeld (Point layer path at was now) = IsRingHeld layer path × IsSpotHeld at

-- and where sides were asked for, they are counted in 64 bits
abbrev pub AreSidesHeld : Option (List SideChange) → Type 0
AreSidesHeld None = Unit {0}
AreSidesHeld (Some sides) = AllByRecursion IsSideHeld sides × (length sides < 2 ^ 64)

-- the numbers of a report fit their fields, names are text, layers are numbered, and changes
-- and sides counted in 64 bits
pub record IsHeld (report : ReportContents) : Type 0 where
  pub corners : report.corners < 2 ^ 32
  pub triangles : report.triangles < 2 ^ 32
  pub inexact : report.inexact < 2 ^ 64
  pub name : IsUtf8 report.name
  pub layers : AllByRecursion IsLayerHeld report.layers
  pub changes : AllByRecursion IsChangeHeld report.changes
  pub numbered : length report.layers ≤ 2 ^ 64
  pub counted : length report.changes < 2 ^ 64
  pub sides : AreSidesHeld report.sides
