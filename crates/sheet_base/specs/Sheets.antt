-- What a sheet holds, and what it keeps: paths over points without a gap.
use Rattle.std.specs.Prelude.{◌≡◌, ℕ, ◌+◌, ◌<◌, ◌^◌, List, [], ◌∷◌, length, All}
use Rattle.plane_base.specs.declared.shapes.Pt.{Pt}
use Rattle.sheet_base.specs.declared.edits.Edit.{Edit}
use Rattle.sheet_base.specs.declared.paths.PathKind.TheVariants.{Dot}
use Rattle.sheet_base.specs.declared.paths.PathRow.{PathRow}
use Rattle.sheet_base.specs.PointHeights.{Height, IsHeightWithinReach}

-- the paths, points, their heights and the edits of a layer in order of its text, how many of its numbers lost digits,
-- and how many entities are left out
pub record Contents : Type 0 where
  pub paths : List PathRow
  pub points : List Pt
  pub heights : List Height
  pub edits : List Edit
  pub inexact : ℕ
  pub dropped : ℕ

-- the path begins at this point and has some, and just one where it is a dot
pub record IsPathFrom (first : ℕ) (path : PathRow) : Type 0 where
  pub begins : path.first ≡ first
  pub some : path.first < path.past
  pub dot : path.kind ≡ Dot → path.past ≡ path.first + 1

-- the paths follow each other without a gap from the point of the first number to before that of the second
abbrev pub AreTiled : List PathRow → ℕ → ℕ → Type 0
AreTiled [] first past = first ≡ past
AreTiled (path ∷ paths) first past = IsPathFrom first path × AreTiled paths path.past past

-- what each sheet keeps
pub record IsSheet (sheet : Contents) : Type 0 where
  pub tiled : AreTiled sheet.paths 0 (length sheet.points)
  -- numbers of points are counted in 32 bits
  pub few : length sheet.points < 2 ^ 32
  pub one_height_each : length sheet.heights ≡ length sheet.points
  pub heights_in_reach : All IsHeightWithinReach sheet.heights
