-- What each format keeps of the sheets that it reads: they are sheets of their bytes, and are read back.
use Rattle.std.specs.Prelude.{◌≡◌, ℕ, ◌≤◌, List, length, All}
use Rattle.sheet_base.specs.declared.edits.Edit.{Edit}
use Rattle.sheet_base.specs.declared.flags.How.{How}
use Rattle.sheet_base.specs.Sheets.{Contents, AreTiled}
use Rattle.sheet_base.specs.ImageFits.{Runs, DoFit}
use Rattle.sheet_base.specs.Splices.{AreInOrder, splice_of}
use Rattle.sheet_base.specs.PointHeights.{Height, IsHeightWithinReach}
use Rattle.sheet_base.specs.ReadBack.{Ends, IsReadBack}

-- the paths follow each other without a gap, there are no more points than bytes, each point has a height within reach
-- or none, and the edits are in order inside the bytes
pub record IsSheetOf (bytes : List ℕ) (sheet : Contents) : Type 0 where
  pub tiled : AreTiled sheet.paths 0 (length sheet.points)
  pub points : length sheet.points ≤ length bytes
  pub one_height_each : length sheet.heights ≡ length sheet.points
  pub heights_in_reach : All IsHeightWithinReach sheet.heights
  pub edits : AreInOrder 0 sheet.edits (length bytes)

-- the laws of a format: each sheet that is read of some bytes is one of them
abbrev pub SheetsAreOfBytes : (How → List ℕ → Contents → Type 0) → Type 0
SheetsAreOfBytes reads = (how : How) (bytes : List ℕ) (sheet : Contents) → reads how bytes sheet → IsSheetOf bytes sheet

-- and what is written of it, with images that fit it, is read back, unless the format excepts it
abbrev pub SheetsReadBack : (How → List ℕ → Contents → Type 0) → (List ℕ → How → Contents → Runs → Edit → List ℕ)
    → (How → List ℕ → Contents → Runs → Type 0) → (Ends Height → Ends Height → Type 0) → Type 0
SheetsReadBack reads text reads_back reads_heights =
    (how : How) (bytes : List ℕ) (sheet : Contents) (images : Runs) → reads how bytes sheet → DoFit sheet images
    → reads_back how bytes sheet images
    → IsReadBack (reads how) reads_heights sheet images (splice_of bytes (text bytes how sheet images) sheet.edits)
