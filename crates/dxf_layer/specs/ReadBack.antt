-- When what is written of a drawing can be read back, and what its groups are.
use Rattle.std.specs.Prelude.{◌≡◌, ℕ, ◌<◌, ◌^◌, List, flat_map, Result, Ok, Err}
use Rattle.sheet_base.specs.declared.flags.How.{How}
use Rattle.sheet_base.specs.Sheets.{Contents}
use Rattle.sheet_base.specs.ImageFits.{Runs, DoFit}
use Rattle.sheet_base.specs.Splices.{splice_of}
use Rattle.sheet_base.specs.ReadBack.{IsReadBack}
use Rattle.dxf_pairs.specs.declared.pairs.Pair.{Pair}
use Rattle.dxf_pairs.specs.declared.faults.PairFault.{PairFault}
use Rattle.dxf_pairs.specs.Pairs.{drawing}
use Rattle.dxf_pairs.specs.Groups.{groups_of}
use Rattle.dxf_entities.specs.declared.handles.TheConstants.{MOST_DIGITS}
use Rattle.dxf_layer.specs.Drawings.{drawing_sheet}
use Rattle.dxf_copies.specs.Rendering.{next_behind, drawing_text}
use Rattle.dxf_copies.specs.PairGroups.{groups_for}
use Rattle.dxf_copies.specs.LevelEnds.{AreReadAgain}

-- the next handle after the last one given has no more digits than one that is read may have
abbrev pub IsNextShort : Result (List Pair) PairFault → List ℕ → Contents → Runs → Type 0
IsNextShort (Ok pairs) bytes sheet images =
    next_behind (record { bytes = bytes; pairs = pairs; sheet = sheet; images = images }) < 16 ^ MOST_DIGITS
IsNextShort (Err fault) bytes sheet images = ⊥

-- what is written of a drawing reads back where that is so
abbrev pub DoesReadBack : How → List ℕ → Contents → Runs → Type 0
DoesReadBack how bytes sheet images = IsNextShort (drawing bytes) bytes sheet images

-- A law: the groups of a written drawing are those that stand for its pairs, one after the other.
abbrev pub GroupsAreWritten : Type 0
GroupsAreWritten =
    (how : How) (bytes : List ℕ) (pairs : List Pair) (sheet : Contents) (images : Runs) → drawing bytes ≡ Ok pairs
    → drawing_sheet how bytes ≡ Ok sheet → DoFit sheet images
    → groups_of (splice_of bytes (drawing_text bytes sheet images) sheet.edits)
    ≡ flat_map (groups_for (record { bytes = bytes; pairs = pairs; sheet = sheet; images = images })) pairs

-- A law: what is written of a drawing is read again, where the next handle is short. Its segments are those between the
-- images, with the heights of these, but for those of a line whose two ends have one height.
abbrev pub DrawingsReadBack : Type 0
DrawingsReadBack =
    (how : How) (bytes : List ℕ) (sheet : Contents) (images : Runs) → drawing_sheet how bytes ≡ Ok sheet
    → DoFit sheet images → DoesReadBack how bytes sheet images
    → IsReadBack (λ text back. drawing_sheet how text ≡ Ok back) AreReadAgain sheet images
    (splice_of bytes (drawing_text bytes sheet images) sheet.edits)
