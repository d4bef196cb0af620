-- Each sheet is carried, or has a first segment that is not.
use Rattle.std.specs.Prelude.{◌⊎◌, ℕ, ◌≤◌}
use Rattle.sheet_base.specs.Sheets.{Contents, IsSheet}
use Rattle.sheet_base.specs.ImageFits.{Runs}
use Rattle.tin_base.specs.Triangulation.{Triangulation}
use Rattle.tin_base.specs.Soundness.{IsSound}
use Rattle.sheet_pieces.specs.SheetSegments.{sheet_segments}
use Rattle.sheet_pieces.specs.SheetImages.{AreImagesOf}
use Rattle.carry_map.specs.Causes.{HaveRoom, IsFirstOutside, IsFirstTooMany}

-- its segments are inside and have their pieces, which find room, and it has images
pub record HasCarried (tin : Triangulation) (layer old most : ℕ) (sheet : Contents) : Type 0 where
  pub room : HaveRoom tin layer old most (sheet_segments sheet)
  pub images : Runs
  pub are_images : AreImagesOf tin sheet images

-- its first segment that is not carried is outside, or its pieces find no room
abbrev pub HasFirstFault : Triangulation → ℕ → ℕ → ℕ → Contents → Type 0
HasFirstFault tin layer old most sheet =
    ((path number : ℕ) × IsFirstOutside tin layer old most (sheet_segments sheet) path number)
    ⊎ IsFirstTooMany tin layer old most (sheet_segments sheet)

-- For each sound triangulation: a sheet is carried after `old` pieces, of at most `most`, or has a first fault
abbrev pub OutcomeExists : Type 0
OutcomeExists =
    (tin : Triangulation) → IsSound tin → (layer old most : ℕ) → old ≤ most → (sheet : Contents) → IsSheet sheet
    → HasCarried tin layer old most sheet ⊎ HasFirstFault tin layer old most sheet
