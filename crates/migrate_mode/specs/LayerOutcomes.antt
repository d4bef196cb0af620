-- What becomes of a layer of some format: it is read, or has a first fault; then it is carried, or its first segment
-- that is not is outside or passes the limit.
use Rattle.std.specs.Prelude.{ℕ, ◌≤◌, List, length, drop}
use Rattle.sheet_base.specs.declared.edits.Edit.{Edit}
use Rattle.sheet_base.specs.declared.flags.How.{How}
use Rattle.sheet_base.specs.ImageFits.{Runs}
use Rattle.sheet_base.specs.Sheets.{Contents}
use Rattle.tin_base.specs.declared.pieces.Piece.{Piece}
use Rattle.tin_base.specs.Triangulation.{Triangulation}
use Rattle.carry_map.specs.Layers.{IsLayerCarried, IsLayerOutside, IsLayerTooMany, IsBackAsPieces}
use Rattle.carry_map.specs.declared.layers.Carried.{Carried}
use Rattle.carry_map.specs.declared.limits.TheConstants.{MOST_PIECES}
use Rattle.job_words.specs.declared.formats.Format.{Format}
use Rattle.layer_formats.specs.LayerTexts.{text_of, reads_back_of}
use Rattle.layer_formats.specs.LayerOutcomes.{IsLayerText}

-- The layer of this number is carried; its pieces come after those of the layers before it, and they are not too
-- many. A format says which texts it reads as which sheets, what it writes in the place of an edit, and for which
-- sheets and images what is written is read back.
pub record IsCarriedAs (reads : List ℕ → Contents → Type 0) (writes : List ℕ → Contents → Runs → Edit → List ℕ)
    (reads_back : List ℕ → Contents → Runs → Type 0)
    (tin : Triangulation) (text : List ℕ) (number : ℕ) (before after : List Piece) (carried : Carried) : Type 0 where
  pub layer : IsLayerCarried tin text (reads text) (writes text) number before after carried
  pub few : length after ≤ MOST_PIECES
  -- what is written is a layer again, whose segments in order are those between the rounded images of the ends of its
  -- pieces; a format may except some
  pub back : IsBackAsPieces tin text reads (reads_back text) carried.text (drop (length before) after)

abbrev pub IsCarried : How → Triangulation → Format → List ℕ → ℕ → List Piece → List Piece → Carried → Type 0
IsCarried how tin format text number before after carried =
    IsCarriedAs (IsLayerText how format) (λ text sheet images edit. text_of format text how sheet images edit)
    (reads_back_of format how) tin text number before after carried

-- its first segment that is not carried is outside: the one of this number, of the path of that number; the
-- layers before it have `before` pieces
abbrev pub IsOutside : How → Triangulation → Format → List ℕ → ℕ → ℕ → ℕ → ℕ → Type 0
IsOutside how tin format text number before path segment =
    IsLayerOutside tin (IsLayerText how format text) number before MOST_PIECES path segment

-- its first segment that is not carried is inside, but with its pieces there are too many
abbrev pub HasTooMany : How → Triangulation → Format → List ℕ → ℕ → ℕ → Type 0
HasTooMany how tin format text number before =
    IsLayerTooMany tin (IsLayerText how format text) number before MOST_PIECES
