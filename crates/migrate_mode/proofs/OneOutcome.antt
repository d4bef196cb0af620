-- A layer is read and carried in one way, and there is one first segment that is outside or passes the limit.
use Rattle.std.proofs.Common.{◌≡◌, ℕ, List, length, Result, Ok, Err, ap, subst}
use Rattle.sheet_base.specs.Sheets.{Contents}
use Rattle.sheet_base.specs.declared.faults.LayerFault.{LayerFault}
use Rattle.sheet_base.specs.declared.flags.How.{How}
use Rattle.tin_base.specs.declared.pieces.Piece.{Piece}
use Rattle.tin_base.specs.Triangulation.{Triangulation}
use Rattle.tin_base.specs.Soundness.{IsSound}
use Rattle.sheet_pieces.specs.SheetSegments.{sheet_segments}
use Rattle.carry_map.specs.Causes.{IsFirstOutside, IsFirstTooMany}
use Rattle.carry_map.specs.declared.faults.CarryFault.{CarryFault}
use Rattle.carry_map.specs.declared.layers.Carried.{Carried}
use Rattle.carry_map.specs.declared.limits.TheConstants.{MOST_PIECES}
use Rattle.carry_map.proofs.FirstFaults.{first_outside_one, outside_or_many, outside_or_inside, many_or_room, room_of}
use Rattle.carry_map.proofs.OneEnd.{layer_end_one}
use Rattle.job_words.specs.declared.formats.Format.{Format}
use Rattle.layer_formats.specs.LayerTexts.{reads_of, refuses_of, text_of}
use Rattle.layer_formats.specs.LayerOutcomes.{LayerTextsAreOne, LacksLayerText}
use Rattle.migrate_mode.specs.LayerOutcomes.{IsCarried, IsOutside, HasTooMany}

-- ---- the layer
module _ (texts : LayerTextsAreOne) (how : How) (tin : Triangulation) (format : Format) (text : List ℕ) (layer : ℕ)
    (before : List Piece) where
  pub lacks_outside : (fault : LayerFault) (path number old : ℕ) → LacksLayerText how format text fault
      → IsOutside how tin format text layer old path number → ⊥
  lacks_outside fault path number old lacks (sheet, reads, is) = (texts how format text).apart sheet fault reads lacks

  pub lacks_many : (fault : LayerFault) (old : ℕ) → LacksLayerText how format text fault
      → HasTooMany how tin format text layer old → ⊥
  lacks_many fault old lacks (sheet, reads, is) = (texts how format text).apart sheet fault reads lacks

  pub lacks_carried : (fault : LayerFault) (pieces : List Piece) (carried : Carried)
      → LacksLayerText how format text fault → IsCarried how tin format text layer before pieces carried → ⊥
  lacks_carried fault pieces carried lacks is = let it =
      is.layer in (texts how format text).apart it.sheet fault it.read lacks

pub outside_one : (texts : LayerTextsAreOne) (how : How) (tin : Triangulation) (format : Format) (text : List ℕ)
    (layer old path number way count : ℕ) → IsOutside how tin format text layer old path number
    → IsOutside how tin format text layer old way count
    → (path ≡ way) × (number ≡ count)
outside_one texts how tin format text layer old path number way count (sheet, reads, is) (other, reads_too, too) =
    first_outside_one tin layer old MOST_PIECES (sheet_segments other) path number way count
    (subst (λ (s : Contents). IsFirstOutside tin layer old MOST_PIECES (sheet_segments s) path number)
    ((texts how format text).one_sheet sheet other reads reads_too) is) too

pub outside_many : (texts : LayerTextsAreOne) (how : How) (tin : Triangulation) (format : Format) (text : List ℕ)
    (layer old path number : ℕ) → IsOutside how tin format text layer old path number
    → HasTooMany how tin format text layer old → ⊥
outside_many texts how tin format text layer old path number (sheet, reads, is) (other, reads_too, too) =
    outside_or_many tin layer old MOST_PIECES (sheet_segments other) path number
    (subst (λ (s : Contents). IsFirstOutside tin layer old MOST_PIECES (sheet_segments s) path number)
    ((texts how format text).one_sheet sheet other reads reads_too) is) too

pub outside_carried : (texts : LayerTextsAreOne) (how : How) (tin : Triangulation) (format : Format) (text : List ℕ)
    (layer old path number : ℕ) (before pieces : List Piece) (carried : Carried)
    → IsOutside how tin format text layer old path number
    → IsCarried how tin format text layer before pieces carried → ⊥
outside_carried texts how tin format text layer old path number before pieces carried (sheet, reads, is) done =
    let it = done.layer in
    outside_or_inside tin layer old MOST_PIECES (sheet_segments it.sheet) path number
    (subst (λ (s : Contents). IsFirstOutside tin layer old MOST_PIECES (sheet_segments s) path number)
    ((texts how format text).one_sheet sheet it.sheet reads it.read) is) it.inside

pub many_carried : (texts : LayerTextsAreOne) (how : How) (tin : Triangulation) (format : Format) (text : List ℕ)
    (layer : ℕ) (before pieces : List Piece) (carried : Carried) → HasTooMany how tin format text layer (length before)
    → IsCarried how tin format text layer before pieces carried → ⊥
many_carried texts how tin format text layer before pieces carried (sheet, reads, is) done =
    let it = done.layer in
    many_or_room tin layer (length before) MOST_PIECES (sheet_segments it.sheet) it.own
    (subst (λ (s : Contents). IsFirstTooMany tin layer (length before) MOST_PIECES (sheet_segments s))
    ((texts how format text).one_sheet sheet it.sheet reads it.read) is) it.are_pieces
    (room_of MOST_PIECES before it.own pieces it.stand done.few)

-- two ends at which the layer is carried are one
abbrev End : Type 0
End = Result (Carried × List Piece) CarryFault

abbrev carried_at : Carried → End → Carried
carried_at carried (Ok end) = end.0
carried_at carried (Err fault) = carried

abbrev pieces_at : List Piece → End → List Piece
pieces_at pieces (Ok end) = end.1
pieces_at pieces (Err fault) = pieces

both_one : (texts : LayerTextsAreOne) (how : How) (tin : Triangulation) (format : Format) (text : List ℕ)
    (number : ℕ) (before pieces others : List Piece) (carried other : Carried) → IsSound tin
    → IsCarried how tin format text number before pieces carried
    → IsCarried how tin format text number before others other
    → ◌≡◌ {A = End} (Ok (carried, pieces)) (Ok (other, others))
both_one texts how tin format text number before pieces others carried other sound is too =
    layer_end_one (reads_of format) (refuses_of format) (text_of format) (λ how text. texts how format text) tin sound
    how text number MOST_PIECES before (Ok (carried, pieces)) (Ok (other, others)) (is.layer, is.few)
    (too.layer, too.few)

pub carried_one : (texts : LayerTextsAreOne) (how : How) (tin : Triangulation) (format : Format) (text : List ℕ)
    (number : ℕ) (before pieces others : List Piece) (carried other : Carried) → IsSound tin
    → IsCarried how tin format text number before pieces carried
    → IsCarried how tin format text number before others other → carried ≡ other
carried_one texts how tin format text number before pieces others carried other sound is too =
    ap (carried_at carried)
    (both_one texts how tin format text number before pieces others carried other sound is too)

-- and into the same pieces
pub carried_pieces_one : (texts : LayerTextsAreOne) (how : How) (tin : Triangulation) (format : Format) (text : List ℕ)
    (number : ℕ) (before pieces others : List Piece) (carried other : Carried) → IsSound tin
    → IsCarried how tin format text number before pieces carried
    → IsCarried how tin format text number before others other → pieces ≡ others
carried_pieces_one texts how tin format text number before pieces others carried other sound is too =
    ap (pieces_at pieces)
    (both_one texts how tin format text number before pieces others carried other sound is too)
