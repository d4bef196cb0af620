-- A layer ends in one way: it has one first fault, or one first segment that is not carried, or is carried in one way.
use Rattle.std.proofs.Common.{◌≡◌, ℕ, ◌+◌, ◌≤◌, List, ◌++◌, length, Result, Ok, Err, refl, sym, ◌∙◌, ap, ap₂, subst}
use Rattle.sheet_base.specs.declared.edits.Edit.{Edit}
use Rattle.sheet_base.specs.declared.faults.LayerFault.{LayerFault}
use Rattle.sheet_base.specs.declared.flags.How.{How}
use Rattle.sheet_base.specs.Sheets.{Contents}
use Rattle.sheet_base.specs.ImageFits.{Runs}
use Rattle.sheet_base.specs.Outcomes.{HasOneOutcome, OutcomeIsOne}
use Rattle.sheet_base.specs.Splices.{splice_of}
use Rattle.tin_base.specs.declared.pieces.Piece.{Piece}
use Rattle.tin_base.specs.Triangulation.{Triangulation}
use Rattle.tin_base.specs.Soundness.{IsSound}
use Rattle.sheet_pieces.specs.SheetSegments.{sheet_segments}
use Rattle.sheet_pieces.specs.SheetPieces.{ArePiecesOfAll, AreInside}
use Rattle.sheet_pieces.specs.SheetImages.{AreImagesOf}
use Rattle.sheet_pieces.proofs.OneSheet.{images_same}
use Rattle.carry_map.specs.declared.faults.CarryFault.{CarryFault}
use Rattle.carry_map.specs.declared.faults.CarryFault.TheVariants.{Layer, Outside, TooMany, NoMemory}
use Rattle.carry_map.specs.declared.layers.Carried.{Carried}
use Rattle.carry_map.specs.Causes.{IsFirstOutside, IsFirstTooMany}
use Rattle.carry_map.specs.Layers.{IsLayerCarried}
use Rattle.carry_map.specs.LayerEnds.{IsLayerEnd, LayerEndIsOne}
use Rattle.carry_map.proofs.FirstFaults.{first_outside_one, outside_or_many, outside_or_inside, many_or_room, room_of}
use Rattle.carry_map.proofs.OnePieces.{pieces_one}

-- ---- what a carried layer is
abbrev six_of : List ℕ → ℕ → ℕ → ℕ → ℕ → ℕ → Carried
six_of text paths segments pieces inexact dropped =
    record { text = text; paths = paths; segments = segments; pieces = pieces; inexact = inexact; dropped = dropped }

six : (c d : Carried) → c.text ≡ d.text → c.paths ≡ d.paths → c.segments ≡ d.segments → c.pieces ≡ d.pieces
    → c.inexact ≡ d.inexact → c.dropped ≡ d.dropped → c ≡ d
six c d text paths segments pieces inexact dropped =
    ap (λ t. six_of t c.paths c.segments c.pieces c.inexact c.dropped) text
    ∙ (ap (λ n. six_of d.text n c.segments c.pieces c.inexact c.dropped) paths
    ∙ (ap (λ n. six_of d.text d.paths n c.pieces c.inexact c.dropped) segments
    ∙ (ap (λ n. six_of d.text d.paths d.segments n c.inexact c.dropped) pieces
    ∙ (ap (λ n. six_of d.text d.paths d.segments d.pieces n c.dropped) inexact
    ∙ ap (λ n. six_of d.text d.paths d.segments d.pieces d.inexact n) dropped))))

-- ---- the ends of a layer
abbrev End : Type 0
End = Result (Carried × List Piece) CarryFault

abbrev done_at : Carried → List Piece → End
done_at carried pieces = Ok (carried, pieces)

module _ (reads : Contents → Type 0) (refuses : LayerFault → Type 0) (writes : Contents → Runs → Edit → List ℕ)
    (texts : HasOneOutcome reads refuses) (tin : Triangulation) (sound : IsSound tin) (bytes : List ℕ)
    (layer most : ℕ) (before : List Piece) where
  -- by its sheet, its images and its pieces
  abbrev carried_of : Contents → Runs → List Piece → Carried
  carried_of sheet images own =
      six_of (splice_of bytes (writes sheet images) sheet.edits) (length sheet.paths) (length (sheet_segments sheet))
      (length own) sheet.inexact sheet.dropped

  data IsSheetEnd (sheet : Contents) (end : End) : Type 0 where
    outside_end : (path number : ℕ) → end ≡ Err (Outside path number)
        → IsFirstOutside tin layer (length before) most (sheet_segments sheet) path number → IsSheetEnd sheet end
    many_end : end ≡ Err TooMany → IsFirstTooMany tin layer (length before) most (sheet_segments sheet)
        → IsSheetEnd sheet end
    carried_end : (images : Runs) (own : List Piece)
        → end ≡ done_at (carried_of sheet images own) (before ++ own) → AreImagesOf tin sheet images
        → AreInside tin (sheet_segments sheet) → ArePiecesOfAll tin layer (sheet_segments sheet) own
        → length before + length own ≤ most → IsSheetEnd sheet end

  data IsPath (end : End) : Type 0 where
    fault_end : (fault : LayerFault) → end ≡ Err (Layer fault) → refuses fault → IsPath end
    read_end : (sheet : Contents) → reads sheet → IsSheetEnd sheet end → IsPath end

  sheet_end_one : (sheet : Contents) (a b : End) → IsSheetEnd sheet a → IsSheetEnd sheet b → a ≡ b
  sheet_end_one sheet a b (outside_end path number is x) (outside_end way count also y) =
      let one = first_outside_one tin layer (length before) most (sheet_segments sheet) path number way count x y in
      is ∙ (ap₂ (λ (p n : ℕ). Err (Outside p n)) one.0 one.1 ∙ sym also)
  sheet_end_one sheet a b (outside_end path number is x) (many_end also y) =
      absurd (outside_or_many tin layer (length before) most (sheet_segments sheet) path number x y)
  sheet_end_one sheet a b (outside_end path number is x) (carried_end images own also are inside pieces few) =
      absurd (outside_or_inside tin layer (length before) most (sheet_segments sheet) path number x inside)
  sheet_end_one sheet a b (many_end is x) (outside_end path number also y) =
      absurd (outside_or_many tin layer (length before) most (sheet_segments sheet) path number y x)
  sheet_end_one sheet a b (many_end is x) (many_end also y) = is ∙ sym also
  sheet_end_one sheet a b (many_end is x) (carried_end images own also are inside pieces few) =
      absurd (many_or_room tin layer (length before) most (sheet_segments sheet) own x pieces few)
  sheet_end_one sheet a b (carried_end images own is are inside pieces few) (outside_end path number also y) =
      absurd (outside_or_inside tin layer (length before) most (sheet_segments sheet) path number y inside)
  sheet_end_one sheet a b (carried_end images own is are inside pieces few) (many_end also y) =
      absurd (many_or_room tin layer (length before) most (sheet_segments sheet) own y pieces few)
  sheet_end_one sheet a b (carried_end images own is are inside pieces few)
      (carried_end others more also are' inside' pieces' few') =
      let one_image : images ≡ others = images_same tin sheet images others sound are are' in
      let one_list : own ≡ more = pieces_one tin layer (sheet_segments sheet) own more sound pieces pieces' in
      is
      ∙ (ap (λ (i : Runs). done_at (carried_of sheet i own) (before ++ own)) one_image
      ∙ (ap (λ (ps : List Piece). done_at (carried_of sheet others ps) (before ++ ps)) one_list ∙ sym also))

  path_one : (a b : End) → IsPath a → IsPath b → a ≡ b
  path_one a b (fault_end fault is x) (fault_end other also y) = is
      ∙ (ap (λ f. Err (Layer f)) (texts.one_fault fault other x y) ∙ sym also)
  path_one a b (fault_end fault is x) (read_end sheet y end) = absurd (texts.apart sheet fault y x)
  path_one a b (read_end sheet x end) (fault_end fault also y) = absurd (texts.apart sheet fault x y)
  path_one a b (read_end sheet x end) (read_end other y also) =
      sheet_end_one other a b (subst (λ (s : Contents). IsSheetEnd s a) (texts.one_sheet sheet other x y) end) also

  carried_path : (carried : Carried) (after : List Piece)
      → IsLayerCarried tin bytes reads writes layer before after carried → length after ≤ most
      → IsPath (done_at carried after)
  carried_path carried after is few =
      read_end is.sheet is.read
      (carried_end is.images is.own
      (ap₂ done_at
      (six carried (carried_of is.sheet is.images is.own) is.text_is is.paths is.segments is.pieces is.inexact
      is.dropped) is.stand) is.are_images is.inside is.are_pieces (room_of most before is.own after is.stand few))

  path_of : (end : End) → IsLayerEnd reads refuses writes tin bytes layer most before end → IsPath end
  path_of (Ok (carried, after)) (is, few) = carried_path carried after is few
  path_of (Err (Layer fault)) is = fault_end fault refl is
  path_of (Err (Outside path number)) (sheet, read, first) =
      read_end sheet read (outside_end path number refl first)
  path_of (Err TooMany) (sheet, read, first) = read_end sheet read (many_end refl first)
  path_of (Err NoMemory) is = absurd is

  end_one : (end other : End) → IsLayerEnd reads refuses writes tin bytes layer most before end
      → IsLayerEnd reads refuses writes tin bytes layer most before other → end ≡ other
  end_one end other x y = path_one end other (path_of end x) (path_of other y)

-- where the format's texts have one sheet or one first fault
pub layer_end_one : (reads : How → List ℕ → Contents → Type 0) (refuses : How → List ℕ → LayerFault → Type 0)
    (text : List ℕ → How → Contents → Runs → Edit → List ℕ) → OutcomeIsOne reads refuses
    → LayerEndIsOne reads refuses text
layer_end_one reads refuses text texts tin sound how bytes layer most before end other x y =
    end_one (reads how bytes) (refuses how bytes) (text bytes how) (texts how bytes) tin sound bytes layer most before
    end other x y
