-- The pieces of changes, and one change more.
use Rattle.std.proofs.Common.{◌≡◌, ℕ, zero, suc, ◌+◌, ◌<◌, List, [], ◌∷◌, All, Contains, length, drop}
use Rattle.std.proofs.Common.{get_or, slice_index_or, Bool, true, false, refl, sym, ◌∙◌, ap, subst, arith}
use Rattle.std.specs.List.{AllByRecursion, filter}
use Rattle.std.proofs.lemmas.List.Elements.{recursion_from_All}
use Rattle.std.proofs.lemmas.List.{drop_more}
use Rattle.tin_base.specs.declared.pieces.Change.{Change}
use Rattle.tin_base.specs.declared.pieces.Piece.{Piece}
use Rattle.tin_base.specs.declared.pieces.Place.{Place}
use Rattle.tin_base.specs.Triangulation.{Triangulation}
use Rattle.topo_check.specs.Changes.{AreAllComparable}
use Rattle.migrate_mode.specs.KeptRelations.{IsOfSomePair}
use Rattle.migrate_mode.specs.RunChanges.{AreListed}
use Rattle.migrate_mode.proofs.PairChanges.{all_and_only}
use Rattle.change_places.specs.declared.spots.PathSpot.{PathSpot}
use Rattle.change_places.specs.declared.spots.SideSpot.{SideSpot}
use Rattle.change_places.specs.Words.{PathText, SideText, ChangeText, side_words, layer_words}
use Rattle.place_runs.proofs.PrintedMaps.Filters.{filter_all, filtered_have}
use Rattle.place_runs.proofs.LayerPaths.PathWords.{words_of_spot}
use Rattle.place_runs.specs.InsidePieces.{side_at}
use Rattle.seg_gap.specs.Gaps.{IsGap}
use Rattle.seg_gap.specs.Ends.{IsNearestEnd}
use Rattle.plane_base.specs.declared.shapes.Pt.{Pt}
use Rattle.place_runs.specs.Places.{IsSideOf, IsSpotOf, printed_of}
use Rattle.place_runs.specs.declared.views.View.{View}
use Rattle.place_runs.specs.InsidePieces.{IsPieceAt, HasPiece, HasPieces, AreAllNear, side_of, is_printed}

-- pieces that may be compared are near each other as they are written
pub all_near : (tin : Triangulation) (pieces : List Piece) → AreAllComparable tin pieces → AreAllNear pieces
all_near tin pieces all p q (i, within, is) (j, inside, are) = grind (arith, slice_index_or)

-- ---- elements by their numbers
step : (xs : List Piece) (n : ℕ) (e other : Piece) → n < length xs → get_or xs n other ≡ get_or xs n e
step [] n e other below = absurd (omega (arith, below))
step (x ∷ xs) zero e other below = refl
step (x ∷ xs) (suc n) e other below = step xs n e other (omega (arith, below))

-- the piece of this number is among the pieces
here : (xs : List Piece) (k : ℕ) (e : Piece) → k < length xs → Contains xs (get_or xs k e)
here xs k e within = (k, within, step xs k e (get_or xs k e) within)

-- both sides of a change have a piece
pair_has : (tin : Triangulation) (pieces : List Piece) (change : Change) → IsOfSomePair tin pieces change
    → HasPieces pieces change
pair_has tin pieces change (i, j, d, less, within, of) = grind (arith, get_or, here)

changes_have : (tin : Triangulation) (pieces : List Piece) (changes : List Change) → AreListed tin pieces changes
    → All (HasPieces pieces) changes
changes_have tin pieces changes listed k d within =
    let both = all_and_only tin pieces changes listed.are_changes in
    pair_has tin pieces (slice_index_or changes k d) (both.only k d within)

-- ---- the first piece of a place

behind : (piece : Piece) (rest : List Piece) (place : Place) → (piece.from ≡ place → ⊥) → HasPiece (piece ∷ rest) place
    → HasPiece rest place
behind piece rest place other (found, has) = grind (arith)

-- or it is a later one
pub left_behind : (pieces : List Piece) (i : ℕ) (e : Piece) (place : Place) → i < length pieces
    → ((let piece = get_or pieces i e in piece.from ≡ place) → ⊥) → HasPiece (drop i pieces) place
    → HasPiece (drop (i + 1) pieces) place
left_behind pieces i e place within other has = grind (arith, behind, get_or, drop_more)

-- ---- the two sides of a change
side_is : (pieces : List Piece) (places : List (List PathText)) (from : Place) (piece : Piece)
    → IsPieceAt pieces from piece → IsSideOf pieces places from (side_of places piece)
side_is pieces places from piece is = grind (arith)

pub spot_is : (pieces : List Piece) (places : List (List PathText)) (change : Change) (p q : Piece) (gap : ℕ)
    (place : Pt) → IsPieceAt pieces change.first p → IsPieceAt pieces change.second q → IsGap p.ia p.ib q.ia q.ib gap
    → IsNearestEnd p.ia p.ib q.ia q.ib place
    → IsSpotOf pieces places change (record {
      first = side_of places p;
      second = side_of places q;
      was =
          change.was;
      now = change.now;
      gap = gap;
      place = place;
    })
spot_is pieces places change p q gap place first second gap_is place_is = grind (arith, side_is)

-- ---- the changes that are printed
printed_filtered : (view : View) (across : Bool) (changes : List Change) → view.across ≡ across
    → printed_of view changes ≡ filter (is_printed view) changes
printed_filtered view true changes is = rw is refl
printed_filtered view false changes is = rw is (sym (filter_all changes))

pub printed_are : (view : View) (changes : List Change) → printed_of view changes ≡ filter (is_printed view) changes
printed_are view changes = printed_filtered view view.across changes refl

printed_have : (pieces : List Piece) (view : View) (changes : List Change)
    → AllByRecursion (HasPieces pieces) changes → AllByRecursion (HasPieces pieces) (printed_of view changes)
printed_have pieces view changes all = grind (arith, printed_are, filtered_have)

-- their sides have pieces
pub printed_changes_have : (tin : Triangulation) (pieces : List Piece) (view : View) (changes : List Change)
    → AreListed tin pieces changes → AllByRecursion (HasPieces pieces) (printed_of view changes)
printed_changes_have tin pieces view changes listed =
    printed_have pieces view changes
    (recursion_from_All (HasPieces pieces) changes (changes_have tin pieces changes listed))

-- ---- from the spots that are kept of changes
-- the words of the side of a piece
side_in_words : (texts : List (List ℕ)) (places : List (List PathSpot)) (piece : Piece)
    → side_words texts (side_at places piece) ≡ side_of (layer_words texts places) piece
side_in_words texts places piece = grind (arith, words_of_spot)

pub spot_in_words : (pieces : List Piece) (texts : List (List ℕ)) (places : List (List PathSpot)) (change : Change)
    (p q : Piece) (first second : SideSpot) (gap : ℕ) (place : Pt) → first ≡ side_at places p → second ≡ side_at places q
    → IsPieceAt pieces change.first p → IsPieceAt pieces change.second q → IsGap p.ia p.ib q.ia q.ib gap
    → IsNearestEnd p.ia p.ib q.ia q.ib place
    → IsSpotOf pieces (layer_words texts places) change (record {
      first = side_words texts first;
      second = side_words texts second;
      was = change.was;
      now = change.now;
      gap = gap;
      place = place;
    })
spot_in_words pieces texts places change p q first second gap place is are at_p at_q gap_is nearest =
    let words = layer_words texts places in
    let one : side_words texts first ≡ side_of words p = ap (side_words texts) is ∙ side_in_words texts places p in
    let two : side_words texts second ≡ side_of words q = ap (side_words texts) are ∙ side_in_words texts places q in
    subst (λ (s : SideText). IsSpotOf pieces words change (spot_by s (side_words texts second))) (sym one)
    (subst (λ (s : SideText). IsSpotOf pieces words change (spot_by (side_of words p) s)) (sym two)
    (spot_is pieces words change p q gap place at_p at_q gap_is nearest))
  where
    spot_by : SideText → SideText → ChangeText
    spot_by one other =
        record { first = one; second = other; was = change.was; now = change.now; gap = gap; place = place }
