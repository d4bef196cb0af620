-- The text of a map is one of the changes of a run, and JSON.
use Rattle.std.proofs.Common.{◌≡◌, ℕ, ◌<◌, ◌^◌, Bool, List, length, Option, sym, ◌∙◌, ap, subst, arith}
use Rattle.std.specs.List.{AllByRecursion}
use Rattle.tin_base.specs.declared.pieces.Change.{Change}
use Rattle.tin_base.specs.declared.pieces.Piece.{Piece}
use Rattle.tin_base.specs.Triangulation.{Triangulation}
use Rattle.ring_side.specs.declared.kinds.SideChange.{SideChange}
use Rattle.migrate_mode.specs.declared.layer_runs.CarriedLayers.{CarriedLayers}
use Rattle.migrate_mode.specs.RunChanges.{AreListed}
use Rattle.report_text.specs.Reports.{IsPrintable}
use Rattle.change_places.specs.declared.spots.Style.{Style}
use Rattle.change_places.specs.Words.{PathText, ChangeText}
use Rattle.change_places.specs.PlacesText.{places_text}
use Rattle.change_places.specs.Laws.{IsPathCopied, IsRingCopied, AreChangesHeld, IsPlacesJson}
use Rattle.place_runs.specs.declared.change_maps.ChangeMap.{ChangeMap}
use Rattle.place_runs.specs.declared.views.View.{View}
use Rattle.place_runs.specs.Places.{AreSpotsOf, printed_of, style_of}
use Rattle.place_runs.specs.InsidePieces.{HasPieces, AreAllNear, IsPlacesText}
use Rattle.place_runs.specs.InsideMaps.{words_on, rings_on, IsEachOne, AreSpotsOn, HasSides, IsMapOf, IsMapText, HasRoom}
use Rattle.place_runs.proofs.PrintedMaps.ChangePieces.{printed_changes_have}
use Rattle.place_runs.proofs.PrintedMaps.MapParts.{spots_held, spots_count}
use Rattle.place_runs.specs.InsideSides.{AreAskedRingsOf, is_some_feature}
use Rattle.place_runs.proofs.LayerPaths.PathWords.{spots_copied}
use Rattle.place_runs.proofs.PrintedMaps.SideSpots.{rings_copied, some_feature}

-- a map of the changes of a run that are printed
pub printed_map : (view : View) (tin : Triangulation) (run : CarriedLayers) (on : ChangeMap) (all : List Change)
    (sides : Option (List SideChange)) (changed : Bool)
    → AreListed tin run.pieces.items all → on.style ≡ style_of view → on.pieces.items ≡ run.pieces.items
    → on.changes.items ≡ printed_of view all
    → AreAskedRingsOf run.sides view.across run.sheets.items run.images.items (words_on on) sides (rings_on on)
    → changed ≡ is_some_feature on.changes.items on.rings.items
    → IsMapOf view tin run (words_on on) on changed
printed_map view tin run on all sides changed listed style pieces changes rings some = grind (arith, some_feature)

module _ (view : View) (tin : Triangulation) (run : CarriedLayers) (words : List (List PathText)) (on : ChangeMap)
    (changed : Bool) (is : IsMapOf view tin run words on changed) where
  -- the changes of the map have sides
  pub sides_of_map : AreAllNear run.pieces.items → IsEachOne run.pieces.items → HasSides on
  sides_of_map near one = record {
    near = subst (λ (ps : List Piece). AreAllNear ps) (sym is.pieces_are) near;
    one = subst (λ (ps : List Piece). IsEachOne ps) (sym is.pieces_are) one;
    pieces = subst (λ (ps : List Piece). AllByRecursion (HasPieces ps) on.changes.items) (sym is.pieces_are)
        (subst (λ (cs : List Change). AllByRecursion (HasPieces run.pieces.items) cs) (sym is.changes_are)
        (printed_changes_have tin run.pieces.items view is.changes is.listed));
  }

  -- they are those of the changes that are printed
  pub spots_of_map : (spots : List ChangeText) → AreSpotsOn on on.changes.items spots
      → AreSpotsOf run.pieces.items words (printed_of view is.changes) spots
  spots_of_map spots are = grind (arith)

  pub text_of_map : (names : List (List ℕ)) (spots : List ChangeText)
      → places_text on.style names spots (rings_on on) ≡ places_text (style_of view) names spots (rings_on on)
  text_of_map names spots = ap (λ (s : Style). places_text s names spots (rings_on on)) is.style_is

  -- the text is JSON
  pub json_of_map : (names : List (List ℕ)) (room : ℕ) → IsEachOne on.pieces.items → HasRoom names on room
      → length on.changes.items < 2 ^ 64 → AllByRecursion (AllByRecursion IsPathCopied) words
      → AllByRecursion IsPrintable names
      → ((style : Style) (changes : List ChangeText) → AllByRecursion IsPrintable names → AreChangesHeld changes
      → AllByRecursion IsRingCopied (rings_on on) → IsPlacesJson style names changes (rings_on on))
      → (said : List ℕ) → IsMapText names on said → IsPlacesText view names said
  json_of_map names room one has few copied printable json said text = (
    text.spots,
    rings_on on,
    text.said_is ∙ text_of_map names text.spots,
    json (style_of view) text.spots printable
        (record {
          held = spots_held names on room text.spots one has text.are_spots;
          copied = spots_copied run.pieces.items words (printed_of view is.changes) text.spots copied
              (spots_of_map text.spots text.are_spots);
          few = omega (
            arith,
            few,
            spots_count on.pieces.items (words_on on) on.changes.items text.spots text.are_spots,
          );
        })
        (rings_copied run.sides view.across run.sheets.items run.images.items words is.sides (rings_on on) copied
        is.are_rings),
  )
