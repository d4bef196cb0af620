-- Each change of sides says where the paths of its ring and of its point begin.
use Rattle.std.proofs.Common.{◌≡◌, ℕ, zero, suc, ◌<◌, Bool, true, false, List, [], ◌∷◌, length, map, Option, None, Some}
use Rattle.std.proofs.Common.{◌∙◌, sym, subst, arith, get_or}
use Rattle.std.specs.List.{AllByRecursion}
use Rattle.std.proofs.lemmas.List.Elements.{All-contains_itself, recursion_from_All}
use Rattle.shelf_io.specs.Files.{Files}
use Rattle.sheet_base.specs.declared.flags.How.{How}
use Rattle.sheet_base.specs.ImageFits.{Runs}
use Rattle.sheet_base.specs.Sheets.{Contents}
use Rattle.tin_base.specs.Triangulation.{Triangulation}
use Rattle.ring_side.specs.declared.kinds.SideChange.{SideChange}
use Rattle.ring_side.specs.declared.kinds.SideChange.TheVariants.{Turn, Point}
use Rattle.ring_side.specs.ListedSides.{IsSideChange, ListsAreAllSideChanges}
use Rattle.ring_side.specs.SideChanges.{sheet_at, side_changes_of}
use Rattle.dxf_layer.specs.PathEdits.{EachPathHasAnEdit}
use Rattle.layer_formats.specs.LayerOutcomes.{LayerTextsAreOne}
use Rattle.layer_formats.specs.LayerTexts.{is_drawing}
use Rattle.change_places.specs.PathPlaces.{printed_edits, IsKnown}
use Rattle.change_places.specs.Words.{PathText, RingText}
use Rattle.migrate_mode.specs.LayerRuns.{setting_of}
use Rattle.migrate_mode.specs.SideLists.{IsKept, AreKept}
use Rattle.place_runs.specs.WrittenPaths.{words_at}
use Rattle.place_runs.specs.SidePlaces.{ring_text_of, is_side_of_two, printed_sides, HaveAskedRings}
use Rattle.place_runs.specs.Places.{HasPathPlaces, HaveAllPlaces}
use Rattle.place_runs.specs.Laws.{IsRingKnown, AreRingsKnown, AllPlacesAreKnown}
use Rattle.place_runs.proofs.PrintedMaps.Filters.{filtered_have}
use Rattle.place_runs.proofs.LayerPaths.KnownSides.{layer-known, length-places, AreBegunKnown, known-words, known-at, all_spots_known}
use Rattle.place_runs.proofs.Outcomes.OneOutcome.{path_words_of}

printed-all : (P : SideChange → Type 0) (across : Bool) (sides : List SideChange) → AllByRecursion P sides
    → AllByRecursion P (printed_sides across sides)
printed-all P true sides all = filtered_have P is_side_of_two sides all
printed-all P false sides all = all

module _ (edits : EachPathHasAnEdit) (texts : LayerTextsAreOne) (files : Files) (how : How) (asked : Option (List ℕ))
    (tin : Triangulation) where
  -- a layer has a known place for each path of its sheet
  own-paths : (name : List ℕ) (own : List PathText) (sheet : Contents) (images : Runs)
      → HasPathPlaces (Some files) how asked name own → IsKept (setting_of (Some files) how tin) name sheet images
      → AreBegunKnown own × (length own ≡ length sheet.paths)
  own-paths name own sheet images has is =
      let kept = is.kept in
      let are = path_words_of texts files how asked name own is.format is.bytes sheet has is.suffix is.found kept.read in
      let (known, count) = known-words asked is.format is.bytes sheet own
      (layer-known edits how is.format is.bytes sheet kept.read) are in
      (known, count ∙ length-places (printed_edits (is_drawing is.format) is.bytes sheet.edits) 0 sheet.paths)

  path-known : (names : List (List ℕ)) (places : List (List PathText)) (sheets : List Contents) (images : List Runs)
      (layer path : ℕ) → HaveAllPlaces (Some files) how asked names places
      → AreKept (setting_of (Some files) how tin) names sheets images → layer < length sheets
      → path < length (sheet_at sheets layer).paths → IsKnown (words_at places layer path).at
  path-known names places [] images layer path have kept within inside = absurd (omega (arith, within))
  path-known [] places (sheet ∷ sheets) images layer path have kept within inside = absurd kept
  path-known (name ∷ names) places (sheet ∷ sheets) [] layer path have kept within inside = absurd kept
  path-known (name ∷ names) [] (sheet ∷ sheets) (own ∷ images) layer path have kept within inside = absurd have
  path-known (name ∷ names) (words ∷ places) (sheet ∷ sheets) (own ∷ images) zero path (has, have) (is, kept) within
      inside =
      let (known, count) = own-paths name words sheet own has is in known-at words path known (omega (arith, inside, count))
  path-known (name ∷ names) (words ∷ places) (sheet ∷ sheets) (own ∷ images) (suc layer) path (has, have) (is, kept)
      within inside =
      path-known names places sheets images layer path have kept (omega (arith, within)) inside

  module _ (names : List (List ℕ)) (places : List (List PathText)) (sheets : List Contents) (images : List Runs)
      (have : HaveAllPlaces (Some files) how asked names places)
      (kept : AreKept (setting_of (Some files) how tin) names sheets images) where
    ring-known : (side : SideChange) → IsSideChange sheets images side
        → IsRingKnown (ring_text_of sheets images places side)
    ring-known (Turn layer path was now) (ring, of_was, of_now, other) =
        (path-known names places sheets images layer path have kept ring.in_layers ring.in_paths, tt)
    ring-known (Point layer path at was now) (ring, point, of_was, of_now, other) = (
      path-known names places sheets images layer path have kept ring.in_layers ring.in_paths,
      path-known names places sheets images at.layer at.path have kept point.in_layers point.in_paths,
    )

    rings-known : (sides : List SideChange) → AllByRecursion (IsSideChange sheets images) sides
        → AreRingsKnown (map (ring_text_of sheets images places) sides)
    rings-known [] all = tt
    rings-known (side ∷ sides) (own, all) = (ring-known side own, rings-known sides all)

all-sides : ListsAreAllSideChanges → (sheets : List Contents) (images : List Runs)
    → AllByRecursion (IsSideChange sheets images) (side_changes_of sheets images)
all-sides lists sheets images =
    let all = side_changes_of sheets images in
    recursion_from_All (IsSideChange sheets images) all
    (λ k d within. (lists sheets images (get_or all k d)).0 (All-contains_itself all k d within))

asked-known : ListsAreAllSideChanges → EachPathHasAnEdit → LayerTextsAreOne → (files : Files) (how : How)
    (member : Option (List ℕ)) (tin : Triangulation) (asked across : Bool) (names : List (List ℕ))
    (places : List (List PathText)) (sides : Option (List SideChange)) (rings : List RingText)
    → HaveAllPlaces (Some files) how member names places
    → HaveAskedRings asked across (setting_of (Some files) how tin) names places sides rings → AreRingsKnown rings
asked-known lists edits texts files how member tin false across names places None rings have are = rw are tt
asked-known lists edits texts files how member tin false across names places (Some sides) rings have are = absurd are
asked-known lists edits texts files how member tin true across names places None rings have are = absurd are
asked-known lists edits texts files how member tin true across names places (Some sides) rings have are =
    let own = are.are_rings in
    let changes = own.changes in
    let all : AllByRecursion (IsSideChange are.sheets are.images) own.all =
    subst (λ (ss : List SideChange). AllByRecursion (IsSideChange are.sheets are.images) ss) (sym changes.are)
    (all-sides lists are.sheets are.images) in
    let printed : AllByRecursion (IsSideChange are.sheets are.images) sides =
    subst (λ (ss : List SideChange). AllByRecursion (IsSideChange are.sheets are.images) ss) (sym own.sides_are)
    (printed-all (IsSideChange are.sheets are.images) across own.all all) in
    subst (λ (rs : List RingText). AreRingsKnown rs) (sym own.rings_are)
    (rings-known edits texts files how member tin names places are.sheets are.images have are.kept sides printed)

pub all_known : ListsAreAllSideChanges → EachPathHasAnEdit → LayerTextsAreOne → AllPlacesAreKnown
all_known lists edits texts view files migration status made is =
    let are = is.are in (
      all_spots_known edits texts view files migration status made is,
      asked-known lists edits texts files migration.how view.member is.tin migration.sides view.across migration.layers
          are.places are.sides are.rings are.have are.are_rings,
    )
