-- Each side of a change has a place that is known.
use Rattle.std.proofs.lemmas.Grind.{common_steps}
use Rattle.std.proofs.Common.{◌≡◌, ℕ, zero, suc, ◌+◌, ◌<◌, List, [], ◌∷◌, ◌++◌, length, get_or, map, Option, None, Some}
use Rattle.std.proofs.Common.{refl, sym, ◌∙◌, ap, subst, append_assoc, zero-add, arith}
use Rattle.std.specs.List.{AllByRecursion}
use Rattle.std.proofs.lemmas.List.{get_or_at, length_push}
use Rattle.plain_laws.proofs.Lists.{all_append}
use Rattle.shelf_io.specs.Files.{Files}
use Rattle.plane_base.specs.declared.shapes.Pt.{Pt}
use Rattle.sheet_base.specs.declared.edits.Edit.{Edit}
use Rattle.sheet_base.specs.declared.flags.How.{How}
use Rattle.sheet_base.specs.declared.paths.PathRow.{PathRow}
use Rattle.sheet_base.specs.PointHeights.{Height}
use Rattle.sheet_base.specs.Sheets.{Contents}
use Rattle.tin_base.specs.declared.pieces.Change.{Change}
use Rattle.tin_base.specs.declared.pieces.Piece.{Piece}
use Rattle.tin_base.specs.declared.pieces.Place.{Place}
use Rattle.tin_base.specs.Triangulation.{Triangulation}
use Rattle.dxf_layer.specs.PathEdits.{EachPathHasAnEdit}
use Rattle.sheet_pieces.specs.SheetSegments.{SheetSegment, vertices_from, segments_begun, sheet_segments}
use Rattle.sheet_pieces.specs.SheetPieces.{first_place, ArePiecesOfAll}
use Rattle.job_words.specs.declared.formats.Format.{Format}
use Rattle.job_words.specs.declared.formats.Format.TheVariants.{Wkt, GeoJson, Drawing}
use Rattle.layer_formats.specs.LayerOutcomes.{IsLayerText, LayerTextsAreOne}
use Rattle.layer_formats.specs.LayerTexts.{is_drawing}
use Rattle.migrate_mode.specs.LayerRuns.{setting_of, Done, AreCarried}
use Rattle.change_places.specs.Words.{PathText, SideText, ChangeText}
use Rattle.layer_features.specs.declared.features.Feature.{Feature}
use Rattle.change_places.specs.PathPlaces.{places_from, printed_edits, path_places, AreBegun, IsKnown, AreKnown}
use Rattle.change_places.proofs.KnownPlaces.{places_known}
use Rattle.place_runs.specs.WrittenPaths.{no_words}
use Rattle.place_runs.specs.Places.{IsPlacesDone, HaveAllPlaces, words_among, IsSideOf, AreSpotsOf, printed_of, ArePathWords, words_in}
use Rattle.place_runs.specs.Laws.{AreSpotsKnown}
use Rattle.runs.specs.declared.status.Status.{Status}
use Rattle.migrate_mode.specs.declared.migrations.Migration.{Migration}
use Rattle.place_runs.specs.declared.views.View.{View}
use Rattle.place_runs.proofs.LayerPaths.DrawingPaths.{drawing_begun}
use Rattle.place_runs.proofs.LayerPaths.GeoJsonPaths.{geojson_begun}
use Rattle.place_runs.proofs.Outcomes.OneOutcome.{path_words_of}
use Rattle.place_runs.proofs.Outcomes.PieceOrder.{InPath, begun_in, FromPlace, told_from}
use Rattle.place_runs.proofs.LayerPaths.WktPaths.{wkt_begun}
use Rattle.sheet_pieces.proofs.PathSegments.{begun_append}

-- ---- the places of a layer
begun-layer : EachPathHasAnEdit → (how : How) (format : Format) (text : List ℕ) (sheet : Contents)
    → IsLayerText how format text sheet → AreBegun sheet.edits 0 sheet.paths
begun-layer edits how Wkt text sheet is = wkt_begun how.exact text sheet is
begun-layer edits how GeoJson text sheet is = geojson_begun how.exact text sheet is
begun-layer edits how Drawing text sheet is = drawing_begun edits how text sheet is

pub layer-known : EachPathHasAnEdit → (how : How) (format : Format) (text : List ℕ) (sheet : Contents)
    → IsLayerText how format text sheet → AreKnown (path_places (is_drawing format) text sheet)
layer-known edits how format text sheet is =
    places_known (is_drawing format) text sheet (begun-layer edits how format text sheet is)

pub length-places : (edits : List Edit) (number : ℕ) (rows : List PathRow)
    → length (places_from edits number rows) ≡ length rows
length-places edits number [] = refl
length-places edits number (row ∷ rows) = ap suc (length-places edits (number + 1) rows)

-- where each of some paths begins is known
abbrev pub AreBegunKnown : List PathText → Type 0
AreBegunKnown [] = Unit {0}
AreBegunKnown (spot ∷ spots) = IsKnown spot.at × AreBegunKnown spots

module _ (words : Option ℕ → PathText) (same : (at : Option ℕ) → (words at).at ≡ at) where
  known-mapped : (places : List (Option ℕ)) → AreKnown places → AreBegunKnown (map words places)
  known-mapped [] are = tt
  known-mapped (at ∷ places) (is, are) = (subst IsKnown (sym (same at)) is, known-mapped places are)

  length-mapped : (places : List (Option ℕ)) → length (map words places) ≡ length places
  length-mapped [] = refl
  length-mapped (at ∷ places) = ap suc (length-mapped places)

at-in : (bytes : List ℕ) (at : Option ℕ) (found : Option Feature) → (words_in bytes at found).at ≡ at
at-in bytes at None = refl
at-in bytes at (Some feature) = refl

-- where the paths of a layer begin is known, where its places are
pub known-words : (asked : Option (List ℕ)) (format : Format) (bytes : List ℕ) (sheet : Contents) (own : List PathText)
    → AreKnown (path_places (is_drawing format) bytes sheet) → ArePathWords asked format bytes sheet own
    → AreBegunKnown own × (length own ≡ length (path_places (is_drawing format) bytes sheet))
known-words asked Wkt bytes sheet own known are = grind (arith, known-mapped, length-mapped)
known-words asked GeoJson bytes sheet own known (features, list, are) =
    grind (arith, known-mapped, at-in, length-mapped)
known-words asked Drawing bytes sheet own known (features, list, are) =
    grind (arith, known-mapped, at-in, length-mapped)

pub known-at : (places : List PathText) (k : ℕ) → AreBegunKnown places → k < length places
    → IsKnown (get_or places k no_words).at
known-at [] k are within = absurd (omega (arith, within))
known-at (place ∷ places) zero (is, are) within = is
known-at (place ∷ places) (suc k) (is, are) within = known-at places k are (omega (arith, within))

-- ---- a segment is of a path of its sheet
abbrev IsBelow : ℕ → SheetSegment → Type 0
IsBelow past s = s.path < past

below-in : (path past n : ℕ) (ss : List SheetSegment) → path < past → InPath path n ss
    → AllByRecursion (IsBelow past) ss
below-in path past n [] less has = tt
below-in path past n (s ∷ ss) less ((is, from), has) = (omega (arith, less, is), below-in path past n ss less has)

vertices-below : (points : List Pt) (heights : List Height) (path : ℕ) (rows : List PathRow)
    → AllByRecursion (IsBelow (path + length rows)) (segments_begun (vertices_from points heights path rows))
vertices-below points heights path [] = tt
vertices-below points heights path (row ∷ rows) =
    grind (arith, begun_append, all_append, below-in, begun_in, (vertices-below points heights (path + 1) rows))

sheet-below : (sheet : Contents) → AllByRecursion (IsBelow (length sheet.paths)) (sheet_segments sheet)
sheet-below sheet = grind (arith, zero-add, vertices-below)

-- ---- so is a piece
abbrev IsOfPath : ℕ → ℕ → Piece → Type 0
IsOfPath layer past q = (q.from.layer ≡ layer) × (q.from.path < past)

paths-from : (from : Place) (past : ℕ) (ps : List Piece) → from.path < past → FromPlace from ps
    → AllByRecursion (IsOfPath from.layer past) ps
paths-from from past [] less has = tt
paths-from from past (p ∷ ps) less ((layer, path, segment, later), has) =
    ((layer, omega (arith, less, path)), paths-from from past ps less has)

paths-of-all : (tin : Triangulation) (layer past : ℕ) (segments : List SheetSegment) (ps : List Piece)
    → AllByRecursion (IsBelow past) segments → ArePiecesOfAll tin layer segments ps
    → AllByRecursion (IsOfPath layer past) ps
paths-of-all tin layer past [] ps below is =
    subst (λ (qs : List Piece). AllByRecursion (IsOfPath layer past) qs) (sym is) tt
paths-of-all tin layer past (s ∷ segments) ps (first, below) (own, rest, is, here, others) =
    subst (λ (qs : List Piece). AllByRecursion (IsOfPath layer past) qs) (sym is)
    (all_append (IsOfPath layer past) own rest
    (paths-from (first_place layer s) past own first
    (told_from tin s.a s.b (first_place layer s) here.parts own here.told))
    (paths-of-all tin layer past segments rest below others))

-- ---- the pieces of all layers
abbrev IsKnownOf : List (List PathText) → Piece → Type 0
IsKnownOf places q = IsKnown (words_among places q.from).at

abbrev KnownAll : List (List PathText) → List Piece → Type 0
KnownAll places pieces = AllByRecursion (IsKnownOf places) pieces

own-known : (places : List (List PathText)) (own : List PathText) (layer past : ℕ) (ps : List Piece)
    → get_or places layer [] ≡ own → AreBegunKnown own → length own ≡ past → AllByRecursion (IsOfPath layer past) ps
    → KnownAll places ps
own-known places own layer past [] is are count of = tt
own-known places own layer past (q ∷ qs) is are count ((same, less), of) =
    grind (arith, get_or, known-at, (own-known places own layer past qs is are count of))

module _ (edits : EachPathHasAnEdit) (texts : LayerTextsAreOne) (files : Files) (how : How)
    (asked : Option (List ℕ)) (tin : Triangulation) where
  carried-known : (number used : ℕ) (before : List Piece) (names : List (List ℕ)) (after : List Piece)
      (done : List Done) (total : ℕ) (front rest : List (List PathText)) → length front ≡ number
      → HaveAllPlaces (Some files) how asked names rest → KnownAll (front ++ rest) before
      → AreCarried (setting_of (Some files) how tin) number used before names after done total
      → KnownAll (front ++ rest) after
  carried-known number used before [] after done total front rest count have known (is, none, sum) =
      subst (λ (ps : List Piece). KnownAll (front ++ rest) ps) (sym is) known
  carried-known number used before (name ∷ names) after done total front [] count have known next = absurd have
  carried-known number used before (name ∷ names) after done total front (own ∷ more) count have known
      (bytes, pieces, first, others, next, are, behind) =
      let layer = next.carried.layer in
      let begun = path_places (is_drawing first.format) bytes layer.sheet in
      let are = path_words_of texts files how asked name own first.format bytes layer.sheet have.0
      next.file.suffix next.file.found layer.read in
      let (known_own, count_own) = known-words asked first.format bytes layer.sheet own
      (layer-known edits how first.format bytes layer.sheet layer.read) are in
      let few : length own ≡ length layer.sheet.paths =
      count_own
      ∙ length-places (printed_edits (is_drawing first.format) bytes layer.sheet.edits) 0 layer.sheet.paths in
      let now : KnownAll (front ++ own ∷ more) pieces =
      subst (λ (ps : List Piece). KnownAll (front ++ own ∷ more) ps) (sym layer.stand)
      (all_append (IsKnownOf (front ++ own ∷ more)) before layer.own known
      (own-known (front ++ own ∷ more) own number (length layer.sheet.paths) layer.own
      (get_or_at front own more [] number count) known_own few
      (paths-of-all tin number (length layer.sheet.paths) (sheet_segments layer.sheet) layer.own
      (sheet-below layer.sheet) layer.are_pieces))) in
      let later : (front ++ own ∷ []) ++ more ≡ front ++ own ∷ more = append_assoc front (own ∷ []) more in
      subst (λ (ps : List (List PathText)). KnownAll ps after) later
      (carried-known (number + 1) (used + length bytes) pieces names after others total (front ++ own ∷ []) more
      (length_push front own ∙ ap (λ (n : ℕ). n + 1) count) have.1
      (subst (λ (ps : List (List PathText)). KnownAll ps pieces) (sym later) now) behind)

-- ---- sides and changes
known-of : (places : List (List PathText)) (pieces : List Piece) (piece : Piece) (k : ℕ) → KnownAll places pieces
    → k < length pieces → get_or pieces k piece ≡ piece → IsKnown (words_among places piece.from).at
known-of places [] piece k known within is = absurd (omega (arith, within))
known-of places (q ∷ qs) piece zero (own, known) within is =
    subst (λ (p : Piece). IsKnown (words_among places p.from).at) is own
known-of places (q ∷ qs) piece (suc k) (own, known) within is =
    known-of places qs piece k known (omega (arith, within)) is

side-known : (places : List (List PathText)) (pieces : List Piece) (from : Place) (side : SideText)
    → KnownAll places pieces → IsSideOf pieces places from side → IsKnown side.path.at
side-known places pieces from side known is = grind (arith, known-of)

spots-known : (places : List (List PathText)) (pieces : List Piece) (changes : List Change) (spots : List ChangeText)
    → KnownAll places pieces → AreSpotsOf pieces places changes spots → AreSpotsKnown spots
spots-known places pieces [] [] known are = tt
spots-known places pieces [] (spot ∷ spots) known are = absurd are
spots-known places pieces (change ∷ changes) [] known are = absurd are
spots-known places pieces (change ∷ changes) (spot ∷ spots) known (is, are) =
    grind (arith, common_steps, side-known, (spots-known places pieces changes spots known are))

pub all_spots_known : EachPathHasAnEdit → LayerTextsAreOne → (view : View) (files : Files) (migration : Migration)
    (status : Status) (made : Files) → (is : IsPlacesDone view files migration status made) → AreSpotsKnown is.are.spots
all_spots_known edits texts view files migration status made is =
    let are = is.are in
    spots-known are.places are.pieces (printed_of view are.changes) are.spots
    (carried-known edits texts files migration.how view.member is.tin 0 0 [] migration.layers are.pieces are.done are.used []
    are.places
    refl are.have tt are.carried)
    are.are_spots
