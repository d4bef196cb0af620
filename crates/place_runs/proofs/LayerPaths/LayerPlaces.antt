-- Where the paths of layers begin, with one layer more, and why a layer is not read.
use Rattle.std.proofs.Common.{◌≡◌, ℕ, ◌+◌, ◌<◌, Bool, true, false, map, List, [], ◌∷◌, ◌++◌, length, take, get_or, Option, None}
use Rattle.std.proofs.Common.{Some, IfSome, arith, sym, ◌∙◌, ap, ap₂, subst, length-append}
use Rattle.std.proofs.lemmas.List.{take_more}
use Rattle.shelf_io.specs.Files.{Files, bytes_of}
use Rattle.sheet_base.specs.declared.flags.How.{How}
use Rattle.tin_base.specs.Triangulation.{Triangulation}
use Rattle.report_text.specs.declared.rows.LayerRow.{LayerRow}
use Rattle.job_words.specs.declared.formats.Format.{Format}
use Rattle.job_words.specs.declared.formats.Format.TheVariants.{Wkt, GeoJson, Drawing}
use Rattle.layer_formats.specs.LayerOutcomes.{IsLayerText}
use Rattle.layer_features.specs.declared.features.Feature.{Feature}
use Rattle.layer_formats.specs.LayerTexts.{is_drawing}
use Rattle.layer_formats.specs.LayerFeatures.{HasFeatures}
use Rattle.sheet_base.specs.Sheets.{Contents}
use Rattle.change_places.specs.PathPlaces.{path_places}
use Rattle.change_places.specs.Words.{PathText, path_words, layer_words}
use Rattle.job_words.specs.Formats.{format_by_name}
use Rattle.change_places.specs.declared.spots.PathSpot.{PathSpot}
use Rattle.runs.specs.declared.refusal.Refusal.{Refusal}
use Rattle.runs.specs.Status.{end_of}
use Rattle.runs.specs.Triangulations.{HasDirectedOver}
use Rattle.migrate_mode.specs.declared.layer_runs.CarriedLayers.{CarriedLayers}
use Rattle.migrate_mode.specs.declared.migrations.Migration.{Migration}
use Rattle.migrate_mode.specs.LayerRuns.{setting_of}
use Rattle.migrate_mode.specs.RunContents.{AddsNone, HasCarried, HasKept}
use Rattle.place_runs.specs.declared.views.View.{View}
use Rattle.place_runs.specs.Places.{words_there, words_by_line, HasPathPlaces, HaveAllPlaces, IsPlacesDoneOver, AreRowsOf}
use Rattle.place_runs.specs.InsideLayers.{HasPlacesAs, HasPlaces, LacksPlacesOf, line_spots, named_spots, spot_there}
use Rattle.place_runs.proofs.PrintedMaps.SideSpots.{rings_have}
use Rattle.place_runs.proofs.LayerPaths.PathWords.{there_words, line_words, lines_of_places, words_append}
use Rattle.place_runs.specs.InsidePieces.{said_file}
use Rattle.place_runs.specs.InsideMaps.{IsMapOf, IsMapText}
use Rattle.place_runs.specs.declared.change_maps.ChangeMap.{ChangeMap}
use Rattle.place_runs.proofs.PrintedMaps.MapTexts.{spots_of_map, text_of_map}

places-append : (told : Option Files) (how : How) (asked : Option (List ℕ)) (names : List (List ℕ))
    (words : List (List PathText)) (name : List ℕ) (own : List PathText)
    → HaveAllPlaces told how asked names words → HasPathPlaces told how asked name own
    → HaveAllPlaces told how asked (names ++ name ∷ []) (words ++ own ∷ [])
places-append told how asked [] [] name own have has = (has, tt)
places-append told how asked [] (first ∷ words) name own have has = absurd have
places-append told how asked (other ∷ names) [] name own have has = absurd have
places-append told how asked (other ∷ names) (first ∷ words) name own have has =
    (have.0, places-append told how asked names words name own have.1 has)

-- the layer at a place
pub more_places : (told : Option Files) (how : How) (asked : Option (List ℕ)) (names : List (List ℕ)) (i : ℕ)
    (name : List ℕ) (format : Format) (bytes : List ℕ) (own : List PathSpot) (before now : List (List PathSpot))
    (texts longer : List (List ℕ)) → i < length names → name ≡ get_or names i name
    → length texts ≡ length before → HaveAllPlaces told how asked (take i names) (layer_words texts before)
    → format_by_name name ≡ Some format → IfSome told (λ files. bytes_of files name ≡ Some bytes)
    → HasPlaces how asked format bytes own → now ≡ before ++ own ∷ [] → longer ≡ texts ++ bytes ∷ []
    → HaveAllPlaces told how asked (take (i + 1) names) (layer_words longer now)
more_places told how asked names i name format bytes own before now texts longer within is count have suffix found
    (sheet, read, are) next added =
    let more : take (i + 1) names ≡ take i names ++ name ∷ [] = take_more names i name within
    ∙ ap (λ (n : List ℕ). take i names ++ n ∷ []) (sym is) in
    let words : List PathText = map (path_words bytes) own in
    let has : HasPathPlaces told how asked name words = record {
      format = format;
      bytes = bytes;
      sheet = sheet;
      suffix = suffix;
      found = found;
      read = read;
      words_are = are;
    } in
    let all : layer_words longer now ≡ layer_words texts before ++ words ∷ [] =
    ap₂ layer_words added next ∙ words_append texts before bytes own count in
    subst (λ (ns : List (List ℕ)). HaveAllPlaces told how asked ns (layer_words longer now)) (sym more)
    (subst (λ (ws : List (List PathText)). HaveAllPlaces told how asked (take i names ++ name ∷ []) ws) (sym all)
    (places-append told how asked (take i names) (layer_words texts before) name words have has))

pub count_more : {A B : Type 0} (texts : List A) (places : List B) (text : A) (own : B) (longer : List A) (now : List B)
    → length texts ≡ length places → longer ≡ texts ++ text ∷ [] → now ≡ places ++ own ∷ [] → length longer ≡ length now
count_more texts places text own longer now is added next = grind (arith, length-append)

-- ---- the paths of a layer
by_lines : (bytes : List ℕ) (sheet : Contents) (places lines : List (Option ℕ)) → places ≡ path_places false bytes sheet
    → lines ≡ path_places true bytes sheet
    → map (path_words bytes) (line_spots 0 places lines) ≡ map (words_by_line bytes) (path_places false bytes sheet)
by_lines bytes sheet places lines begun at = grind (arith, line_words, lines_of_places)

by_features : (bytes : List ℕ) (features : List Feature) (places there : List (Option ℕ)) → places ≡ there
    → map (path_words bytes) (map (spot_there features) places) ≡ map (words_there bytes features) there
by_features bytes features places there begun =
    there_words bytes features places ∙ ap (map (words_there bytes features)) begun

pub spots_are : (how : How) (asked : Option (List ℕ)) (format : Format) (bytes : List ℕ)
    (places lines : List (Option ℕ)) (found : Option (List Feature)) (spots : List PathSpot)
    → HasPlacesAs (IsLayerText how format bytes) (is_drawing format) bytes places lines
    → HasFeatures asked format bytes found → spots ≡ named_spots found places lines
    → HasPlaces how asked format bytes spots
spots_are how asked Wkt bytes places lines None spots (sheet, reads, begun, at) has is =
    (sheet, reads, ap (map (path_words bytes)) is ∙ by_lines bytes sheet places lines begun at)
spots_are how asked GeoJson bytes places lines (Some all) spots (sheet, reads, begun, at) has is = (
  sheet,
  reads,
  (
    all,
    has,
    ap (map (path_words bytes)) is ∙ by_features bytes all places (path_places false bytes sheet) begun,
  ),
)
spots_are how asked Drawing bytes places lines (Some all) spots (sheet, reads, begun, at) has is = (
  sheet,
  reads,
  (
    all,
    has,
    ap (map (path_words bytes)) is ∙ by_features bytes all places (path_places true bytes sheet) begun,
  ),
)
spots_are how asked Wkt bytes places lines (Some all) spots begun has is = absurd has
spots_are how asked GeoJson bytes places lines None spots begun has is = absurd has
spots_are how asked Drawing bytes places lines None spots begun has is = absurd has

-- a layer that is not read is not carried
pub adds_none : (how : How) (tin : Triangulation) (number : ℕ) (name bytes : List ℕ) (before : ℕ) (format : Format)
    (refusal : Refusal) → format_by_name name ≡ Some format → LacksPlacesOf how format bytes number refusal
    → AddsNone how tin number name bytes before refusal
adds_none how tin number name bytes before format refusal suffix lacks =
    record { format = format; suffix = suffix; why = lacks tin before }

-- ---- all layers, carried without certificates
-- a text of the map of the changes of the pieces is that of the migration
pub places_done : (view : View) (told : Option Files) (migration : Migration) (tin : Triangulation) (run : CarriedLayers)
    (places : List (List PathText)) (map : ChangeMap) (changed : Bool)
    → HasDirectedOver told migration.how migration.tin migration.inverse tin
    → HasCarried (setting_of told migration.how tin) false migration.out migration.layers run
    → HasKept run.sides (setting_of told migration.how tin) migration.layers run → run.sides ≡ migration.sides
    → HaveAllPlaces told migration.how view.member migration.layers places
    → IsMapOf view tin run places map changed
    → (said : List ℕ) → IsMapText migration.layers map said
    → IsPlacesDoneOver view told migration (end_of changed) (said_file said)
places_done view told migration tin run places map changed ready has kept same have is =
    grind (arith, spots_of_map, rings_have, text_of_map)

-- what a report would say of the layers that were carried
pub rows_done : (told : Option Files) (migration : Migration) (tin : Triangulation) (run : CarriedLayers) (rows : List LayerRow)
    → HasDirectedOver told migration.how migration.tin migration.inverse tin
    → HasCarried (setting_of told migration.how tin) false migration.out migration.layers run → rows ≡ run.rows.items
    → AreRowsOf told migration rows
rows_done told migration tin run rows ready has is = grind (arith)
