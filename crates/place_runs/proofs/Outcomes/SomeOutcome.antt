-- A run has an outcome.
use Rattle.std.proofs.Common.{◌≡◌, ℕ, ◌+◌, true, false, map, List, [], ◌∷◌, length, Option, Some, Result, Ok, Err, codes, refl}
use Rattle.std.specs.List.{AllByRecursion}
use Rattle.shelf_io.specs.Files.{Files}
use Rattle.sheet_base.specs.declared.flags.How.{How}
use Rattle.tin_base.specs.declared.pieces.Change.{Change}
use Rattle.tin_base.specs.declared.pieces.Piece.{Piece}
use Rattle.tin_base.specs.Triangulation.{Triangulation}
use Rattle.seg_gap.specs.Laws.{GapExists, NearestEndExists}
use Rattle.job_words.specs.declared.faults.WordsFault.{WordsFault}
use Rattle.job_words.specs.PlacesJobs.{places_answer_of, PlacesJobsAreKept}
use Rattle.layer_formats.specs.LayerOutcomes.{IsLayerText}
use Rattle.job_words.specs.declared.formats.Format.{Format}
use Rattle.job_words.specs.declared.formats.Format.TheVariants.{Wkt, GeoJson, Drawing}
use Rattle.layer_features.specs.Laws.{FeaturesExist}
use Rattle.layer_features.specs.DrawingFeatures.{pair_features}
use Rattle.dxf_pairs.specs.declared.pairs.Pair.{Pair}
use Rattle.dxf_pairs.specs.declared.faults.PairFault.{PairFault}
use Rattle.dxf_pairs.specs.Pairs.{drawing}
use Rattle.dxf_layer.specs.Drawings.{from_pairs, drawing_sheet}
use Rattle.sheet_base.specs.declared.faults.LayerFault.{LayerFault}
use Rattle.sheet_base.specs.Sheets.{Contents}
use Rattle.runs.specs.declared.status.Status.{Status}
use Rattle.runs.specs.declared.refusal.Refusal.TheVariants.{Words}
use Rattle.runs.specs.Refusals.{status_of, line_file}
use Rattle.migrate_mode.specs.declared.migrations.Migration.{Migration}
use Rattle.migrate_mode.specs.LayerRuns.{setting_of, Done, AreCarried}
use Rattle.migrate_mode.specs.Laws.{End, IsMigrationEnd, MigrationExists}
use Rattle.migrate_mode.specs.Migrations.{IsMigrationDone}
use Rattle.migrate_mode.specs.RunChanges.{end_with}
use Rattle.change_places.specs.Words.{PathText, ChangeText}
use Rattle.change_places.specs.PathPlaces.{path_places}
use Rattle.change_places.specs.PlacesText.{places_text}
use Rattle.place_runs.specs.declared.requests.Request.{Request}
use Rattle.place_runs.specs.Words.{AsksPlaces, MayBeCarried, request_in}
use Rattle.place_runs.proofs.Outcomes.WordsOfPlaces.{request_kept}
use Rattle.place_runs.specs.declared.views.View.{View}
use Rattle.place_runs.specs.InsidePieces.{HasPieces, side_of}
use Rattle.place_runs.specs.Places.{ArePathWords, words_there, words_by_line, HaveAllPlaces, AreSpotsOf, IsPlacesDone, printed_of, style_of}
use Rattle.place_runs.specs.Outcome.{HasOutcome, no_job, refused, done}
use Rattle.place_runs.specs.Laws.{OutcomeExists}
use Rattle.place_runs.proofs.PrintedMaps.ChangePieces.{printed_changes_have, spot_is}
use Rattle.place_runs.proofs.Outcomes.SideOutcomes.{some_rings}

-- ---- where the paths of carried layers begin
-- a drawing that was read has pairs
pairs_of : (bytes : List ℕ) (how : How) (sheet : Contents) (answer : Result (List Pair) PairFault)
    → drawing bytes ≡ answer
    → ◌≡◌ {A = Result Contents LayerFault} (from_pairs bytes how answer) (Ok sheet)
    → (pairs : List Pair) × (drawing bytes ≡ Ok pairs)
pairs_of bytes how sheet (Ok pairs) is read = (pairs, is)
pairs_of bytes how sheet (Err fault) is read = cc

some_pairs : (bytes : List ℕ) (how : How) (sheet : Contents) → drawing_sheet how bytes ≡ Ok sheet
    → (pairs : List Pair) × (drawing bytes ≡ Ok pairs)
some_pairs bytes how sheet read = pairs_of bytes how sheet (drawing bytes) refl read

some_words : FeaturesExist → (asked : Option (List ℕ)) (how : How) (format : Format) (bytes : List ℕ) (sheet : Contents)
    → IsLayerText how format bytes sheet → (words : List PathText) × ArePathWords asked format bytes sheet words
some_words exist asked how Wkt bytes sheet is = (map (words_by_line bytes) (path_places false bytes sheet), refl)
some_words exist asked how GeoJson bytes sheet (part, (whole, text, read), are) =
    let (features, list) = exist asked bytes whole text in
    (map (words_there bytes features) (path_places false bytes sheet), (features, list, refl))
some_words exist asked how Drawing bytes sheet is =
    let (pairs, are) = some_pairs bytes how sheet is in (
      map (words_there bytes (pair_features bytes pairs)) (path_places true bytes sheet),
      (pair_features bytes pairs, (pairs, are, refl), refl),
    )

all_places : FeaturesExist → (asked : Option (List ℕ)) (files : Files) (how : How) (tin : Triangulation) (number used : ℕ) (before : List Piece)
    (names : List (List ℕ)) (pieces : List Piece) (ds : List Done) (total : ℕ)
    → AreCarried (setting_of (Some files) how tin) number used before names pieces ds total
    → (places : List (List PathText)) × HaveAllPlaces (Some files) how asked names places
all_places exist asked files how tin number used before [] pieces ds total carried = ([], tt)
all_places exist asked files how tin number used before (name ∷ names) pieces ds total
    (bytes, own, first, rest, next, are, others) =
    let (more, have) = all_places exist asked files how tin (number + 1) (used + length bytes) own names pieces rest total others in
    let file = next.file in
    let carried = next.carried in
    let layer = carried.layer in
    let (own_words, own_are) = some_words exist asked how first.format bytes layer.sheet layer.read in (
      own_words ∷ more,
      (
        record {
          format = first.format;
          bytes = bytes;
          sheet = layer.sheet;
          suffix = file.suffix;
          found = file.found;
          read = layer.read;
          words_are = own_are;
        },
        have,
      ),
    )

-- ---- the sides of changes and their gaps
all_spots : GapExists → NearestEndExists → (pieces : List Piece) (places : List (List PathText)) (changes : List Change)
    → AllByRecursion (HasPieces pieces) changes → (spots : List ChangeText) × AreSpotsOf pieces places changes spots
all_spots gaps ends pieces places [] have = ([], tt)
all_spots gaps ends pieces places (change ∷ changes) (((p, first), (q, second)), have) =
    let (spots, are) = all_spots gaps ends pieces places changes have in
    let (gap, is) = gaps p.ia p.ib q.ia q.ib in
    let (place, nearest) = ends p.ia p.ib q.ia q.ib in (
      (record {
        first = side_of places p;
        second = side_of places q;
        was = change.was;
        now = change.now;
        gap = gap;
        place = place;
      }) ∷ spots,
      (spot_is pieces places change p q gap place first second is nearest, are),
    )

-- ---- a migration that is done has places
places_of : FeaturesExist → GapExists → NearestEndExists → (view : View) (files : Files) (migration : Migration) (status : Status) (layers : Files)
    → IsMigrationDone files migration status layers → (made : Files) × ((end : Status) × IsPlacesDone view files migration end made)
places_of exist gaps ends view files migration status layers is =
    let all = is.migrated in
    let (places, have) = all_places exist view.member files migration.how all.tin 0 0 [] migration.layers all.pieces all.done all.used
    all.carried in
    let (spots, are) = all_spots gaps ends all.pieces places (printed_of view is.changes)
    (printed_changes_have all.tin all.pieces view is.changes all.listed) in
    let some = some_rings migration.sides view.across (setting_of (Some files) migration.how all.tin) migration.layers places
    is.sides all.sided in
    let said = places_text (style_of view) migration.layers spots some.rings in (
      (codes "-", said) ∷ [],
      (
        end_with (printed_of view is.changes) some.sides,
        record {
          tin = all.tin;
          way = all.way;
          said = said;
          are = record {
            pieces = all.pieces;
            done = all.done;
            used = all.used;
            carried = all.carried;
            changes = is.changes;
            listed = all.listed;
            places = places;
            have = have;
            spots = spots;
            are_spots = are;
            sides = some.sides;
            rings = some.rings;
            are_rings = some.have;
            said_is = refl;
            status_is = refl;
          };
          made_is = refl;
        },
      ),
    )

-- ---- a run
abbrev HasSomeOutcome : List (List ℕ) → Files → Type 0
HasSomeOutcome words files = (status : Status) × (made : Files) × HasOutcome words files status made

module _ (exist : FeaturesExist) (gaps : GapExists) (ends : NearestEndExists) (migrations : MigrationExists)
    (words : List (List ℕ)) (files : Files) where
  by_request : (request : Request) → AsksPlaces words request → MayBeCarried request.migration
      → HasSomeOutcome words files
  by_request request asks kept =
      let formats = kept.formats in
      let (end, is) = migrations files request.migration formats in by end is
    where
      by : (end : End) → IsMigrationEnd files request.migration end → HasSomeOutcome words files
      by (Ok (status, written)) is =
          let (made, (end, are)) = places_of exist gaps ends request.view files request.migration status written is in
          (end, made, done request asks are)
      by (Err refusal) is = (
        status_of refusal,
        line_file refusal,
        refused request asks refusal is (record { status_is = refl; made_is = refl }),
      )

  by_answer : PlacesJobsAreKept → (answer : Result Request WordsFault) → request_in (places_answer_of words) ≡ answer
      → HasSomeOutcome words files
  by_answer kept (Ok request) asks = by_request request asks (request_kept kept words request asks)
  by_answer kept (Err fault) lacks = (
    status_of (Words fault),
    line_file (Words fault),
    no_job fault lacks (record { status_is = refl; made_is = refl }),
  )

pub outcome_exists : FeaturesExist → PlacesJobsAreKept → MigrationExists → GapExists → NearestEndExists → OutcomeExists
outcome_exists exist kept migrations gaps ends words files =
    by_answer exist gaps ends migrations words files kept (request_in (places_answer_of words)) refl
