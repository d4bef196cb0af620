-- A run has one outcome.
use Rattle.std.proofs.Common.{◌≡◌, ℕ, true, false, List, [], ◌∷◌, ◌++◌, map, Option, Some}
use Rattle.std.proofs.Common.{Ok, Err, codes, refl, sym, ◌∙◌, ap, ap₂, subst}
use Rattle.std.proofs.lemmas.Option.{same_Some}
use Rattle.shelf_io.specs.Files.{Files, bytes_of}
use Rattle.sheet_base.specs.declared.flags.How.{How}
use Rattle.sheet_base.specs.Sheets.{Contents}
use Rattle.tin_base.specs.declared.pieces.Change.{Change}
use Rattle.tin_base.specs.declared.pieces.Piece.{Piece}
use Rattle.tin_base.specs.Triangulation.{Triangulation}
use Rattle.tin_base.specs.Soundness.{IsSound}
use Rattle.topo_check.proofs.OneList.{changes_are_one}
use Rattle.report_text.specs.ReportText.{report_text}
use Rattle.job_words.specs.declared.faults.WordsFault.{WordsFault}
use Rattle.job_words.specs.declared.formats.Format.{Format}
use Rattle.job_words.specs.declared.formats.Format.TheVariants.{Wkt, GeoJson, Drawing}
use Rattle.job_words.specs.Formats.{format_by_name}
use Rattle.layer_features.specs.declared.features.Feature.{Feature}
use Rattle.layer_features.specs.Laws.{FeaturesAreOne}
use Rattle.layer_features.proofs.DrawingLines.{drawing_features_one}
use Rattle.runs.specs.declared.status.Status.{Status}
use Rattle.runs.specs.declared.refusal.Refusal.{Refusal}
use Rattle.runs.specs.declared.refusal.Refusal.TheVariants.{Words}
use Rattle.runs.specs.Refusals.{status_of, line_of}
use Rattle.runs.specs.Triangulations.{directed_tin}
use Rattle.runs.proofs.OneTin.{tin_end_is_one, sound_of, sound_way}
use Rattle.migrate_mode.specs.declared.migrations.Migration.{Migration}
use Rattle.migrate_mode.specs.LayerRuns.{setting_of, Done, AreCarried}
use Rattle.layer_formats.specs.LayerOutcomes.{IsLayerText, LayerTextsAreOne}
use Rattle.migrate_mode.specs.Migrations.{HasWay, row_of, report_of, all_files_in, IsMigrationRefused, IsMigrationDone}
use Rattle.migrate_mode.specs.RunChanges.{AreListed, end_with}
use Rattle.migrate_mode.specs.Laws.{MigrationIsOne}
use Rattle.migrate_mode.proofs.OneLayers.{run_one}
use Rattle.migrate_mode.proofs.ComparablePieces.{run_inside}
use Rattle.change_places.specs.Words.{PathText, ChangeText}
use Rattle.change_places.specs.PathPlaces.{path_places}
use Rattle.change_places.specs.PlacesText.{places_text}
use Rattle.place_runs.specs.declared.requests.Request.{Request}
use Rattle.place_runs.specs.Words.{AsksPlaces, LacksPlaces}
use Rattle.place_runs.specs.declared.views.View.{View}
use Rattle.place_runs.specs.Places.{ArePathWords, words_there, style_of}
use Rattle.place_runs.specs.Places.{HasPathPlaces, HaveAllPlaces, AreSpotsOf}
use Rattle.place_runs.specs.Places.{ArePlacesOf, IsPlacesDone, printed_of}
use Rattle.place_runs.specs.Outcome.{no_job, refused, done}
use Rattle.place_runs.specs.Laws.{OutcomeIsOne}
use Rattle.place_runs.specs.SidePlaces.{HaveAskedRings}
use Rattle.place_runs.proofs.Outcomes.OneSpot.{spots_one}
use Rattle.place_runs.proofs.Outcomes.PieceOrder.{one_piece}
use Rattle.place_runs.proofs.Outcomes.SideOutcomes.{rings_one, sides_listed}

-- ---- the words
asks_one : (words : List (List ℕ)) (request other : Request) → AsksPlaces words request → AsksPlaces words other
    → request ≡ other
asks_one words request other x y = let e = sym x ∙ y in cc

lacks_one : (words : List (List ℕ)) (fault other : WordsFault) → LacksPlaces words fault → LacksPlaces words other
    → fault ≡ other
lacks_one words fault other x y = let e = sym x ∙ y in cc

asks_lacks : (words : List (List ℕ)) (request : Request) (fault : WordsFault) → AsksPlaces words request
    → LacksPlaces words fault → ⊥
asks_lacks words request fault x y = let e = sym x ∙ y in cc

-- ---- the places of the paths
-- those of the layer's text, whatever sheet it was read as
pub path_words_of : (texts : LayerTextsAreOne) (files : Files) (how : How) (asked : Option (List ℕ)) (name : List ℕ)
    (own : List PathText) (format : Format) (bytes : List ℕ) (sheet : Contents)
    → HasPathPlaces (Some files) how asked name own
    → format_by_name name ≡ Some format → bytes_of files name ≡ Some bytes → IsLayerText how format bytes sheet
    → ArePathWords asked format bytes sheet own
path_words_of texts files how asked name own format bytes sheet x suffix found is =
    let formats : x.format ≡ format = same_Some x.format format (sym x.suffix ∙ suffix) in
    let texts_are : x.bytes ≡ bytes = same_Some x.bytes bytes (sym x.found ∙ found) in
    let read : IsLayerText how format bytes x.sheet =
    subst (λ (f : Format). IsLayerText how f bytes x.sheet) formats
    (subst (λ (t : List ℕ). IsLayerText how x.format t x.sheet) texts_are x.read) in
    let sheets : x.sheet ≡ sheet = (texts how format bytes).one_sheet x.sheet sheet read is in
    subst (λ (s : Contents). ArePathWords asked format bytes s own) sheets
    (subst (λ (t : List ℕ). ArePathWords asked format t x.sheet own) texts_are
    (subst (λ (f : Format). ArePathWords asked f x.bytes x.sheet own) formats x.words_are))

path_words_one : FeaturesAreOne → (asked : Option (List ℕ)) (format : Format) (bytes : List ℕ) (sheet : Contents)
    (a b : List PathText)
    → ArePathWords asked format bytes sheet a → ArePathWords asked format bytes sheet b → a ≡ b
path_words_one ones asked Wkt bytes sheet a b x y = x ∙ sym y
path_words_one ones asked GeoJson bytes sheet a b (features, are, x) (others, also, y) =
    x ∙ (ap (λ (fs : List Feature). map (words_there bytes fs) (path_places false bytes sheet))
    (ones asked bytes features others are also) ∙ sym y)
path_words_one ones asked Drawing bytes sheet a b (features, are, x) (others, also, y) =
    x ∙ (ap (λ (fs : List Feature). map (words_there bytes fs) (path_places true bytes sheet))
    (drawing_features_one bytes features others are also) ∙ sym y)

path_places_one : (ones : FeaturesAreOne) (texts : LayerTextsAreOne) (files : Files) (how : How) (asked : Option (List ℕ))
    (name : List ℕ) (a b : List PathText)
    → HasPathPlaces (Some files) how asked name a → HasPathPlaces (Some files) how asked name b → a ≡ b
path_places_one ones texts files how asked name a b x y =
    path_words_one ones asked y.format y.bytes y.sheet a b
    (path_words_of texts files how asked name a y.format y.bytes y.sheet x y.suffix y.found y.read) y.words_are

all_places_one : (ones : FeaturesAreOne) (texts : LayerTextsAreOne) (files : Files) (how : How) (asked : Option (List ℕ))
    (names : List (List ℕ)) (a b : List (List PathText))
    → HaveAllPlaces (Some files) how asked names a → HaveAllPlaces (Some files) how asked names b → a ≡ b
all_places_one ones texts files how asked [] [] [] x y = refl
all_places_one ones texts files how asked [] [] (own ∷ b) x y = absurd y
all_places_one ones texts files how asked [] (own ∷ a) b x y = absurd x
all_places_one ones texts files how asked (name ∷ names) [] b x y = absurd x
all_places_one ones texts files how asked (name ∷ names) (own ∷ a) [] x y = absurd y
all_places_one ones texts files how asked (name ∷ names) (own ∷ a) (other ∷ b) x y =
    ap₂ (λ (p : List PathText) (ps : List (List PathText)). p ∷ ps)
    (path_places_one ones texts files how asked name own other x.0 y.0)
    (all_places_one ones texts files how asked names a b x.1 y.1)

-- ---- the text
spots_of_one : (files : Files) (migration : Migration) (tin : Triangulation) (ps qs : List Piece) (ds : List Done)
    (used : ℕ) (changes others : List Change) (places also : List (List PathText)) (a b : List ChangeText)
    → AreCarried (setting_of (Some files) migration.how tin) 0 0 [] migration.layers qs ds used → ps ≡ qs
    → changes ≡ others → places ≡ also → AreSpotsOf ps places changes a → AreSpotsOf qs also others b → a ≡ b
spots_of_one files migration tin ps qs ds used changes others places also a b carried pieces_are changes_are places_are
    x y =
    spots_one qs (one_piece (setting_of (Some files) migration.how tin) migration.layers qs ds used carried) also others a b
    (subst (λ (cs : List Change). AreSpotsOf qs also cs a) changes_are
    (subst (λ (ls : List (List PathText)). AreSpotsOf qs ls changes a) places_are
    (subst (λ (rs : List Piece). AreSpotsOf rs places changes a) pieces_are x))) y

places_one : (ones : FeaturesAreOne) (texts : LayerTextsAreOne) (view : View) (files : Files) (migration : Migration) (tin : Triangulation)
    (status other : Status) (said also : List ℕ)
    → IsSound tin → ArePlacesOf view (Some files) migration tin status said
    → ArePlacesOf view (Some files) migration tin other also
    → (status ≡ other) × (said ≡ also)
places_one ones texts view files migration tin status other said also sound x y =
    let one = run_one texts files migration.how tin sound 0 0 [] migration.layers x.pieces y.pieces x.done y.done x.used
    y.used x.carried y.carried in
    let pieces : x.pieces ≡ y.pieces = one.pieces in
    let inside = run_inside (setting_of (Some files) migration.how tin) migration.layers y.pieces y.done y.used
    y.carried in
    let of_x : AreListed tin y.pieces x.changes =
    subst (λ (rs : List Piece). AreListed tin rs x.changes) pieces x.listed in
    let listed = y.listed in
    let changes : x.changes ≡ y.changes = changes_are_one tin y.pieces inside x.changes y.changes of_x.are_changes
    listed.are_changes in
    let printed : printed_of view x.changes ≡ printed_of view y.changes =
    ap (λ (cs : List Change). printed_of view cs) changes in
    let places : x.places ≡ y.places = all_places_one ones texts files migration.how view.member migration.layers x.places y.places
    x.have
    y.have in
    let spots : x.spots ≡ y.spots =
    spots_of_one files migration tin x.pieces y.pieces y.done y.used (printed_of view x.changes)
    (printed_of view y.changes) x.places y.places x.spots y.spots y.carried pieces printed places x.are_spots y.are_spots in
    let of_rings : HaveAskedRings migration.sides view.across (setting_of (Some files) migration.how tin) migration.layers
    y.places x.sides x.rings =
    subst (λ (ps : List (List PathText)). HaveAskedRings migration.sides view.across
    (setting_of (Some files) migration.how tin) migration.layers ps x.sides x.rings) places x.are_rings in
    let rings = rings_one view.across y.places texts files migration.how tin sound migration.sides migration.layers x.sides
    y.sides x.rings y.rings of_rings y.are_rings in (
      x.status_is ∙ (ap₂ end_with printed rings.0 ∙ sym y.status_is),
      x.said_is ∙ (ap₂ (places_text (style_of view) migration.layers) spots rings.1 ∙ sym y.said_is),
    )

-- ---- the triangulation
way_sound : (files : Files) (migration : Migration) (tin : Triangulation) → HasWay files migration tin → IsSound tin
way_sound files migration tin (stood, ready, is) =
    subst (λ (t : Triangulation). IsSound t) (sym is)
    (sound_way migration.inverse stood (sound_of files migration.how migration.tin stood ready))

way_one : (files : Files) (migration : Migration) (tin other : Triangulation) → HasWay files migration tin
    → HasWay files migration other → tin ≡ other
way_one files migration tin other (stood, ready, is) (also, ready_too, is_too) =
    let e = tin_end_is_one files migration.how migration.tin (Ok stood) (Ok also) ready ready_too in
    let same : stood ≡ also = cc in
    is ∙ (ap (λ (t : Triangulation). directed_tin migration.inverse t) same ∙ sym is_too)

done_one : (ones : FeaturesAreOne) (texts : LayerTextsAreOne) (view : View) (files : Files) (migration : Migration) (status other : Status)
    (made others : Files)
    → IsPlacesDone view files migration status made → IsPlacesDone view files migration other others
    → (status ≡ other) × (made ≡ others)
done_one ones texts view files migration status other made others x y =
    let same : x.tin ≡ y.tin = way_one files migration x.tin y.tin x.way y.way in
    let of_x : ArePlacesOf view (Some files) migration y.tin status x.said =
    subst (λ (t : Triangulation). ArePlacesOf view (Some files) migration t status x.said) same x.are in
    let one = places_one ones texts view files migration y.tin status other x.said y.said (way_sound files migration y.tin y.way)
    of_x
    y.are in
    (one.0, x.made_is ∙ (ap (λ (text : List ℕ). (codes "-", text) ∷ []) one.1 ∙ sym y.made_is))

-- ---- a migration that is refused is not done
-- what the migration would write
migration_of : (view : View) (files : Files) (migration : Migration) (status : Status) (made : Files)
    → IsPlacesDone view files migration status made
    → (end : Status) × (layers : Files) × IsMigrationDone files migration end layers
migration_of view files migration status made x =
    let all = x.are in
    let (sides, sided) = sides_listed migration.sides view.across (setting_of (Some files) migration.how x.tin)
    migration.layers all.places all.sides all.rings all.are_rings in (
      end_with all.changes sides,
      all_files_in migration.cert migration.out all.done ++ (
        codes "-",
        report_text
            (report_of migration.tin x.tin (map row_of all.done) all.changes sides),
      ) ∷ [],
      record {
        changes = all.changes;
        sides = sides;
        layers = all_files_in migration.cert migration.out all.done;
        said = report_text (report_of migration.tin x.tin (map row_of all.done) all.changes sides);
        migrated = record {
          tin = x.tin;
          way = x.way;
          pieces = all.pieces;
          done = all.done;
          used = all.used;
          carried =
              all.carried;
          listed = all.listed;
          sided = sided;
          layers_are = refl;
          said_is = refl;
        };
        status_is = refl;
        made_is = refl;
      },
    )

refused_done : (migrations : MigrationIsOne) (view : View) (files : Files) (migration : Migration) (refusal : Refusal)
    (status : Status) (made : Files)
    → IsMigrationRefused files migration refusal → IsPlacesDone view files migration status made → ⊥
refused_done migrations view files migration refusal status made x y =
    let (end, layers, is) = migration_of view files migration status made y in
    let e = migrations files migration (Err refusal) (Ok (end, layers)) x is in cc

refusal_one : (migrations : MigrationIsOne) (files : Files) (migration : Migration) (refusal other : Refusal)
    → IsMigrationRefused files migration refusal → IsMigrationRefused files migration other → refusal ≡ other
refusal_one migrations files migration refusal other x y = let e =
    migrations files migration (Err refusal) (Err other) x y in cc

-- ---- the run
refused_as : (refusal other : Refusal) (status also : Status) (made others : Files) → refusal ≡ other
    → status ≡ status_of refusal → made ≡ (codes "-", line_of refusal) ∷ [] → also ≡ status_of other
    → others ≡ (codes "-", line_of other) ∷ []
    → (status ≡ also) × (made ≡ others)
refused_as refusal other status also made others same s m t n =
    (s ∙ (ap status_of same ∙ sym t), m ∙ (ap (λ (r : Refusal). (codes "-", line_of r) ∷ []) same ∙ sym n))

pub outcome_is_one : FeaturesAreOne → LayerTextsAreOne → MigrationIsOne → OutcomeIsOne
outcome_is_one ones texts migrations words files status other made others (no_job fault lacks s)
    (no_job also lacks_too t) =
    refused_as (Words fault) (Words also) status other made others
    (ap (λ (f : WordsFault). Words f) (lacks_one words fault also lacks lacks_too)) s.status_is s.made_is
    t.status_is t.made_is
outcome_is_one ones texts migrations words files status other made others (no_job fault lacks s)
    (refused request asks refusal why t) =
    absurd (asks_lacks words request fault asks lacks)
outcome_is_one ones texts migrations words files status other made others (no_job fault lacks s)
    (done request asks is) =
    absurd (asks_lacks words request fault asks lacks)
outcome_is_one ones texts migrations words files status other made others (refused request asks refusal why s)
    (no_job fault lacks t) =
    absurd (asks_lacks words request fault asks lacks)
outcome_is_one ones texts migrations words files status other made others (refused request asks refusal why s)
    (refused again asks_too also why_too t) =
    let same = asks_one words request again asks asks_too in
    refused_as refusal also status other made others
    (refusal_one migrations files again.migration refusal also
    (subst (λ (r : Request). IsMigrationRefused files r.migration refusal) same why)
    why_too) s.status_is s.made_is t.status_is t.made_is
outcome_is_one ones texts migrations words files status other made others (refused request asks refusal why s)
    (done again asks_too is) =
    let same = asks_one words request again asks asks_too in
    absurd (refused_done migrations again.view files again.migration refusal other others
    (subst (λ (r : Request). IsMigrationRefused files r.migration refusal) same why) is)
outcome_is_one ones texts migrations words files status other made others (done request asks is)
    (no_job fault lacks t) =
    absurd (asks_lacks words request fault asks lacks)
outcome_is_one ones texts migrations words files status other made others (done request asks is)
    (refused again asks_too refusal why t) =
    let same = asks_one words request again asks asks_too in
    absurd (refused_done migrations again.view files again.migration refusal status made why
    (subst (λ (r : Request). IsPlacesDone r.view files r.migration status made) same is))
outcome_is_one ones texts migrations words files status other made others (done request asks is)
    (done again asks_too is_too) =
    let same = asks_one words request again asks asks_too in
    done_one ones texts again.view files again.migration status other made others
    (subst (λ (r : Request). IsPlacesDone r.view files r.migration status made) same is)
    is_too
