-- What a run may make, why it is refused, and that what it prints is JSON.
use Rattle.std.proofs.Common.{◌≡◌, ◌≢◌, ℕ, List, [], ◌∷◌, codes, Option, None, Some, IfSome, refl, sym, ◌∙◌}
use Rattle.std.proofs.Common.{ap, subst}
use Rattle.shelf_io.specs.Files.{Files}
use Rattle.job_words.specs.declared.faults.WordsFault.{WordsFault}
use Rattle.job_words.specs.declared.faults.WordsFault.TheVariants.{NoMemory as WordsMemory}
use Rattle.report_text.specs.declared.rows.LayerRow.{LayerRow}
use Rattle.runs.specs.declared.status.Status.{Status}
use Rattle.runs.specs.declared.refusal.Refusal.{Refusal}
use Rattle.runs.specs.declared.refusal.Refusal.TheVariants.{Words}
use Rattle.runs.specs.Refusals.{status_of, line_file}
use Rattle.runs.specs.Causes.{HasCauses, by_the_files, unread, no_room}
use Rattle.runs.specs.Counts.{ShelfCounts}
use Rattle.runs.proofs.RefusalLines.{memory-line, never-write}
use Rattle.runs.proofs.RunEnds.{by_memory}
use Rattle.publication.specs.Fronts.{HasWritten}
use Rattle.publication.specs.RunEnds.{HasStatusCauses}
use Rattle.publication.proofs.RunEnds.{refusal_causes, handed_out}
use Rattle.migrate_mode.specs.declared.migrations.Migration.{Migration}
use Rattle.migrate_mode.specs.Migrations.{MayRefuseMigration, MayRefuseMigrationOver, LacksWanted}
use Rattle.place_runs.specs.declared.requests.Request.{Request}
use Rattle.place_runs.specs.Words.{AsksPlaces, LacksPlaces, LacksRequest}
use Rattle.place_runs.specs.HandedOut.{HandsOut, IsRefusalOfRun}
use Rattle.place_runs.specs.Outcome.{no_job, refused, done}
use Rattle.place_runs.specs.Places.{IsPlacesDone, IsPlacesDoneOver}
use Rattle.place_runs.specs.Ends.{Makes, by_outcome, after_read_fault, out_of_memory, IsJsonFile, LacksWantedOf}
use Rattle.place_runs.specs.InsidePieces.{IsPlacesText}
use Rattle.place_runs.specs.declared.views.View.{View}
use Rattle.change_places.specs.PlacesValue.{places_whole}
use Rattle.jtext.specs.Texts.{IsWhole}
use Rattle.change_places.specs.Laws.{places_depth}
use Rattle.place_runs.specs.Places.{style_of}

-- a refusal of the migration is what a run may make
pub makes_refusal : (words : List (List ℕ)) (files : Files) (shelf_rose : Type 0) (request : Request)
    (refusal : Refusal) → AsksPlaces words request → MayRefuseMigration files request.migration shelf_rose refusal
    → Makes words files shelf_rose (status_of refusal) (line_file refusal)
makes_refusal words files shelf_rose request refusal asks (by_the_files is) =
    by_outcome (refused request asks refusal is (record { status_is = refl; made_is = refl }))
makes_refusal words files shelf_rose request refusal asks (unread rose reached) =
    after_read_fault rose request asks refusal reached (record { status_is = refl; made_is = refl })
makes_refusal words files shelf_rose request refusal asks (no_room is) =
    out_of_memory (record { status_is = is; made_is = ap (λ line. (codes "-", line) ∷ []) (memory-line refusal is) })

-- what refuses the migration over what the shelf states refuses it over its files
pub refused_told : (told : Option Files) (migration : Migration) (rose : Type 0) (refusal : Refusal)
    → MayRefuseMigrationOver told migration rose refusal
    → IfSome told (λ files. MayRefuseMigration files migration rose refusal)
refused_told None migration rose refusal why = tt
refused_told (Some files) migration rose refusal why = why

-- what is done over what the shelf states is done over its files
pub done_told : (told : Option Files) (view : View) (migration : Migration) (status : Status) (made : Files)
    → IsPlacesDoneOver view told migration status made
    → IfSome told (λ files. IsPlacesDone view files migration status made)
done_told None view migration status made is = tt
done_told (Some files) view migration status made is = is

-- the text of its changes is
pub makes_places : (words : List (List ℕ)) (files : Files) (shelf_rose : Type 0) (request : Request)
    (status : Status) (made : Files) → AsksPlaces words request
    → IsPlacesDone request.view files request.migration status made
    → Makes words files shelf_rose status made
makes_places words files shelf_rose request status made asks is = by_outcome (done request asks is)

-- words that are not understood, or memory ran out while they were read
pub makes_no_job : (words : List (List ℕ)) (files : Files) (shelf_rose : Type 0) (fault : WordsFault)
    → (fault ≢ WordsMemory → LacksPlaces words fault)
    → Makes words files shelf_rose (status_of (Words fault)) (line_file (Words fault))
makes_no_job words files shelf_rose fault lacks =
    by_memory
    (λ (f : WordsFault). (f ≢ WordsMemory → LacksPlaces words f)
    → Makes words files shelf_rose (status_of (Words f)) (line_file (Words f)))
    (λ lacks. out_of_memory (record { status_is = refl; made_is = refl }))
    (λ f other lacks. by_outcome (no_job f (lacks other) (record { status_is = refl; made_is = refl }))) fault lacks

-- ---- a refusal
-- it is handed out where its line was printed and no rows are
pub refusal_handed : (words : List (List ℕ)) (told : Option Files) (counts : ShelfCounts) (refusal : Refusal)
    (status : Status) (made : Option Files) (handed : Option Refusal) (rows : List LayerRow)
    → HasWritten (line_file refusal) (status_of refusal) status made → handed ≡ Some refusal → rows ≡ []
    → IsRefusalOfRun words told counts refusal → HandsOut words told counts status made handed rows
refusal_handed words told counts refusal status made handed rows written is none why =
    subst (λ (h : Option Refusal). HandsOut words told counts status made h rows) (sym is) (record {
      refusal = handed_out _ (line_file refusal) (status_of refusal) status made (never-write refusal) written why;
      done = tt;
      status_is = tt;
      json = tt;
      rows_are = tt;
      no_rows = none;
    })

-- words that ask for a migration have no fault
pub asks_or_lacks : (words : List (List ℕ)) (request : Request) → AsksPlaces words request → LacksRequest words → ⊥
asks_or_lacks words request asks (fault, lacks) = let e = sym asks ∙ lacks in cc

pub request_causes : (words : List (List ℕ)) (told : Option Files) (counts : ShelfCounts) (request : Request)
    (refusal : Refusal) (result : Status) (made : Option Files) → AsksPlaces words request
    → HasCauses (LacksWanted request.migration told) (λ (status : Status). Unit {0}) counts refusal
    → HasWritten (line_file refusal) (status_of refusal) result made
    → HasStatusCauses (LacksRequest words) (LacksWantedOf words told) counts result made
request_causes words told counts request refusal result made asks why written =
    refusal_causes (LacksRequest words) (LacksWantedOf words told) counts result made
    (LacksWanted request.migration told) (λ (status : Status). Unit {0}) refusal (asks_or_lacks words request asks)
    (λ lacks. (request, asks, lacks)) why written

-- ---- the text is JSON
pub json_told : (view : View) (names : List (List ℕ)) (said : List ℕ) (made : Option Files)
    → IsPlacesText view names said → IfSome made (λ files. files ≡ (codes "-", said) ∷ []) → IfSome made IsJsonFile
json_told view names said None is made = tt
json_told view names said (Some files) (spots, rings, text, json) made = (
  said,
  places_whole (style_of view) names json.values json.ring_values,
  made,
  subst (λ (t : List ℕ).
      IsWhole places_depth (places_whole (style_of view) names json.values json.ring_values) t) (sym text) json.whole,
)
