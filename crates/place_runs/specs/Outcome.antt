-- What a run makes, as a relation of the words, the shelf's files, the status and the made files.
use Rattle.std.specs.Prelude.{ℕ, List, Option}
use Rattle.shelf_io.specs.Files.{Files}
use Rattle.job_words.specs.declared.faults.WordsFault.{WordsFault}
use Rattle.report_text.specs.declared.rows.LayerRow.{LayerRow}
use Rattle.runs.specs.declared.status.Status.{Status}
use Rattle.runs.specs.declared.refusal.Refusal.{Refusal}
use Rattle.runs.specs.declared.refusal.Refusal.TheVariants.{Words}
use Rattle.runs.specs.Refusals.{Refuses}
use Rattle.migrate_mode.specs.Migrations.{IsMigrationRefused}
use Rattle.place_runs.specs.declared.requests.Request.{Request}
use Rattle.place_runs.specs.Words.{AsksPlaces, LacksPlaces}
use Rattle.place_runs.specs.Places.{IsPlacesDone, AreRowsOf}

-- The status and the made files of a run, where no call of the outside fails and memory does not run out. Where the
-- words ask for a migration, the files refuse it as `tinmove migrate` is refused, or its changes are printed as the words want.
pub data HasOutcome (words : List (List ℕ)) (files : Files) (status : Status) (made : Files) : Type 0 where
  no_job : (fault : WordsFault) → LacksPlaces words fault → Refuses (Words fault) status made
      → HasOutcome words files status made
  refused : (request : Request) → AsksPlaces words request → (refusal : Refusal)
      → IsMigrationRefused files request.migration refusal → Refuses refusal status made
      → HasOutcome words files status made
  done : (request : Request) → AsksPlaces words request
      → IsPlacesDone request.view files request.migration status made → HasOutcome words files status made

-- the words ask for a migration, and its report would say this of each layer
abbrev pub HaveRows : List (List ℕ) → Option Files → List LayerRow → Type 0
HaveRows words told rows = (request : Request) × AsksPlaces words request × AreRowsOf told request.migration rows
