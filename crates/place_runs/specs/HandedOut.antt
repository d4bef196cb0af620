-- What a run hands out beside its status: the refusal that came, or none where the changes were printed, and the rows of
-- what was carried.
use Rattle.std.specs.Prelude.{◌≡◌, ◌≢◌, ◌⊎◌, List, [], ◌∷◌, ℕ, codes, Option, IfSome, IfNone}
use Rattle.shelf_io.specs.Files.{Files}
use Rattle.job_words.specs.declared.faults.WordsFault.{WordsFault}
use Rattle.job_words.specs.declared.faults.WordsFault.TheVariants.{NoMemory as WordsMemory}
use Rattle.report_text.specs.declared.rows.LayerRow.{LayerRow}
use Rattle.runs.specs.declared.status.Status.{Status}
use Rattle.runs.specs.declared.status.Status.TheVariants.{Same, Changed, Write}
use Rattle.runs.specs.declared.refusal.Refusal.{Refusal}
use Rattle.runs.specs.declared.refusal.Refusal.TheVariants.{Words}
use Rattle.runs.specs.Causes.{HasCauses}
use Rattle.runs.specs.Counts.{ShelfCounts, HasFailed}
use Rattle.runs.specs.Refusals.{status_of, line_file}
use Rattle.publication.specs.Fronts.{HasWritten}
use Rattle.publication.specs.RunEnds.{IsHandedOut}
use Rattle.migrate_mode.specs.Migrations.{LacksWanted, MayRefuseMigrationOver}
use Rattle.place_runs.specs.declared.requests.Request.{Request}
use Rattle.place_runs.specs.Words.{AsksPlaces, LacksPlaces}
use Rattle.place_runs.specs.Outcome.{HaveRows}
use Rattle.place_runs.specs.Places.{IsPlacesDoneOver}
use Rattle.place_runs.specs.Ends.{IsJsonFile}

-- the words are refused for their fault; memory may run out while they are read
abbrev pub IsRefusalOfWords : List (List ℕ) → Refusal → Type 0
IsRefusalOfWords words refusal =
    (fault : WordsFault) × (refusal ≡ Words fault) × (fault ≢ WordsMemory → LacksPlaces words fault)

-- What the refusal of a migration says, whether or not the shelf states its files.
pub record IsRefusalOfRequest (told : Option Files) (counts : ShelfCounts) (request : Request) (refusal : Refusal) :
    Type 0 where
  -- what the shelf states gives it, or some bytes where it states nothing; or a read failed, or memory ran out
  pub refused : MayRefuseMigrationOver told request.migration (HasFailed counts) refusal
  -- what the counts say of it
  pub counted : HasCauses (LacksWanted request.migration told) (λ status. Unit {0}) counts refusal

-- why a run is refused: for its words, or as their migration may be
abbrev pub IsRefusalOfRun : List (List ℕ) → Option Files → ShelfCounts → Refusal → Type 0
IsRefusalOfRun words told counts refusal =
    IsRefusalOfWords words refusal
    ⊎ ((request : Request) × AsksPlaces words request × IsRefusalOfRequest told counts request refusal)

-- What is known of a run that is not refused, whether or not the shelf states its files.
pub record IsRunDone (words : List (List ℕ)) (told : Option Files) (status : Status) (made : Option Files) : Type 0
  where
    -- the words ask for a migration whose changes are printed
    pub request : Request
    pub asks : AsksPlaces words request
    -- this text has them, and this status says whether there is one: of what the shelf states, or of some bytes
    pub said : List ℕ
    pub wanted : Status
    pub places : IsPlacesDoneOver request.view told request.migration wanted ((codes "-", said) ∷ [])
    -- the text is made, and the run ends so; or after a write fault a first part is made
    pub written : HasWritten ((codes "-", said) ∷ []) wanted status made

-- What is handed out: a refusal, or none, and the rows of layers.
pub record HandsOut (words : List (List ℕ)) (told : Option Files) (counts : ShelfCounts) (status : Status)
    (made : Option Files) (handed : Option Refusal) (rows : List LayerRow) : Type 0 where
  -- where there is one it is the refusal that came, also where its line could not be printed whole
  pub refusal : IfSome handed (λ refusal. IsHandedOut (IsRefusalOfRun words told counts refusal) (status_of refusal)
      (line_file refusal) status made)
  -- where there is none the changes are those of the migration, and what is made is of their text
  pub done : IfNone handed (IsRunDone words told status made)
  pub status_is : IfNone handed ((status ≡ Same) ⊎ ((status ≡ Changed) ⊎ (status ≡ Write)))
  -- and where standard output could be written, it has one JSON text
  pub json : IfNone handed (status ≢ Write → IfSome made IsJsonFile)
  -- the rows are those of the migration's report, and with a refusal there are none
  pub rows_are : IfNone handed (HaveRows words told rows)
  pub no_rows : IfSome handed (λ refusal. rows ≡ [])
