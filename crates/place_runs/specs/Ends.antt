-- How a run ends: by its outcome, after a read fault, because memory ran out, or after a write fault.
use Rattle.std.specs.Prelude.{◌≡◌, ℕ, List, [], ◌∷◌, codes, Option}
use Rattle.shelf_io.specs.Files.{Files}
use Rattle.jtext.specs.Texts.{Whole, IsWhole}
use Rattle.change_places.specs.Laws.{places_depth}
use Rattle.runs.specs.declared.status.Status.{Status}
use Rattle.runs.specs.declared.refusal.Refusal.{Refusal}
use Rattle.runs.specs.declared.refusal.Refusal.TheVariants.{NoMemory}
use Rattle.runs.specs.Refusals.{Refuses}
use Rattle.publication.specs.RunEnds.{EndsSo}
use Rattle.migrate_mode.specs.Migrations.{IsReachedBy, LacksWanted}
use Rattle.place_runs.specs.declared.requests.Request.{Request}
use Rattle.place_runs.specs.Words.{AsksPlaces}
use Rattle.place_runs.specs.Outcome.{HasOutcome}

-- what a run makes unless a write fails
pub data Makes (words : List (List ℕ)) (files : Files) (shelf_rose : Type 0) (status : Status) (made : Files) : Type 0
  where
    by_outcome : HasOutcome words files status made → Makes words files shelf_rose status made
    after_read_fault :
        shelf_rose → (request : Request) → AsksPlaces words request → (refusal : Refusal)
        → IsReachedBy files request.migration refusal → Refuses refusal status made
        → Makes words files shelf_rose status made
    out_of_memory : Refuses NoMemory status made → Makes words files shelf_rose status made

-- how a run ends: it has made what `Makes` says, or after a write fault a first part of that
abbrev pub EndsTold : List (List ℕ) → Files → Type 0 → Type 0 → Status → Option Files → Type 0
EndsTold words files shelf_rose press_rose status made =
    EndsSo (Makes words files shelf_rose) press_rose status made

-- the words ask for a migration, and a file that it wants is missing
abbrev pub LacksWantedOf : List (List ℕ) → Option Files → Type 0
LacksWantedOf words files = (request : Request) × AsksPlaces words request × LacksWanted request.migration files

-- standard output has one JSON text (RFC 8259)
abbrev pub IsJsonFile : Files → Type 0
IsJsonFile made = (said : List ℕ) × (whole : Whole) × (made ≡ (codes "-", said) ∷ []) × IsWhole places_depth whole said
