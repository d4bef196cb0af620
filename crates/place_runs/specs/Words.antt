-- What the words of the command line ask for: a migration whose layers are not written, and how changes are printed.
use Rattle.std.specs.Prelude.{◌≡◌, ℕ, false, List, codes, Result, Ok, Err}
use Rattle.job_words.specs.declared.faults.WordsFault.{WordsFault}
use Rattle.job_words.specs.declared.places.PlacesJob.{PlacesJob}
use Rattle.job_words.specs.PlacesJobs.{places_answer_of, ArePlacesNames}
use Rattle.migrate_mode.specs.declared.migrations.Migration.{Migration}
use Rattle.place_runs.specs.declared.requests.Request.{Request}

-- The migration writes nothing into the folder `.`.
abbrev pub request_of : PlacesJob → Request
request_of job = record {
  migration = record {
    tin = job.tin;
    out = codes ".";
    how = job.how;
    inverse = job.inverse;
    cert = false;
    sides = job.sides;
    layers = job.layers;
  };
  view = record { lines = job.lines; across = job.across; member = job.member };
}

-- what an answer to the words of `tinplaces` asks for
abbrev pub request_in : Result PlacesJob WordsFault → Result Request WordsFault
request_in (Ok job) = Ok (request_of job)
request_in (Err fault) = Err fault

-- the words ask for this
abbrev pub AsksPlaces : List (List ℕ) → Request → Type 0
AsksPlaces words request = request_in (places_answer_of words) ≡ Ok request

-- the words are not understood, and this is their first fault
abbrev pub LacksPlaces : List (List ℕ) → WordsFault → Type 0
LacksPlaces words fault = request_in (places_answer_of words) ≡ Err fault

-- they have a fault
abbrev pub LacksRequest : List (List ℕ) → Type 0
LacksRequest words = (fault : WordsFault) × LacksPlaces words fault

-- the names of the migration may be taken; several layers may have one last part
abbrev pub MayBeCarried : Migration → Type 0
MayBeCarried migration = ArePlacesNames migration.tin migration.layers
