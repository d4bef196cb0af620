-- What the words of `tinplaces` ask for, or the first fault that they have.
use Rattle.std.specs.Prelude.{◌≡◌, ◌≢◌, ◌⊎◌, ◌≤◌, List, [], ◌∷◌, length, Option, Result, Ok, Err, codes}
use Rattle.std.specs.List.{AllByRecursion}
use Rattle.std.specs.Option.{option_map_or}
use Rattle.clap.specs.Walk.{Row, Text, first_of}
use Rattle.job_words.specs.declared.limits.TheConstants.{MOST_LAYERS}
use Rattle.job_words.specs.declared.places.PlacesJob.{PlacesJob}
use Rattle.job_words.specs.declared.faults.Which.TheVariants.{Tin}
use Rattle.job_words.specs.declared.faults.WordsFault.{WordsFault}
use Rattle.job_words.specs.declared.faults.WordsFault.TheVariants.{NoMemory, Parse}
use Rattle.job_words.specs.Commands.{places_command}
use Rattle.job_words.specs.Readings.{reading_by, text_in, texts_in, is_set}
use Rattle.job_words.specs.Faults.{first_fault}
use Rattle.job_words.specs.Jobs.{how_in, layer_fault, many_fault, name_fault, suffix_fault, unless}
use Rattle.job_words.specs.JobFields.{IsName, HasFormat}

-- the first fault of the names; nothing is written, so layers may have the last part of an earlier one
abbrev pub places_fault : Text → List Text → Option WordsFault
places_fault tin layers = first_fault (
    many_fault layers ∷ name_fault Tin tin ∷ layer_fault layers ∷ suffix_fault layers ∷ [])

-- the names, how layers are carried, and how changes are printed
abbrev pub places_in : List Row → PlacesJob
places_in rows = record {
  tin = text_in (codes "tin") rows;
  how = how_in rows;
  inverse = is_set (codes "inverse") rows;
  sides = is_set (codes "sides") rows;
  lines = is_set (codes "lines") rows;
  across = is_set (codes "across") rows;
  member = first_of (codes "name") rows;
  layers = texts_in (codes "layer") rows;
}

-- what matches ask for
abbrev pub places_answer_in : List Row → Result PlacesJob WordsFault
places_answer_in rows = unless (places_fault (text_in (codes "tin") rows) (texts_in (codes "layer") rows))
    (places_in rows)

-- what the words ask for
abbrev pub places_answer_of : List Text → Result PlacesJob WordsFault
places_answer_of words = option_map_or places_answer_in (reading_by places_command words) (Err Parse)

-- the words ask for this
abbrev pub IsPlacesJobOf : List Text → PlacesJob → Type 0
IsPlacesJobOf words wanted = places_answer_of words ≡ Ok wanted

-- the words have this fault, and no earlier one
abbrev pub IsPlacesFault : List Text → WordsFault → Type 0
IsPlacesFault words fault = places_answer_of words ≡ Err fault

-- the names may be taken, and each layer has a format
pub record ArePlacesNames (tin : Text) (layers : List Text) : Type 0 where
  pub tin_named : IsName tin
  pub few : length layers ≤ MOST_LAYERS
  pub layers_named : AllByRecursion IsName layers
  pub formats : AllByRecursion HasFormat layers

-- what a job of `tinplaces` keeps, whatever words it comes from
abbrev pub IsPossiblePlacesJob : PlacesJob → Type 0
IsPossiblePlacesJob wanted = ArePlacesNames wanted.tin wanted.layers

-- all words of `tinplaces` have a job or a fault of their own
abbrev pub PlacesHaveAnswers : Type 0
PlacesHaveAnswers = (words : List Text) → ((wanted : PlacesJob) × IsPlacesJobOf words wanted)
    ⊎ ((fault : WordsFault) × IsPlacesFault words fault × (fault ≢ NoMemory))

-- each job of such words keeps what those jobs keep
abbrev pub PlacesJobsAreKept : Type 0
PlacesJobsAreKept = (words : List Text) (wanted : PlacesJob) → IsPlacesJobOf words wanted
    → IsPossiblePlacesJob wanted
