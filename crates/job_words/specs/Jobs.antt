-- The job of the words, or the first fault that they have.
use Rattle.std.specs.Prelude.{◌≡◌, not, List, [], ◌∷◌, length, Option, Some, None, is_some, Result, Ok, Err, codes}
use Rattle.std.specs.Prelude.{nat_lt, map, position, if◌then◌else◌}
use Rattle.std.specs.Option.{option_map, option_map_or}
use Rattle.clap.specs.Walk.{Row, Text}
use Rattle.sheet_base.specs.declared.flags.How.{How}
use Rattle.job_words.specs.declared.limits.TheConstants.{MOST_LAYERS}
use Rattle.job_words.specs.declared.jobs.Job.{Job}
use Rattle.job_words.specs.declared.jobs.Job.TheVariants as job
use Rattle.job_words.specs.declared.modes.Mode.{Mode}
use Rattle.job_words.specs.declared.modes.Mode.TheVariants.{Migrate, Check, Make, Verify, Heights}
use Rattle.job_words.specs.declared.faults.Which.{Which}
use Rattle.job_words.specs.declared.faults.Which.TheVariants.{Tin, Out, Layer, Source, Written, Certificate}
use Rattle.job_words.specs.declared.faults.WordsFault.{WordsFault}
use Rattle.job_words.specs.declared.faults.WordsFault.TheVariants.{NoMode, Parse, Size, Many, Name, Suffix, SameName}
use Rattle.job_words.specs.Modes.{mode_of}
use Rattle.job_words.specs.Readings.{reading_of, text_in, texts_in, is_set}
use Rattle.job_words.specs.Names.{is_name, part_behind_slashes, first_again}
use Rattle.job_words.specs.Formats.{format_by_name}
use Rattle.job_words.specs.Sizes.{size_of}
use Rattle.job_words.specs.Faults.{first_fault}

-- there are more layers than a job may have
abbrev pub many_fault : List Text → Option WordsFault
many_fault layers = if nat_lt MOST_LAYERS (length layers) then Some Many else None

-- this name may not be taken
abbrev pub name_fault : Which → Text → Option WordsFault
name_fault which name = if is_name name then None else Some (Name which)

-- the first layer's name that may not be taken
abbrev pub layer_fault : List Text → Option WordsFault
layer_fault layers = option_map (λ layer. Name (Layer layer)) (position (λ layer. not (is_name layer)) layers)

-- the first layer whose name ends as that of no format
abbrev pub suffix_fault : List Text → Option WordsFault
suffix_fault layers = option_map Suffix (position (λ layer. not (is_some (format_by_name layer))) layers)

-- the first layer whose last part is that of an earlier one
abbrev pub same_fault : List Text → Option WordsFault
same_fault layers = option_map SameName (first_again (map part_behind_slashes layers))

-- the first fault of the names of a migration
abbrev pub migration_fault : Text → Text → List Text → Option WordsFault
migration_fault tin out layers = first_fault (
    many_fault layers ∷ name_fault Tin tin ∷ name_fault Out out ∷ layer_fault layers ∷ suffix_fault layers
    ∷ same_fault layers ∷ [])

-- a job that has this fault, if any
abbrev pub unless : {J : Type 0} → Option WordsFault → J → Result J WordsFault
unless None wanted = Ok wanted
unless (Some fault) wanted = Err fault

-- how the flags want files to be read
abbrev pub how_in : List Row → How
how_in rows = record {
  exact = is_set (codes "exact") rows;
  drop_other = is_set (codes "drop-other") rows;
  inside_only = is_set (codes "inside-only") rows;
}

-- the names of a migration, and how it is done
abbrev pub migration_in : List Row → Job
migration_in rows = job.Migrate (text_in (codes "tin") rows) (text_in (codes "out") rows) (how_in rows)
    (is_set (codes "inverse") rows) (is_set (codes "cert") rows) (is_set (codes "sides") rows)
    (texts_in (codes "layer") rows)

-- the first fault of the names of a verification; its source is layer 0
abbrev pub verification_fault : Text → Text → Text → Text → Option WordsFault
verification_fault tin source written cert = first_fault (
    name_fault Tin tin ∷ name_fault Source source ∷ name_fault Written written ∷ name_fault Certificate cert
    ∷ suffix_fault (source ∷ []) ∷ [])

-- the names of a verification, and how it is done
abbrev pub verification_in : List Row → Job
verification_in rows = job.Verify (text_in (codes "tin") rows) (text_in (codes "source") rows)
    (text_in (codes "written") rows)
    (text_in (codes "cert") rows) (how_in rows) (is_set (codes "inverse") rows)

-- the first fault of the names of a list of points with heights; the list is layer 0
abbrev pub heights_fault : Text → Text → Text → Option WordsFault
heights_fault tin out points = first_fault (
    name_fault Tin tin ∷ name_fault Out out ∷ name_fault (Layer 0) points ∷ [])

-- the names of a list of points with heights, and how it is moved
abbrev pub heights_in : List Row → Job
heights_in rows = job.Heights (text_in (codes "tin") rows) (text_in (codes "out") rows) (how_in rows)
    (text_in (codes "points") rows)

-- what a mode's matches ask for
abbrev pub job_in : Mode → List Row → Result Job WordsFault
job_in Migrate rows =
    unless (migration_fault (text_in (codes "tin") rows) (text_in (codes "out") rows) (texts_in (codes "layer") rows))
    (migration_in rows)
job_in Check rows = unless (name_fault Tin (text_in (codes "tin") rows))
    (job.Check (text_in (codes "tin") rows) (how_in rows))
job_in Make rows = option_map_or (λ size. Ok (job.Make size)) (size_of (text_in (codes "n") rows)) (Err Size)
job_in Verify rows =
    unless (verification_fault (text_in (codes "tin") rows) (text_in (codes "source") rows)
    (text_in (codes "written") rows) (text_in (codes "cert") rows))
    (verification_in rows)
job_in Heights rows =
    unless (heights_fault (text_in (codes "tin") rows) (text_in (codes "out") rows) (text_in (codes "points") rows))
    (heights_in rows)

-- what words of a mode ask for; the mode is in the place of a program's name
abbrev pub answer_in : List Text → Mode → Result Job WordsFault
answer_in words mode = option_map_or (job_in mode) (reading_of mode words) (Err Parse)

-- what the words ask for
abbrev pub answer_of : List Text → Result Job WordsFault
answer_of [] = Err NoMode
answer_of (word ∷ rest) = option_map_or (answer_in (word ∷ rest)) (mode_of word) (Err NoMode)

-- the words give this job
abbrev pub IsJobOf : List Text → Job → Type 0
IsJobOf words wanted = answer_of words ≡ Ok wanted

-- the words have this fault, and no earlier one
abbrev pub IsWordsFault : List Text → WordsFault → Type 0
IsWordsFault words fault = answer_of words ≡ Err fault
