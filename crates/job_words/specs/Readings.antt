-- What `clap` reads of words.
use Rattle.std.specs.Prelude.{◌==◌, Bool, false, List, [], length, Option, Some, None, codes, unwrap_or, if◌then◌else◌}
use Rattle.std.specs.Option.{option_map_or}
use Rattle.std.specs.Str.{bytes_eq}
use Rattle.clap.specs.Walk.{Row, Text, all_of, first_of, one_of}
use Rattle.clap.specs.Simple.{App, matches_of}
use Rattle.clap.specs.Faults.{fault_of}
use Rattle.job_words.specs.declared.modes.Mode.{Mode}
use Rattle.job_words.specs.Commands.{command_for}

-- the matches of the words, where the command has no fault at them
abbrev pub reading_by : App → List Text → Option (List Row)
reading_by command words = if length (fault_of command words) == 0 then Some (matches_of command words) else None

-- those of the words of a mode
abbrev pub reading_of : Mode → List Text → Option (List Row)
reading_of mode words = reading_by (command_for mode) words

-- the text of an option or of a word, empty where it is missing
abbrev pub text_in : Text → List Row → Text
text_in id rows = unwrap_or (first_of id rows) []

-- the texts of words, none where they are missing
abbrev pub texts_in : Text → List Row → List Text
texts_in id rows = unwrap_or (all_of id rows) []

-- the flag is among the words
abbrev pub is_set : Text → List Row → Bool
is_set id rows = option_map_or (bytes_eq (codes "true")) (one_of id rows) false
