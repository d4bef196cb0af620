-- The forms of the programs' words: what a mode of `tinmove` takes, by the rules of its command, and what `tinplaces`
-- takes.
use Rattle.std.specs.Prelude.{ℕ, ◌++◌, List, [], ◌∷◌, Option, Some, None, codes, filter_map, if◌then◌else◌}
use Rattle.std.specs.Str.{bytes_eq}
use Rattle.clap.specs.Walk.{Rule, Text}
use Rattle.clap.specs.declared.builder.action.ArgAction.{ArgAction}
use Rattle.clap.specs.declared.builder.action.ArgAction.TheVariants.{Set, SetTrue}
use Rattle.job_words.specs.declared.modes.Mode.{Mode}
use Rattle.job_words.specs.declared.modes.Mode.TheVariants.{Migrate, Check, Make, Verify, Heights}
use Rattle.job_words.specs.Commands.{rules_for, places_rules}

-- what words of this form may be
pub record Form : Type 0 where
  -- the options that take a value, all of which have to be there, and how each is written with its value
  pub valued : List (Text × Text)
  -- the options that take a value and need not be there
  pub optional : List Text
  -- the options without a value
  pub flags : List Text
  -- how many plain words there may be at most, where there is a limit
  pub most : Option ℕ
  -- what the plain word is called that has to be there, where one has to
  pub word : Option Text

-- an option as it is written
abbrev pub option_text : Text → Text
option_text id = codes "--" ++ id

-- what is put for the value of an option where its use is shown
abbrev pub value_word : Text → Text
value_word id =
    if bytes_eq id (codes "out") then codes "FOLDER"
    else if bytes_eq id (codes "source") then codes "LAYER"
    else codes "FILE"

-- an option that takes a value, and how it is written with its value
abbrev pub valued_option : Option Text → Option ArgAction → Option (Text × Text)
valued_option (Some id) (Some Set) = Some (option_text id, option_text id ++ codes " " ++ value_word id)
valued_option long action = None

-- an option without a value
abbrev pub flag_option : Option Text → Option ArgAction → Option Text
flag_option (Some id) (Some SetTrue) = Some (option_text id)
flag_option long action = None

-- the options with a value among rules of a command
abbrev pub valued_among : List Rule → List (Text × Text)
valued_among rules = filter_map (λ rule. valued_option rule.long rule.action) rules

-- the options without a value among them
abbrev pub flags_among : List Rule → List Text
flags_among rules = filter_map (λ rule. flag_option rule.long rule.action) rules

-- how many plain words a mode takes
abbrev pub most_words : Mode → Option ℕ
most_words Migrate = None
most_words Check = Some 0
most_words Make = Some 1
most_words Verify = Some 0
most_words Heights = Some 1

-- what the plain word of a mode is called
abbrev pub word_for : Mode → Option Text
word_for Migrate = Some (codes "LAYER")
word_for Check = None
word_for Make = Some (codes "N")
word_for Verify = None
word_for Heights = Some (codes "POINTS")

-- what a mode takes
abbrev pub form_for : Mode → Form
form_for mode = record {
  valued = valued_among (rules_for mode);
  optional = [];
  flags = flags_among (rules_for mode);
  most = most_words mode;
  word = word_for mode;
}

-- what `tinplaces` takes: the triangulation and layers, and if it is wanted the member that is printed
abbrev pub places_form : Form
places_form = record {
  valued = (codes "--tin", codes "--tin FILE") ∷ [];
  optional = codes "--name" ∷ [];
  flags = flags_among places_rules;
  most = None;
  word = Some (codes "LAYER");
}
