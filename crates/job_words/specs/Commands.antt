-- The commands of the modes, and that of `tinplaces`, in the terms in which `clap` states its reading of a simple command.
use Rattle.std.specs.Prelude.{true, List, [], ◌∷◌, Some, codes}
use Rattle.clap.specs.Lexer.{usize_max}
use Rattle.clap.specs.Walk.{Rule, Text}
use Rattle.clap.specs.Simple.{App, new_rule, new_shape}
use Rattle.clap.specs.declared.builder.action.ArgAction.TheVariants.{Set, Append, SetTrue}
use Rattle.job_words.specs.declared.modes.Mode.{Mode}
use Rattle.job_words.specs.declared.modes.Mode.TheVariants.{Migrate, Check, Make, Verify, Heights}
use Rattle.job_words.specs.Modes.{spelling}

-- `--ID VALUE`, exactly once
abbrev pub option_rule : Text → Rule
option_rule id = record (new_rule id) { long = Some id; action = Some Set; required = true }

-- `--ID VALUE`, once at most
abbrev pub choice_rule : Text → Rule
choice_rule id = record (new_rule id) { long = Some id; action = Some Set }

-- `--ID`, once at most
abbrev pub flag_rule : Text → Rule
flag_rule id = record (new_rule id) { long = Some id; action = Some SetTrue }

-- a required word, which is no option
abbrev pub word_rule : Text → Rule
word_rule id = record (new_rule id) { action = Some Set; required = true }

-- one word or more, each no option; options may be among them
abbrev pub words_rule : Text → Rule
words_rule id = record (new_rule id) {
  action = Some Append;
  range = Some (record { start_inclusive = 1; end_inclusive = usize_max });
  required = true;
}

-- the options and words of a mode
abbrev pub rules_for : Mode → List Rule
rules_for Migrate = option_rule (codes "tin") ∷ option_rule (codes "out") ∷ flag_rule (codes "inverse")
    ∷ flag_rule (codes "exact")
    ∷ flag_rule (codes "inside-only") ∷ flag_rule (codes "drop-other") ∷ flag_rule (codes "cert")
    ∷ flag_rule (codes "sides") ∷ words_rule (codes "layer") ∷ []
rules_for Check = option_rule (codes "tin") ∷ flag_rule (codes "exact") ∷ flag_rule (codes "inside-only") ∷ []
rules_for Make = word_rule (codes "n") ∷ []
rules_for Verify = option_rule (codes "tin") ∷ option_rule (codes "source") ∷ option_rule (codes "written")
    ∷ option_rule (codes "cert")
    ∷ flag_rule (codes "inverse") ∷ flag_rule (codes "exact") ∷ flag_rule (codes "inside-only")
    ∷ flag_rule (codes "drop-other") ∷ []
rules_for Heights = option_rule (codes "tin") ∷ option_rule (codes "out") ∷ flag_rule (codes "exact")
    ∷ flag_rule (codes "inside-only") ∷ word_rule (codes "points") ∷ []

-- the command of a mode: it has no subcommand, and no option for help
abbrev pub command_for : Mode → App
command_for mode = record {
  top = record (new_shape (spelling mode)) { rules = rules_for mode; disable_help_flag = true };
  subs = [];
}

-- the options and words of `tinplaces`
abbrev pub places_rules : List Rule
places_rules = option_rule (codes "tin") ∷ flag_rule (codes "inverse") ∷ flag_rule (codes "exact")
    ∷ flag_rule (codes "inside-only") ∷ flag_rule (codes "drop-other") ∷ flag_rule (codes "cert")
    ∷ flag_rule (codes "sides") ∷ flag_rule (codes "lines") ∷ flag_rule (codes "across")
    ∷ choice_rule (codes "name") ∷ words_rule (codes "layer") ∷ []

-- its command, whose words begin with the first one after the program's name: it has no subcommand, and no option for
-- help
abbrev pub places_command : App
places_command = record {
  top = record (new_shape (codes "tinplaces")) { rules = places_rules; disable_help_flag = true; no_binary_name = true };
  subs = [];
}
