-- A command before its options and words, and with more of them: what private functions build it by.
use Rattle.std.specs.Prelude.{true, List, [], ◌++◌}
use Rattle.clap.specs.Walk.{Rule, Text}
use Rattle.clap.specs.Simple.{App, new_shape}
use Rattle.job_words.specs.Commands.{option_rule, choice_rule, flag_rule, word_rule, words_rule}
use Rattle.job_words.specs.declared.commands.ArgForm.{ArgForm}
use Rattle.job_words.specs.declared.commands.ArgForm.TheVariants.{Valued, Choice, Flag, Word, Words}

-- a command of this name, with no option for help, no other option and no word
abbrev pub bare_command : Text → App
bare_command name = record { top = record (new_shape name) { disable_help_flag = true }; subs = [] }

-- a command whose words have no program's name before them
abbrev pub nameless : App → App
nameless command = record command { top = record command.top { no_binary_name = true } }

-- a command with more options and words
abbrev pub with_rules : App → List Rule → App
with_rules command more = record command { top = record command.top { rules = command.top.rules ++ more } }

-- the rule of an argument of this form and name
abbrev pub rule_in : ArgForm → Text → Rule
rule_in Valued id = option_rule id
rule_in Choice id = choice_rule id
rule_in Flag id = flag_rule id
rule_in Word id = word_rule id
rule_in Words id = words_rule id
