-- Answers to the goals of `command_of` in src/commands.rt.
use Rattle.clap.specs.Simple.{app_of}
use Rattle.job_words.proofs.MoreRules.{whole-command}
use Rattle.job_words.proofs.commands.command_of.Goals as goal

pub returns : goal.returns
returns c = whole-command c.with_arguments.result app_of c.args.mode _ _ _ c.with_arguments.ensures c.bare.ensures
    c.word_for.ensures c.arguments_of.ensures
