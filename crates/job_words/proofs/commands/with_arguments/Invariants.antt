-- The invariant of the loop of `with_arguments` in src/commands.rt.
use Rattle.std.proofs.Common.{◌≡◌, take, map}
use Rattle.clap.specs.Simple.{app_of}
use Rattle.job_words.specs.InsideCommands.{rule_in, with_rules}
use Rattle.job_words.proofs.commands.with_arguments.Given as goal

abbrev pub invariant-loop-argument : goal.invariant-loop-argument
invariant-loop-argument l =
    app_of l.made ≡ with_rules (app_of l.initial.made)
    (map (λ argument. rule_in argument.0 argument.1.now) (take l.argument-index l.arguments))
