-- Answers to the goals of `with_arguments` in src/commands.rt.
use Rattle.std.proofs.Common.{ap₂, ◌∙◌}
use Rattle.clap.specs.Simple.{app_of, with_rule}
use Rattle.job_words.specs.InsideCommands.{rule_in}
use Rattle.job_words.proofs.MoreRules.{one-more}
use Rattle.job_words.proofs.commands.with_arguments.Goals as goal

pub loop-argument-preserved : goal.loop-argument-preserved
loop-argument-preserved c =
    c.in_ok-made.ensures.shape c.arg_of.ensures.local ∙ ap₂ with_rule c.loop-argument.invariant c.arg_of.ensures.rule
    ∙ one-more (app_of c.args.command) (λ argument. rule_in argument.0 argument.1.now) c.args.arguments.now
    c.loop-argument.argument-index _ c.loop-argument-test.true
