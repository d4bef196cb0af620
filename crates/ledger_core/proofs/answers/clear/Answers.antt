-- Answers to the goals of `clear` in src/answers.rt.
use Rattle.std.proofs.Common.{rules}
use Rattle.ledger_core.proofs.CommandReplies.{clear-empty, clear-waiting}
use Rattle.ledger_core.proofs.answers.clear.Goals as goal

pub returns-in-None-clause-told : goal.returns-in-None-clause-told
returns-in-None-clause-told g c =
    clear-empty (g.K.Keeper.kept c.args.keeper.now) (g.K.Keeper.kept c.has_run.new.keeper)
    (g.K.Keeper.kept c.next.new.self) c.args.run
    (search rules) c.in_ok-has_run.ensures.same (search rules) c.in_ok-next.ensures.same

pub returns-in-Some-clause-told : goal.returns-in-Some-clause-told
returns-in-Some-clause-told g c =
    clear-waiting (g.K.Keeper.kept c.args.keeper.now) (g.K.Keeper.kept c.has_run.new.keeper)
    (g.K.Keeper.kept c.next.new.self) c.args.run c.in-Some.row
    (search rules) c.in_ok-has_run.ensures.same (search rules) c.in_ok-next.ensures.same
