-- Answers to the goals of `obey` in src/answers.rt.
use Rattle.ledger_core.proofs.HistorySteps.{obeys-by}
use Rattle.ledger_core.proofs.answers.obey.Goals as goal

pub returns-clause-obeyed : goal.returns-clause-obeyed
returns-clause-obeyed g c = λ history stands.
    obeys-by (g.K.Keeper.kept c.args.keeper.now) (g.K.Keeper.kept c.answer.new.keeper) history c.args.command.now
    c.answer.result c.answer.ensures.told stands
