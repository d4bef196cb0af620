use Rattle.std.proofs.Common.{◌∙◌}
use Rattle.run_notes.proofs.ListRests.{behind_first}
use Rattle.run_notes.proofs.command_words.given_words.Goals as goal

pub returns-clause-words : goal.returns-clause-words
returns-clause-words c =
    let ran = c.in_ok-collect.ensures.ran in
    ran.2.0 ∙ behind_first c.args.args c.next.new.self c.next.result ran.0 c.next.ensures.cases c.next.ensures.items ran.1
