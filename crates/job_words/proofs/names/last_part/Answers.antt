-- Answers to the goals of `last_part` in src/names.rt.
use Rattle.job_words.proofs.LastParts.{behind-slash, no-slash}
use Rattle.job_words.proofs.names.last_part.Goals as goal

pub returns-in-Some : goal.returns-in-Some
returns-in-Some c =
    let (i, j, finds, front, back, after, front_length, back_length) = c.in-Some.ensures.cases in
    behind-slash c.args.name.now c.in-Some.part.now i j finds.0 finds.1 back

pub returns-in-None : goal.returns-in-None
returns-in-None c = no-slash c.args.name.now c.in-None.ensures.cases
