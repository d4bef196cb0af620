-- Answers to the goals of `count_in` in src/entity_kinds.rt.
use Rattle.run_notes.proofs.TextCounts.{count-found, count-none}
use Rattle.run_notes.proofs.entity_kinds.count_in.Goals as goal

pub returns-in-Some : goal.returns-in-Some
returns-in-Some c =
    count-found c.args.name.now c.args.kinds.now.entries c.in-Some.count.now c.in-Some.ensures.value

pub returns-in-None : goal.returns-in-None
returns-in-None c = count-none c.args.name.now c.args.kinds.now.entries c.in-None.ensures.value
