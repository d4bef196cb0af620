-- Answers to the goals of `kind_in_line` in src/entity_kinds.rt.
use Rattle.std.proofs.Common.{◌∙◌}
use Rattle.run_notes.proofs.KindsOnLines.{kind-on-none, kind-on-text}
use Rattle.run_notes.proofs.entity_kinds.kind_in_line.Goals as goal

pub returns-in-Ok : goal.returns-in-Ok
returns-in-Ok c = c.trim.ensures.trim
    ∙ kind-on-text c.args.line.now c.in-Ok.kind.now c.in-Ok.ensures.cases.0 c.in-Ok.ensures.cases.1

pub returns-in-Err : goal.returns-in-Err
returns-in-Err c = kind-on-none c.args.line.now c.in-Err.ensures.cases.0
