-- Answers to the goals of `line_from` in src/line_ends.rt.
use Rattle.std.proofs.lemmas.List.{take_rest}
use Rattle.dxf_pairs.proofs.LineLists.{first_ended, first_alone}
use Rattle.dxf_pairs.proofs.line_ends.line_from.Goals as goal

pub returns-in-Some-clause-first : goal.returns-in-Some-clause-first
returns-in-Some-clause-first c = λ number.
    let found = rw (take_rest c.args.bytes.now c.args.start) at c.in-Some.ensures in
    first_ended c.args.bytes.now c.args.start c.in-Some.count number c.requires found.0 found.1

pub returns-in-None-clause-first : goal.returns-in-None-clause-first
returns-in-None-clause-first c = λ number.
    let nowhere = rw (take_rest c.args.bytes.now c.args.start) at c.in-None.ensures in
    first_alone c.args.bytes.now c.args.start number c.requires nowhere
