-- Answers to the goals of `value_in_line` in src/blanks.rt.
use Rattle.std.proofs.lemmas.List.{take_rest}
use Rattle.dxf_pairs.proofs.LinePlaces.{value_cut}
use Rattle.dxf_pairs.proofs.blanks.value_in_line.Goals as goal

pub returns-clause-value : goal.returns-clause-value
returns-clause-value c =
    let left = rw (take_rest c.args.line.now c.blanks_before-before.result, c.blanks_before-before.ensures.count) at
    c.length_before_blanks-length.ensures.count in
    rw c.blanks_before-before.ensures.count ((value_cut c.args.line.now c.length_before_blanks-length.result left).0)

pub returns-clause-length : goal.returns-clause-length
returns-clause-length c =
    let left = rw (take_rest c.args.line.now c.blanks_before-before.result, c.blanks_before-before.ensures.count) at
    c.length_before_blanks-length.ensures.count in
    (value_cut c.args.line.now c.length_before_blanks-length.result left).1
