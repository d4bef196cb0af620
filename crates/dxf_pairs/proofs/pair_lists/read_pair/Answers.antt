-- Answers to the goals of `read_pair` in src/pair_lists.rt.
use Rattle.std.proofs.Common.{FitsSigned, w32, rules, sym, ◌∙◌, ◌+◌}
use Rattle.std.proofs.lemmas.Int.{to_z-of_z}
use Rattle.dxf_pairs.proofs.PairSteps.{pair_read}
use Rattle.dxf_pairs.proofs.pair_lists.read_pair.Goals as goal

pub returns-clause-ok : goal.returns-clause-ok
returns-clause-ok c =
    let fits : FitsSigned w32 c.in-Some.code = search rules in
    let value = c.value_places-value.ensures in
    let first = c.code_line-code.ensures in
    simp to_z-of_z (pair_read c.args.bytes.now c.args.start c.args.line c.value_places-value.result.0
    c.value_places-value.result.1 c.code_line-code.result.0 c.line_from-second.result c.in-Some.code
    first.start value.start value.end value.value (first.first c.args.line)
    (c.line_from-second.ensures.first (c.args.line + 1))
    (rw first.start (sym first.code ∙ c.in-Some.is)))
