-- Answers to the goals of `value_places` in src/pair_lists.rt.
use Rattle.std.proofs.Common.{◌≤◌, ◌+◌, ◌-◌, ◌∙◌, arith}
use Rattle.dxf_pairs.proofs.LinePlaces.{part_between, length-between}
use Rattle.dxf_pairs.proofs.pair_lists.value_places.Goals as goal

pub returns-clause-value : goal.returns-clause-value
returns-clause-value c =
    let size = length-between c.args.line.start c.args.line.end c.args.bytes.now c.requires.order c.requires.within in
    let inside : c.value_in_line-before.result.0 + c.value_in_line-before.result.1
    ≤ c.args.line.end - c.args.line.start = omega (arith, size, c.value_in_line-before.ensures.within) in
    part_between c.args.bytes.now c.args.line.start c.args.line.end c.value_in_line-before.result.0
    c.value_in_line-before.result.1 c.requires.order inside ∙ c.value_in_line-before.ensures.value
