-- Answers to the goals of `rel_on_axis` in src/lines.rt.
use Rattle.std.proofs.Common.{◌≤ℤ◌, arith, sym, ◌∙◌}
use Rattle.std.proofs.lemmas.Int.{ints, to_z-of_z}
use Rattle.integer_ring.proofs.Order.{≤_antisymm}
use Rattle.meet_rel.proofs.lines.rel_on_axis.Goals as goal

pub returns-else-first-last : goal.returns-else-first-last
returns-else-first-last c =
    let a = c.ranges.a in let b = c.ranges.b in let d = c.ranges.c in let e = c.ranges.d in
    let first = c.later_start-first.result in let last = c.earlier_end-last.result in
    let i = simp to_z-of_z at c.later_start-first.ensures in
    let j = simp to_z-of_z at c.earlier_end-last.ensures in
    let up : first ≤ℤ last = omega (arith, ints) in let down : last ≤ℤ first = omega (arith, ints) in
    sym i ∙ ≤_antisymm first last up down ∙ j
