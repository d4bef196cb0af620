-- Answers to the goals of `do_cross` in src/gaps.rt.
use Rattle.std.proofs.Common.{rules, FitsSigned}
use Rattle.std.proofs.lemmas.Int.{to_z-of_z}
use mir.Syntax.{w128}
use Rattle.seg_gap.proofs.Crossings.{crossing_if, no_crossing}
use Rattle.seg_gap.proofs.gaps.do_cross.Goals as goal

pub returns-then-are_opposite : goal.returns-then-are_opposite
returns-then-are_opposite c =
    let tc = c.turn.result in let td = c.turn-2.result in let ta = c.turn-then-are_opposite.result in let tb =
    c.turn-then-are_opposite-2.result in
    let fc : FitsSigned w128 tc = search rules in let fd : FitsSigned w128 td = search rules in
    let fa : FitsSigned w128 ta = search rules in let fb : FitsSigned w128 tb = search rules in
    crossing_if c.args.a c.args.b c.args.c c.args.d c.are_opposite-then-are_opposite.result tc td ta tb
    c.turn.ensures.value c.turn-2.ensures.value c.turn-then-are_opposite.ensures.value
    c.turn-then-are_opposite-2.ensures.value
    ((simp to_z-of_z at c.are_opposite.ensures).0 c.if-are_opposite.true)
    (simp to_z-of_z at c.are_opposite-then-are_opposite.ensures)

pub returns-else-are_opposite : goal.returns-else-are_opposite
returns-else-are_opposite c =
    let tc = c.turn.result in let td = c.turn-2.result in
    let fc : FitsSigned w128 tc = search rules in let fd : FitsSigned w128 td = search rules in
    no_crossing c.args.a c.args.b c.args.c c.args.d c.are_opposite.result tc td
    c.turn.ensures.value c.turn-2.ensures.value c.if-are_opposite.false (simp to_z-of_z at c.are_opposite.ensures)
