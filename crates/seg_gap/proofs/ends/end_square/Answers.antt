-- Answers to the goals of `reach` in src/ends.rt.
use Rattle.std.proofs.Common.{pos, ◌+ℤ◌, arith, rules, FitsSigned, ◌∙◌}
use Rattle.std.proofs.lemmas.Int.{to_z-of_z, ints}
use mir.Syntax.{w128}
use Rattle.seg_gap.proofs.Feet.{at_most_by, above_by, square_of_end, square_of_foot, end_square_swapped, foot_low}
use Rattle.seg_gap.proofs.Feet.{foot_above}
use Rattle.seg_gap.proofs.Sides.{whole_turn_is}
use Rattle.seg_gap.specs.InsideEnds.{dot_of}
use Rattle.seg_gap.proofs.ends.end_square.Goals as goal

pub returns-then-from_c-le0 : goal.returns-then-from_c-le0
returns-then-from_c-le0 c =
    let p = c.args.p in let a = c.args.c in let b = c.args.d in
    let f : FitsSigned w128 c.dot-from_c.result = search rules in
    square_of_end p a b c.four_squares.result
    (at_most_by c.dot-from_c.result (dot_of a p b) c.dot-from_c.ensures.value
    (simp to_z-of_z at c.if-from_c-le0.true)) c.four_squares.ensures

pub returns-then-from_d-le0 : goal.returns-then-from_d-le0
returns-then-from_d-le0 c =
    let p = c.args.p in let a = c.args.c in let b = c.args.d in
    let f : FitsSigned w128 c.dot-from_d.result = search rules in
    end_square_swapped p a b c.four_squares-then-from_d-le0.result
    (square_of_end p b a c.four_squares-then-from_d-le0.result
    (at_most_by c.dot-from_d.result (dot_of b p a) c.dot-from_d.ensures.value
    (simp to_z-of_z at c.if-from_d-le0.true)) c.four_squares-then-from_d-le0.ensures)

pub returns-else-from_d-le0 : goal.returns-else-from_d-le0
returns-else-from_d-le0 c =
    let p = c.args.p in let a = c.args.c in let b = c.args.d in
    let f : FitsSigned w128 c.dot-from_c.result = search rules in
    let g : FitsSigned w128 c.dot-from_d.result = search rules in
    let t : FitsSigned w128 c.turn.result = search rules in
    let m = c.dot-from_c.ensures.size in let n = c.dot-from_d.ensures.size in
    let s : FitsSigned w128 (c.dot-from_c.result +ℤ c.dot-from_d.result) = omega (arith, ints) in
    let v = pos c.four_heights.result in
    square_of_foot p a b c.turn.result c.four_heights.result
    (above_by c.dot-from_c.result (dot_of a p b) c.dot-from_c.ensures.value (simp to_z-of_z at c.if-from_c-le0.false))
    (above_by c.dot-from_d.result (dot_of b p a) c.dot-from_d.ensures.value (simp to_z-of_z at c.if-from_d-le0.false))
    (c.turn.ensures.value ∙ whole_turn_is a b p)
    (foot_low v c.dot-from_c.result c.dot-from_d.result (dot_of a p b) (dot_of b p a) c.turn.result
    c.dot-from_c.ensures.value c.dot-from_d.ensures.value (simp to_z-of_z at c.four_heights.ensures.low))
    (foot_above v c.dot-from_c.result c.dot-from_d.result (dot_of a p b) (dot_of b p a) c.turn.result
    c.dot-from_c.ensures.value c.dot-from_d.ensures.value (simp to_z-of_z at c.four_heights.ensures.high))
