-- Answers to the goals of `four_heights` in src/ends.rt.
use Rattle.std.proofs.Common.{rules, FitsSigned}
use Rattle.std.proofs.lemmas.Int.{to_z-of_z}
use mir.Syntax.{w128}
use Rattle.seg_gap.proofs.Heights.{height_low, height_high}
use Rattle.seg_gap.proofs.ends.four_heights.Goals as goal

pub returns-clause-low : goal.returns-clause-low
returns-clause-low c =
    let t : FitsSigned w128 c.args.turn = search rules in let s : FitsSigned w128 c.args.square = search rules in
    height_low c.args.turn c.args.square c.unsigned_abs-height.result c.unsigned_abs.result
    (simp to_z-of_z at c.unsigned_abs-height.ensures.value) (simp to_z-of_z at c.unsigned_abs.ensures.value)
    c.requires.positive

pub returns-clause-high : goal.returns-clause-high
returns-clause-high c =
    let t : FitsSigned w128 c.args.turn = search rules in let s : FitsSigned w128 c.args.square = search rules in
    height_high c.args.turn c.args.square c.unsigned_abs-height.result c.unsigned_abs.result
    (simp to_z-of_z at c.unsigned_abs-height.ensures.value) (simp to_z-of_z at c.unsigned_abs.ensures.value)
    c.requires.positive
