-- Answers to the goals of `are_below` in src/segments.rt.
use Rattle.std.proofs.Common.{rules, SFits}
use Rattle.std.proofs.lemmas.Int.{to_z-of_z}
use mir.Syntax.{w64}
use Rattle.meet_rel.proofs.Boxes.{below_told}
use Rattle.meet_rel.proofs.segments.are_below.Goals as goal

pub returns : goal.returns
returns c =
    let a = c.ranges.a in let b = c.ranges.b in let d = c.ranges.c in let e = c.ranges.d in
    let f : SFits w64 c.max.result = search rules in let g : SFits w64 c.min.result = search rules in
    simp to_z-of_z (below_told c.args.a c.args.b c.args.c c.args.d c.max.result c.min.result
    (simp to_z-of_z at c.max.ensures.value) (simp to_z-of_z at c.min.ensures.value))
