-- Answers to the goals of `turn` in src/orientations.rt.
use Rattle.std.proofs.Common.{rules, SFits, ◌∙◌}
use Rattle.std.proofs.lemmas.Int.{to_z-of_z}
use mir.Syntax.{w64, w128}
use Rattle.plane_base.proofs.Bounds.Sizes.{turn_whole}
use Rattle.plane_base.proofs.orientations.turn.Goals as goal

pub returns-clause-value : goal.returns-clause-value
returns-clause-value c =
    let a = c.args.a in let b = c.args.b in let d = c.args.c in
    let u = c.way.result in let v = c.way-2.result in
    let f : SFits w64 c.cross.result = search rules in let g : SFits w128 c.from.result = search rules in
    simp to_z-of_z ((simp to_z-of_z at c.from.ensures)
    ∙ turn_whole a.x a.y b.x b.y d.x d.y u.dx u.dy v.dx v.dy c.cross.result c.way.ensures.dx c.way.ensures.dy
    c.way-2.ensures.dx c.way-2.ensures.dy c.cross.ensures.value)
