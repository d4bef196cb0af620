-- The three turns are those of the definition, and none is negative exactly where the point is a mix.
use Rattle.std.proofs.Common.{rules, SFits}
use Rattle.std.proofs.lemmas.Int.{to_z-of_z}
use mir.Syntax.{w128}
use Rattle.plane_base.proofs.TriangleLaws.InTriangle.{holds_by_tests}
use Rattle.plane_base.proofs.orientations.holds.Goals as goal

pub returns : goal.returns
returns c =
    let f1 : SFits w128 c.turn.result = search rules in
    let f2 : SFits w128 c.turn-2.result = search rules in
    let f3 : SFits w128 c.turn-3.result = search rules in
    holds_by_tests c.args.t.now c.args.p c.turn.result c.turn-2.result c.turn-3.result c.none_negative.result
    c.requires.positive
    c.turn.ensures.value c.turn-2.ensures.value c.turn-3.ensures.value (simp to_z-of_z at c.none_negative.ensures)
