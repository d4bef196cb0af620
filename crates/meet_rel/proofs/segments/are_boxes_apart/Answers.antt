-- Answers to the goals of `are_boxes_apart` in src/segments.rt.
use Rattle.std.proofs.Common.{rules, SFits}
use Rattle.std.proofs.lemmas.Int.{to_z-of_z}
use mir.Syntax.{w64}
use Rattle.meet_rel.specs.Signs.{AreBeside}
use Rattle.meet_rel.proofs.TurnTests.{first_holds, second_tells}
use Rattle.meet_rel.proofs.segments.are_boxes_apart.Goals as goal

pub returns-then-are_beside : goal.returns-then-are_beside
returns-then-are_beside c =
    let a = c.args.a in let b = c.args.b in let d = c.args.c in let e = c.args.d in
    let fa : SFits w64 a.x = search rules in let fb : SFits w64 b.x = search rules in
    let fd : SFits w64 d.x = search rules in let fe : SFits w64 e.x = search rules in
    first_holds c.are_beside.result (AreBeside a.x b.x d.x e.x) (AreBeside a.y b.y d.y e.y)
    (simp to_z-of_z at c.are_beside.ensures) c.if-are_beside.true

pub returns-else-are_beside : goal.returns-else-are_beside
returns-else-are_beside c =
    let a = c.args.a in let b = c.args.b in let d = c.args.c in let e = c.args.d in
    let fa : SFits w64 a.x = search rules in let fb : SFits w64 b.x = search rules in
    let fd : SFits w64 d.x = search rules in let fe : SFits w64 e.x = search rules in
    let ga : SFits w64 a.y = search rules in let gb : SFits w64 b.y = search rules in
    let gd : SFits w64 d.y = search rules in let ge : SFits w64 e.y = search rules in
    second_tells c.are_beside.result c.are_beside-else-are_beside.result (AreBeside a.x b.x d.x e.x)
    (AreBeside a.y b.y d.y e.y)
    (simp to_z-of_z at c.are_beside.ensures) c.if-are_beside.false
    (simp to_z-of_z at c.are_beside-else-are_beside.ensures)
