-- Answers to the goals of `Rect::of_triangle` in src/boxes.rt.
use Rattle.std.proofs.Common.{refl, rules}
use Rattle.std.specs.Prelude.{FitsSigned}
use Rattle.std.proofs.lemmas.Int.{to_z-of_z}
use mir.Syntax.{w64}
use Rattle.plane_base.proofs.shapes.Rect.of_triangle.Goals as goal

pub returns : goal.returns
returns c =
    let f0 : FitsSigned w64 c.args.t.now.a.x = search rules in
    let f1 : FitsSigned w64 c.args.t.now.a.y = search rules in
    let f2 : FitsSigned w64 c.args.t.now.b.x = search rules in
    let f3 : FitsSigned w64 c.args.t.now.b.y = search rules in
    let f4 : FitsSigned w64 c.args.t.now.c.x = search rules in
    let f5 : FitsSigned w64 c.args.t.now.c.y = search rules in
    let f6 : FitsSigned w64 c.least.result = search rules in
    let f7 : FitsSigned w64 c.least-2.result = search rules in
    let f8 : FitsSigned w64 c.greatest.result = search rules in
    let f9 : FitsSigned w64 c.greatest-2.result = search rules in
    let e0 = simp to_z-of_z at c.least.ensures in
    let e1 = simp to_z-of_z at c.least-2.ensures in
    let e2 = simp to_z-of_z at c.greatest.ensures in
    let e3 = simp to_z-of_z at c.greatest-2.ensures in
    simp to_z-of_z (rw (e0, e1, e2, e3) refl)
