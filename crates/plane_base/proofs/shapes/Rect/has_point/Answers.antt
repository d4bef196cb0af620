-- Answers to the goals of `Rect::has_point` in src/boxes.rt.
use Rattle.std.proofs.Common.{rules}
use Rattle.std.specs.Prelude.{FitsSigned}
use Rattle.std.proofs.lemmas.Int.{to_z-of_z}
use mir.Syntax.{w64}
use Rattle.plane_base.proofs.Bounds.BoxLemmas.{point_if, no_point}
use Rattle.plane_base.proofs.shapes.Rect.has_point.Goals as goal

pub returns-then-not-is_from_to : goal.returns-then-not-is_from_to
returns-then-not-is_from_to c =
    let f0 : FitsSigned w64 c.args.self.now.x0 = search rules in
    let f2 : FitsSigned w64 c.args.self.now.x1 = search rules in
    let f4 : FitsSigned w64 c.args.p.x = search rules in
    no_point c.args.self.now c.args.p (simp to_z-of_z at c.if-not-is_from_to.ensures)

pub returns : goal.returns
returns c =
    let f0 : FitsSigned w64 c.args.self.now.x0 = search rules in
    let f1 : FitsSigned w64 c.args.self.now.y0 = search rules in
    let f2 : FitsSigned w64 c.args.self.now.x1 = search rules in
    let f3 : FitsSigned w64 c.args.self.now.y1 = search rules in
    let f4 : FitsSigned w64 c.args.p.x = search rules in
    let f5 : FitsSigned w64 c.args.p.y = search rules in
    point_if c.args.self.now c.args.p c.is_from_to-2.result (simp to_z-of_z at c.if-not-is_from_to.ensures)
    (simp to_z-of_z at c.is_from_to-2.ensures)
