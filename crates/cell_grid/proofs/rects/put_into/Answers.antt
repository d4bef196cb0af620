-- Answers to the goals of `put_into` in src/rects.rt.
use Rattle.std.proofs.Common.{refl, rules}
use Rattle.std.specs.Prelude.{FitsSigned}
use Rattle.std.proofs.lemmas.Int.{to_z-of_z}
use mir.Syntax.{w64}
use Rattle.cell_grid.proofs.rects.put_into.Goals as goal

pub returns : goal.returns
returns c =
    let a : FitsSigned w64 c.args.around.now.x0 = search rules in
    let b : FitsSigned w64 c.args.around.now.x1 = search rules in
    let d : FitsSigned w64 c.args.around.now.y0 = search rules in
    let e : FitsSigned w64 c.args.around.now.y1 = search rules in
    let f : FitsSigned w64 c.args.p.x = search rules in
    let g : FitsSigned w64 c.args.p.y = search rules in
    let h : FitsSigned w64 c.clamp.result = search rules in
    let i : FitsSigned w64 c.clamp-2.result = search rules in
    let x = simp to_z-of_z at c.clamp.ensures.value in
    let y = simp to_z-of_z at c.clamp-2.ensures.value in
    simp to_z-of_z (rw (x, y) refl)
