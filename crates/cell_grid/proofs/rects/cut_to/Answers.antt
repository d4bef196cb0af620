-- Answers to the goals of `cut_to` in src/rects.rt.
use Rattle.std.proofs.Common.{refl, rules}
use Rattle.std.specs.Prelude.{FitsSigned}
use Rattle.std.proofs.lemmas.Int.{to_z-of_z}
use mir.Syntax.{w64}
use Rattle.cell_grid.proofs.rects.cut_to.Goals as goal

pub returns : goal.returns
returns c =
    let a : FitsSigned w64 c.args.around.now.x0 = search rules in
    let b : FitsSigned w64 c.args.around.now.x1 = search rules in
    let d : FitsSigned w64 c.args.around.now.y0 = search rules in
    let e : FitsSigned w64 c.args.around.now.y1 = search rules in
    let f : FitsSigned w64 c.args.r.now.x0 = search rules in
    let g : FitsSigned w64 c.args.r.now.x1 = search rules in
    let h : FitsSigned w64 c.args.r.now.y0 = search rules in
    let i : FitsSigned w64 c.args.r.now.y1 = search rules in
    let j : FitsSigned w64 c.clamp.result = search rules in
    let k : FitsSigned w64 c.clamp-2.result = search rules in
    let l : FitsSigned w64 c.clamp-3.result = search rules in
    let m : FitsSigned w64 c.clamp-4.result = search rules in
    let x0 = simp to_z-of_z at c.clamp.ensures.value in
    let y0 = simp to_z-of_z at c.clamp-2.ensures.value in
    let x1 = simp to_z-of_z at c.clamp-3.ensures.value in
    let y1 = simp to_z-of_z at c.clamp-4.ensures.value in
    simp to_z-of_z (rw (x0, y0, x1, y1) refl)
