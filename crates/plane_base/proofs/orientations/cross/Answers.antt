-- Answers to the goals of `cross` in src/orientations.rt.
use Rattle.std.proofs.Common.{rules, SFits, ◌-ℤ◌}
use Rattle.std.proofs.lemmas.Int.{to_z-of_z}
use mir.Syntax.{w64}
use Rattle.plane_base.proofs.Bounds.Sizes.{difference_size, cross_fits}
use Rattle.plane_base.proofs.orientations.cross.Goals as goal

pub overflow_sub-result : goal.overflow_sub-result
overflow_sub-result c =
    let p = c.product.result in let q = c.product-2.result in
    let f : SFits w64 p = search rules in let g : SFits w64 q = search rules in
    simp to_z-of_z (cross_fits (p -ℤ q) (difference_size p q c.product.ensures.size c.product-2.ensures.size))

pub returns-clause-value : goal.returns-clause-value
returns-clause-value c =
    let p = c.product.result in let q = c.product-2.result in
    let u = c.args.u in let v = c.args.v in
    let f : SFits w64 p = search rules in let g : SFits w64 q = search rules in
    let ux : SFits w64 u.dx = search rules in let uy : SFits w64 u.dy = search rules in
    let vx : SFits w64 v.dx = search rules in let vy : SFits w64 v.dy = search rules in
    let h = cross_fits (p -ℤ q) (difference_size p q c.product.ensures.size c.product-2.ensures.size) in
    simp to_z-of_z (rw (simp to_z-of_z at c.product.ensures.value, simp to_z-of_z at c.product-2.ensures.value))

pub returns-clause-size : goal.returns-clause-size
returns-clause-size c =
    let p = c.product.result in let q = c.product-2.result in
    let f : SFits w64 p = search rules in let g : SFits w64 q = search rules in
    let s = difference_size p q c.product.ensures.size c.product-2.ensures.size in
    let h = cross_fits (p -ℤ q) s in
    simp to_z-of_z s
