-- Answers to the goals of `product` in src/orientations.rt.
use Rattle.std.proofs.Common.{◌*ℤ◌}
use Rattle.std.proofs.lemmas.Int.{to_z-of_z}
use Rattle.plane_base.proofs.Bounds.Sizes.{product_size, product_fits}
use Rattle.plane_base.proofs.orientations.product.Goals as goal

pub overflow_mul-result : goal.overflow_mul-result
overflow_mul-result c =
    let a = c.ranges.a in let b = c.ranges.b in
    simp to_z-of_z (product_fits (c.args.a *ℤ c.args.b) (product_size c.args.a c.args.b c.requires.a c.requires.b))

pub returns-clause-value : goal.returns-clause-value
returns-clause-value c =
    let a = c.ranges.a in let b = c.ranges.b in
    let f = product_fits (c.args.a *ℤ c.args.b) (product_size c.args.a c.args.b c.requires.a c.requires.b) in
    simp to_z-of_z

pub returns-clause-size : goal.returns-clause-size
returns-clause-size c =
    let a = c.ranges.a in let b = c.ranges.b in
    let s = product_size c.args.a c.args.b c.requires.a c.requires.b in
    let f = product_fits (c.args.a *ℤ c.args.b) s in
    simp to_z-of_z s
