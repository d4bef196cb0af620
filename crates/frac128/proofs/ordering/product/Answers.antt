-- Answers to the goals of `product` in src/ordering.rt.
use Rattle.std.proofs.lemmas.Int.{to_z-of_z}
use Rattle.frac128.proofs.Fracs.{product_fits}
use Rattle.frac128.proofs.ordering.product.Goals as goal

pub overflow_mul-result : goal.overflow_mul-result
overflow_mul-result c =
    let a = c.ranges.a in let b = c.ranges.b in
    simp to_z-of_z (product_fits c.args.a c.args.b c.requires.a_small c.requires.b_small)

pub returns : goal.returns
returns c =
    let a = c.ranges.a in let b = c.ranges.b in
    let f = product_fits c.args.a c.args.b c.requires.a_small c.requires.b_small in
    simp to_z-of_z
