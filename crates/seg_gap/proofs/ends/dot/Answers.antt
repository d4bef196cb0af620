-- Answers to the goals of `dot` in src/ends.rt.
use Rattle.std.proofs.Common.{◌+ℤ◌, rules, FitsSigned, arith}
use Rattle.std.proofs.lemmas.Int.{to_z-of_z, ints}
use mir.Syntax.{w64, w128}
use Rattle.seg_gap.proofs.Sizes.{difference_fits, difference_short}
use Rattle.seg_gap.proofs.ends.dot.Goals as goal

pub product-requires-2-clause-a : goal.product-requires-2-clause-a
product-requires-2-clause-a c =
    let p = c.args.p in let o = c.args.from in
    let fp : FitsSigned w64 p.y = search rules in let fo : FitsSigned w64 o.y = search rules in
    let f = difference_fits p.y o.y c.requires.p.2 c.requires.p.3 in
    simp to_z-of_z (difference_short p.y o.y c.requires.p.2 c.requires.p.3)

pub product-requires-2-clause-b : goal.product-requires-2-clause-b
product-requires-2-clause-b c =
    let q = c.args.q in let o = c.args.from in
    let fq : FitsSigned w64 q.y = search rules in let fo : FitsSigned w64 o.y = search rules in
    let f = difference_fits q.y o.y c.requires.q.2 c.requires.q.3 in
    simp to_z-of_z (difference_short q.y o.y c.requires.q.2 c.requires.q.3)

pub returns-clause-value : goal.returns-clause-value
returns-clause-value c =
    let p = c.args.p in let q = c.args.q in let o = c.args.from in
    let px : FitsSigned w64 p.x = search rules in let py : FitsSigned w64 p.y = search rules in
    let qx : FitsSigned w64 q.x = search rules in let qy : FitsSigned w64 q.y = search rules in
    let ox : FitsSigned w64 o.x = search rules in let oy : FitsSigned w64 o.y = search rules in
    let fpx = difference_fits p.x o.x c.requires.p.0 c.requires.p.1 in let fpy =
    difference_fits p.y o.y c.requires.p.2 c.requires.p.3 in
    let fqx = difference_fits q.x o.x c.requires.q.0 c.requires.q.1 in let fqy =
    difference_fits q.y o.y c.requires.q.2 c.requires.q.3 in
    let first : FitsSigned w128 c.product.result = search rules in let second : FitsSigned w128 c.product-2.result =
    search rules in
    let s = c.product.ensures.size in let t = c.product-2.ensures.size in
    let sum : FitsSigned w128 (c.product.result +ℤ c.product-2.result) = omega (arith, ints) in
    simp to_z-of_z (rw (simp to_z-of_z at c.product.ensures.value, simp to_z-of_z at c.product-2.ensures.value))
