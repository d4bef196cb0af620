-- Answers to the goals of `order` in src/ordering.rt.
use Rattle.std.proofs.Common.{rules, SFits, ◌*ℤ◌}
use Rattle.std.proofs.lemmas.Int.{to_z-of_z}
use Rattle.std.proofs.lemmas.Cmp.{int_ranked}
use mir.Syntax.{w128}
use Rattle.frac128.proofs.ordering.order.Goals as goal

pub returns-clause-value : goal.returns-clause-value
returns-clause-value c =
    let a = c.args.a in let b = c.args.b in
    let an : SFits w128 a.num = search rules in let ad : SFits w128 a.den = search rules in
    let bn : SFits w128 b.num = search rules in let bd : SFits w128 b.den = search rules in
    let left : SFits w128 c.product.result = search rules in
    let right : SFits w128 c.product-2.result = search rules in
    let compared = simp to_z-of_z at c.cmp.ensures in
    rw (simp to_z-of_z at c.product.ensures, simp to_z-of_z at c.product-2.ensures) at compared

pub returns-clause-cases : goal.returns-clause-cases
returns-clause-cases c =
    let a = c.args.a in let b = c.args.b in
    int_ranked (a.num *ℤ b.den) (b.num *ℤ a.den) c.cmp.result (returns-clause-value c)
