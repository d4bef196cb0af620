-- Answers to the goals of `quotient` in src/shares.rt.
use Rattle.std.proofs.Common.{◌≡◌, ◌*ℤ◌, rules, SFits, to_z, of_z, arith}
use Rattle.std.proofs.lemmas.Int.{ints, to_z-of_z}
use Rattle.std.specs.Int.{int_div_euclid}
use mir.Syntax.{w128}
use Rattle.topo_check.specs.declared.parts.TheConstants.{PARTS}
use Rattle.topo_check.proofs.WholeParts.{wide_fits}
use Rattle.topo_check.proofs.shares.quotient.Goals as goal

pub returns : goal.returns
returns c =
    let n = c.args.share.num in
    let hn : SFits w128 n = search rules in let hd : SFits w128 c.args.share.den = search rules in
    let parts_is : to_z w128 (of_z w128 c.from.result) ≡ PARTS = omega (arith, ints) in
    let product : SFits w128 (n *ℤ PARTS) = wide_fits n c.args.share.num_small in
    let hq : SFits w128 c.div_euclid.result = search rules in
    let is : c.div_euclid.result ≡ int_div_euclid (n *ℤ PARTS) c.args.share.den =
    simp (parts_is, to_z-of_z) at c.div_euclid.ensures in
    simp to_z-of_z is
