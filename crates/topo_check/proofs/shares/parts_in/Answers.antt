-- Answers to the goals of `parts_in` in src/shares.rt.
use Rattle.std.proofs.Common.{◌≡◌, ℤ, ◌*ℤ◌, rules, SFits, sym, subst}
use Rattle.std.proofs.lemmas.Int.{to_z-of_z}
use Rattle.std.specs.Int.{int_div_euclid}
use mir.Syntax.{w64, w128}
use Rattle.topo_check.specs.declared.parts.TheConstants.{PARTS}
use Rattle.topo_check.proofs.WholeParts.{parts_fit}
use Rattle.topo_check.proofs.shares.parts_in.Goals as goal

pub overflow_cast-result : goal.overflow_cast-result
overflow_cast-result c =
    let n = c.args.share.num in let d = c.args.share.den in let q = c.quotient.result in
    let hq : SFits w128 q = search rules in let hn : SFits w128 n = search rules in let hd : SFits w128 d =
    search rules in
    let is : q ≡ int_div_euclid (n *ℤ PARTS) d = c.quotient.ensures in
    simp to_z-of_z (subst (λ (y : ℤ). SFits w64 y) (sym is) (parts_fit n d c.requires))

pub returns : goal.returns
returns c =
    let n = c.args.share.num in let d = c.args.share.den in let q = c.quotient.result in
    let hq : SFits w128 q = search rules in let hn : SFits w128 n = search rules in let hd : SFits w128 d =
    search rules in
    let is : q ≡ int_div_euclid (n *ℤ PARTS) d = c.quotient.ensures in
    let fits : SFits w64 q = subst (λ (y : ℤ). SFits w64 y) (sym is) (parts_fit n d c.requires) in
    simp to_z-of_z is
