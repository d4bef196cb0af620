-- Answers to the goals of `down` in src/shares.rt.
use Rattle.std.proofs.Common.{◌≡◌, ℤ, pos, ◌*ℤ◌, ◌≤ℤ◌, rules, SFits, sym, subst, arith}
use Rattle.std.proofs.lemmas.Int.{ints, to_z-of_z}
use Rattle.std.specs.Int.{int_div_euclid}
use mir.Syntax.{w64}
use Rattle.topo_check.specs.declared.parts.TheConstants.{PARTS}
use Rattle.topo_check.proofs.WholeParts.{below_on, below_back}
use Rattle.topo_check.proofs.shares.down.Goals as goal

pub returns-then-way-lt0-clause-below : goal.returns-then-way-lt0-clause-below
returns-then-way-lt0-clause-below c = λ of is.
    let z = c.args.way in let n = c.args.share.up in let hz = c.ranges.way in let hn : SFits w64 n = search rules in
    let hq : SFits w64 c.part_of.result = search rules in
    let e : c.part_of.result ≡ int_div_euclid (n *ℤ z) PARTS = simp to_z-of_z at c.part_of.ensures in
    let low : z ≤ℤ pos 0 = omega (arith, ints, c.if-way-lt0.true) in
    simp to_z-of_z (subst (λ (y : ℤ). (y *ℤ of.den) ≤ℤ (of.num *ℤ z)) (sym e)
    (below_back n of.den of.num z of.positive low is.up))

pub returns-else-way-lt0-clause-below : goal.returns-else-way-lt0-clause-below
returns-else-way-lt0-clause-below c = λ of is.
    let z = c.args.way in let n = c.args.share.down in let hz = c.ranges.way in let hn : SFits w64 n = search rules in
    let hq : SFits w64 c.part_of-else-way-lt0.result = search rules in
    let e : c.part_of-else-way-lt0.result ≡ int_div_euclid (n *ℤ z) PARTS =
    simp to_z-of_z at c.part_of-else-way-lt0.ensures in
    let high : pos 0 ≤ℤ z = omega (arith, ints, c.if-way-lt0.false) in
    simp to_z-of_z (subst (λ (y : ℤ). (y *ℤ of.den) ≤ℤ (of.num *ℤ z)) (sym e)
    (below_on n of.den of.num z of.positive high is.down))
