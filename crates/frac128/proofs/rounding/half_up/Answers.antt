-- Answers to the goals of `half_up` in src/rounding.rt.
use Rattle.std.proofs.Common.{rules, FitsSigned, pos, ◌+ℤ◌, ◌*ℤ◌, arith}
use Rattle.std.proofs.lemmas.Int.{to_z-of_z, ints}
use mir.Syntax.{w128}
use Rattle.frac128.proofs.rounding.half_up.Goals as goal

pub returns : goal.returns
returns c =
    let n = c.ranges.num in let d = c.ranges.den in
    let doubled : FitsSigned w128 (pos 2 *ℤ c.args.num) = omega (arith, ints) in
    let divisor : FitsSigned w128 (pos 2 *ℤ c.args.den) = omega (arith, ints) in
    let sum : FitsSigned w128 (pos 2 *ℤ c.args.num +ℤ c.args.den) = omega (arith, ints) in
    let quotient : FitsSigned w128 c.div_euclid.result = search rules in
    simp to_z-of_z (simp to_z-of_z at c.div_euclid.ensures)
