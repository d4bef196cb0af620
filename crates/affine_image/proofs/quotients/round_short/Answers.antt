-- Answers to the goals of `round_short` in src/quotients.rt.
use Rattle.std.proofs.Common.{rules, FitsSigned, pos, ◌+ℤ◌, ◌*ℤ◌, arith}
use Rattle.std.proofs.lemmas.Int.{to_z-of_z, ints}
use mir.Syntax.{w64}
use Rattle.affine_image.proofs.quotients.round_short.Goals as goal

pub returns : goal.returns
returns c =
    let n = c.ranges.num in let d = c.ranges.den in let short = c.requires.num_short in let below =
    c.requires.den_short in
    let doubled : FitsSigned w64 (pos 2 *ℤ c.args.num) = omega (arith, ints) in
    let divisor : FitsSigned w64 (pos 2 *ℤ c.args.den) = omega (arith, ints) in
    let sum : FitsSigned w64 (pos 2 *ℤ c.args.num +ℤ c.args.den) = omega (arith, ints) in
    let quotient : FitsSigned w64 c.div_euclid.result = search rules in
    simp to_z-of_z (simp to_z-of_z at c.div_euclid.ensures)
