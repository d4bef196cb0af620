-- Differences of near numbers.
use Rattle.std.proofs.Common.{ℤ, ◌-ℤ◌, ◌<ℤ◌, FitsSigned, arith}
use Rattle.std.proofs.lemmas.Int.{ints}
use mir.Syntax.{w64}
use Rattle.plane_base.specs.Plane.{IsShort}
use Rattle.plane_base.specs.declared.shapes.TheConstants.{SPAN}

pub difference_fits : (a b : ℤ) → (b -ℤ a) <ℤ SPAN → (a -ℤ b) <ℤ SPAN → FitsSigned w64 (a -ℤ b)
difference_fits a b h k = omega (arith, ints)

pub difference_short : (a b : ℤ) → (b -ℤ a) <ℤ SPAN → (a -ℤ b) <ℤ SPAN → IsShort (a -ℤ b)
difference_short a b h k = omega (arith, ints)
