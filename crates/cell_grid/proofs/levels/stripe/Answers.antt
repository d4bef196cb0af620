-- Answers to the goals of `stripe` in src/levels.rt.
use Rattle.std.proofs.Common.{◌≡◌, ◌-ℤ◌, unsigned_abs, refl, rules, arith}
use Rattle.std.specs.Prelude.{FitsSigned}
use Rattle.std.proofs.lemmas.Int.{ints, to_z-of_z}
use mir.Syntax.{w64}
use Rattle.cell_grid.specs.Stripes.{stripe_of}
use Rattle.cell_grid.proofs.levels.stripe.Goals as goal

pub returns-clause-stripe : goal.returns-clause-stripe
unfolding stripe_of
returns-clause-stripe c =
    let x : FitsSigned w64 c.args.x = search rules in
    let low : FitsSigned w64 c.args.low = search rules in
    let at = simp to_z-of_z at c.offset.ensures in
    let way : unsigned_abs (c.args.x -ℤ c.args.low) ≡ c.offset.result = omega (arith, ints, at) in
    rw (way) refl
