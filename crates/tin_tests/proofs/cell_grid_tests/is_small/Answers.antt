-- Answers to the goals of `is_small` in src/cell_grid_tests.rt.
use Rattle.std.proofs.Common.{refl, rules, arith}
use Rattle.std.specs.Prelude.{FitsSigned}
use Rattle.std.proofs.lemmas.Int.{to_z-of_z, ints}
use mir.Syntax.{w64}
use Rattle.tin_tests.proofs.cell_grid_tests.is_small.Goals as goal

pub returns : goal.returns
returns c t =
    let x0 : FitsSigned w64 c.args.rect.now.x0 = search rules in
    let x1 : FitsSigned w64 c.args.rect.now.x1 = search rules in
    let y0 : FitsSigned w64 c.args.rect.now.y0 = search rules in
    let y1 : FitsSigned w64 c.args.rect.now.y1 = search rules in
    let left = simp to_z-of_z at c.if-rect-ltminus100000000.false in
    let right = simp to_z-of_z at c.if-rect-gt100000000.false in
    let bottom = simp to_z-of_z at c.if-rect-ltminus100000000-2.false in
    let top = simp to_z-of_z at c.if-rect-gt100000000-2.false in
    record {
      ordered = c.if-not-is_ordered.ensures refl;
      left = omega (arith, ints, left);
      right =
          omega (arith, ints, right);
      bottom = omega (arith, ints, bottom);
      top = omega (arith, ints, top);
    }
