-- Answers to the goals of `part` in src/mixes.rt.
use Rattle.std.proofs.Common.{◌≡◌, to_z, of_z, ◌*ℤ◌, SFits, arith}
use Rattle.std.proofs.lemmas.Int.{ints, to_z-of_z}
use mir.Syntax.{w128}
use Rattle.affine_image.proofs.Sizes.{part_size, part_fits}
use Rattle.affine_image.proofs.mixes.part.Goals as goal

pub overflow_mul-result : goal.overflow_mul-result
overflow_mul-result c =
    let a : to_z w128 (of_z w128 c.from.result) ≡ c.args.way = omega (arith, ints) in
    let w = c.ranges.weight in
    simp (a, to_z-of_z) (part_fits (c.args.weight *ℤ c.args.way)
    (part_size c.args.weight c.args.way c.requires.weight c.requires.way))

pub returns-clause-value : goal.returns-clause-value
returns-clause-value c =
    let a : to_z w128 (of_z w128 c.from.result) ≡ c.args.way = omega (arith, ints) in
    let w = c.ranges.weight in
    let f : SFits w128 (c.args.weight *ℤ c.args.way) =
    part_fits (c.args.weight *ℤ c.args.way) (part_size c.args.weight c.args.way c.requires.weight c.requires.way) in
    simp (a, to_z-of_z)

pub returns-clause-size : goal.returns-clause-size
returns-clause-size c =
    let a : to_z w128 (of_z w128 c.from.result) ≡ c.args.way = omega (arith, ints) in
    let w = c.ranges.weight in
    let s = part_size c.args.weight c.args.way c.requires.weight c.requires.way in
    let f : SFits w128 (c.args.weight *ℤ c.args.way) = part_fits (c.args.weight *ℤ c.args.way) s in
    simp (a, to_z-of_z) s
