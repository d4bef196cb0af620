-- Answers to the goals of `share` in src/offsets.rt.
use Rattle.std.proofs.Common.{◌≡◌, to_z, of_z, ◌*ℤ◌, SFits, arith}
use Rattle.std.proofs.lemmas.Int.{ints, to_z-of_z}
use mir.Syntax.{w128}
use Rattle.affine_image.proofs.HeightLemmas.{share_small, share_fits}
use Rattle.tin_height.proofs.offsets.share.Goals as goal

pub overflow_mul-result : goal.overflow_mul-result
overflow_mul-result c =
    let a : to_z w128 (of_z w128 c.from.result) ≡ c.args.offset = omega (arith, ints) in
    let w = c.ranges.weight in
    simp (a, to_z-of_z) (share_fits c.args.weight c.args.offset c.requires.weight c.requires.offset)

pub returns-clause-value : goal.returns-clause-value
returns-clause-value c =
    let a : to_z w128 (of_z w128 c.from.result) ≡ c.args.offset = omega (arith, ints) in
    let w = c.ranges.weight in
    let f : SFits w128 (c.args.weight *ℤ c.args.offset) =
    share_fits c.args.weight c.args.offset c.requires.weight c.requires.offset in
    simp (a, to_z-of_z)

pub returns-clause-size : goal.returns-clause-size
returns-clause-size c =
    let a : to_z w128 (of_z w128 c.from.result) ≡ c.args.offset = omega (arith, ints) in
    let w = c.ranges.weight in
    let f : SFits w128 (c.args.weight *ℤ c.args.offset) =
    share_fits c.args.weight c.args.offset c.requires.weight c.requires.offset in
    simp (a, to_z-of_z) (share_small c.args.weight c.args.offset c.requires.weight c.requires.offset)
