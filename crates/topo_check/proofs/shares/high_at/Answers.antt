-- Answers to the goals of `high_at` in src/shares.rt.
use Rattle.std.proofs.Common.{◌-ℤ◌, rules, SFits, refl}
use Rattle.std.proofs.lemmas.Int.{to_z-of_z}
use mir.Syntax.{w64}
use Rattle.topo_check.proofs.Tight.{difference_fits, short_fits, short_back, high_place}
use Rattle.topo_check.proofs.shares.high_at.Goals as goal

pub overflow_sub-result : goal.overflow_sub-result
overflow_sub-result c =
    let from = c.args.from in let to = c.args.to in let r = c.down.result in
    let hf = c.ranges.from in let ht = c.ranges.to in
    let hr : SFits w64 r = search rules in
    let way : SFits w64 (from -ℤ to) = short_fits (from -ℤ to) (short_back from to c.requires) in
    simp to_z-of_z (difference_fits from to r hf ht (simp to_z-of_z at c.down.ensures.low)
    (simp to_z-of_z at c.down.ensures.high))

pub returns : goal.returns
returns c = λ of is.
    let from = c.args.from in let to = c.args.to in let r = c.down.result in
    let hf = c.ranges.from in let ht = c.ranges.to in
    let hr : SFits w64 r = search rules in
    let way : SFits w64 (from -ℤ to) = short_fits (from -ℤ to) (short_back from to c.requires) in
    let fits : SFits w64 (from -ℤ r) = difference_fits from to r hf ht (simp to_z-of_z at c.down.ensures.low)
    (simp to_z-of_z at c.down.ensures.high) in
    simp to_z-of_z (high_place from to of.num of.den r (from -ℤ r) refl
    (simp to_z-of_z at (c.down.ensures.below of is)))
