-- Answers to the goals of `share_of` in src/cuts.rt.
use Rattle.std.proofs.Common.{arith}
use Rattle.std.proofs.lemmas.Int.{ints}
use Rattle.meet_rel.proofs.cuts.share_of.Goals as goal

pub overflow_sub-at : goal.overflow_sub-at
overflow_sub-at c =
    let a = c.ranges.at in let b = c.ranges.from in let k = c.requires.between.0 in let l = c.requires.between.1 in
    omega (arith, ints)

pub overflow_sub-to : goal.overflow_sub-to
overflow_sub-to c = omega (arith, ints)

pub invariant_of-result : goal.invariant_of-result
invariant_of-result c =
    let k = c.requires.between.0 in let l = c.requires.between.1 in
    record { positive = omega (arith, ints); num_small = omega (arith, ints); den_small = omega (arith, ints) }
