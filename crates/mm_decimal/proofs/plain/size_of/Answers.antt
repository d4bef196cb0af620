-- Answers to the goals of `size_of` in src/plain.rt.
use Rattle.std.proofs.Common.{arith}
use Rattle.mm_decimal.proofs.PlainReads.{below}
use Rattle.mm_decimal.proofs.plain.size_of.Goals as goal

pub size_with-requires-clause-small : goal.size_with-requires-clause-small
size_with-requires-clause-small c =
    let front = c.front_of-whole in
    below front.result.number front.result.count front.ensures.small
    (omega (arith, front.ensures.within, c.if-text-gt-LONGEST_PLAIN.false))
