-- Answers to the goals of `shift` in src/rounding.rt.
use Rattle.std.proofs.Common.{arith}
use Rattle.mm_decimal.proofs.CutRounds.{both_ways}
use Rattle.mm_decimal.proofs.Scales.{raised_size, raised_large, lowered_rounds, lowered_exact}
use Rattle.mm_decimal.proofs.rounding.shift.Goals as goal

pub returns-in-Some-clause-size : goal.returns-in-Some-clause-size
returns-in-Some-clause-size c number h =
    let size = c.in-Some.ensures.size number h in
    raised_size c.args.negative number c.args.kept.dropped c.args.up c.args.down c.if-up-down.true c.in-Some.size size.0
    size.1

pub returns-in-None-clause-size : goal.returns-in-None-clause-size
returns-in-None-clause-size c number h =
    raised_large c.args.negative number c.args.kept.dropped c.args.up c.args.down c.if-up-down.true
    (c.in-None.ensures.size number h)

pub returns-then-size-gt-LIMIT-clause-size : goal.returns-then-size-gt-LIMIT-clause-size
returns-then-size-gt-LIMIT-clause-size c number h =
    let size = c.lower-size.result.size in (
      size,
      lowered_rounds c.args.negative number c.args.kept.dropped c.args.up c.args.down (omega arith) size
          (c.lower-size.ensures.size number h),
      c.if-size-gt-LIMIT.true,
    )

pub returns-else-size-gt-LIMIT-clause-size : goal.returns-else-size-gt-LIMIT-clause-size
returns-else-size-gt-LIMIT-clause-size c number h =
    let size = c.lower-size.result.size in
    record {
      rounds = lowered_rounds c.args.negative number c.args.kept.dropped c.args.up c.args.down (omega arith) size
          (c.lower-size.ensures.size number h);
      limit = c.if-size-gt-LIMIT.false;
      exact = both_ways (c.lower-size.ensures.exact number h)
          (lowered_exact c.args.negative number c.args.kept.dropped c.args.up c.args.down (omega arith) size);
    }
