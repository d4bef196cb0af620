-- Answers to the goals of `raise` in src/rounding.rt.
use Rattle.std.proofs.Common.{arith}
use Rattle.mm_decimal.proofs.CutRounds.{dropped_large, zeros_large}
use Rattle.mm_decimal.proofs.rounding.raise.Goals as goal

pub returns-then-kept-gt0-clause-size : goal.returns-then-kept-gt0-clause-size
returns-then-kept-gt0-clause-size c number h =
    dropped_large c.args.kept.top c.args.kept.dropped c.args.kept.lost number c.args.zeros h c.if-kept-gt0.true

pub returns-then-zeros-gt15-clause-size : goal.returns-then-zeros-gt15-clause-size
returns-then-zeros-gt15-clause-size c number h =
    zeros_large c.args.kept.top c.args.kept.dropped c.args.kept.lost number c.args.zeros h c.if-kept-gt0.false
    (omega arith) c.if-zeros-gt15.true
