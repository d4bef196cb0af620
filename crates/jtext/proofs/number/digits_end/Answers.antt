-- Answers to the goals of `digits_end` in src/number.rt.
use Rattle.std.proofs.Common.{arith}
use Rattle.jtext.specs.Numbers.{IsDigit}
use Rattle.jtext.proofs.CodeReads.Pieces.{all_more}
use Rattle.jtext.proofs.number.digits_end.Goals as goal

pub loop-at-preserved : goal.loop-at-preserved
loop-at-preserved c = record {
  begun = omega arith;
  within = omega arith;
  digits = all_more IsDigit c.args.bytes.now c.args.from c.loop-at.at (omega arith) (omega arith)
      c.loop-at.invariant.digits (c.is_digit.ensures.0 c.if-is_digit.true);
}
