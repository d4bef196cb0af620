-- Answers to the goals of `blanks_end` in src/steps.rt.
use Rattle.std.proofs.Common.{arith}
use Rattle.jtext.specs.Values.{IsBlank}
use Rattle.jtext.proofs.CodeReads.Pieces.{all_more}
use Rattle.jtext.proofs.steps.blanks_end.Goals as goal

pub loop-at-preserved : goal.loop-at-preserved
loop-at-preserved c = record {
  begun = omega arith;
  within = omega arith;
  blank = all_more IsBlank c.args.bytes.now c.args.from c.loop-at.at (omega arith) (omega arith)
      c.loop-at.invariant.blank (c.is_blank.ensures.0 c.if-is_blank.true);
}
