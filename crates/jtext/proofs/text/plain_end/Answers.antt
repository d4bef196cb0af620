-- Answers to the goals of `plain_end` in src/text.rt.
use Rattle.std.proofs.Common.{◌∙◌, ap, sym, arith}
use Rattle.jtext.specs.InsideTokens.{Inner, inner_step, after_text_sign}
use Rattle.jtext.proofs.CodeReads.Pieces.{passes_more}
use Rattle.jtext.proofs.text.plain_end.Goals as goal

pub loop-at-preserved : goal.loop-at-preserved
loop-at-preserved c = record {
  begun = omega arith;
  within = omega arith;
  passes = passes_more inner_step Inner.plain c.args.bytes.now c.args.from c.loop-at.at Inner.plain Inner.plain
      (omega arith) (omega arith) c.loop-at.invariant.passes
      (ap after_text_sign (sym c.of.ensures ∙ c.is_plain.ensures.0 c.if-is_plain.true));
}
