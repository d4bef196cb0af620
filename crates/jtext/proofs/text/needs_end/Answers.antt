-- Answers to the goals of `needs_end` in src/text.rt.
use Rattle.std.proofs.Common.{◌+◌, ◌∙◌, sym, arith, drop, get_or}
use Rattle.jtext.specs.InsideTokens.{inner_step, needing}
use Rattle.jtext.specs.declared.text.Need.TheVariants.{Tail}
use Rattle.jtext.proofs.CodeReads.Pieces.{passes_more}
use Rattle.jtext.proofs.CodeReads.Tokens.{need_goes}
use Rattle.jtext.proofs.text.needs_end.Goals as goal

pub loop-need-preserved : goal.loop-need-preserved
loop-need-preserved c = record {
  place = omega arith;
  within = omega arith;
  passes = passes_more inner_step (needing c.args.needs.now) c.args.bytes.now c.args.from c.loop-need.at
      (needing (drop c.loop-need.need-index c.args.needs.now))
      (needing (drop (c.loop-need.need-index + 1) c.args.needs.now)) (omega arith) (omega arith)
      c.loop-need.invariant.passes
      (need_goes c.args.needs.now c.loop-need.need-index (get_or c.args.bytes.now c.loop-need.at 0) Tail (omega arith)
      (sym c.takes.ensures ∙ c.if-not-takes.false));
}
