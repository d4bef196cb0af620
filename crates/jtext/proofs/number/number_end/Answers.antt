-- Answers to the goals of `number_end` in src/number.rt.
use Rattle.std.proofs.Common.{◌+◌, ◌∙◌, sym, arith}
use Rattle.jtext.specs.InsideTokens.{number_step}
use Rattle.jtext.proofs.CodeReads.Pieces.{passes_more, passes_on}
use Rattle.jtext.proofs.number.number_end.Goals as goal

pub loop-at-preserved : goal.loop-at-preserved
loop-at-preserved c =
    let digits = c.digits_behind-at-in-loop-at in
    record {
      begun = omega (arith, digits.ensures.within.0);
      within = omega (arith, digits.ensures.within.1);
      passes = passes_on number_step c.args.first c.args.bytes.now c.args.from (c.loop-at.at + 1) digits.result
          c.in-Some.next c.in-Some.next (omega arith) digits.ensures.within.0 digits.ensures.within.1
          (passes_more number_step c.args.first c.args.bytes.now c.args.from c.loop-at.at c.loop-at.place c.in-Some.next
          (omega arith) (omega arith) c.loop-at.invariant.passes (sym c.after.ensures ∙ c.in-Some.is))
          digits.ensures.passes;
    }
