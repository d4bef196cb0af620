-- Answers to the goals of `text_end` in src/text.rt.
use Rattle.std.proofs.Common.{◌∙◌, ap, sym, arith}
use Rattle.std.specs.Prelude.{Ok, Err}
use Rattle.jtext.specs.InsideTokens.{Inner, inner_step, after_text_sign, GoesOn}
use Rattle.jtext.proofs.CodeReads.Pieces.{passes_more, passes_on}
use Rattle.jtext.proofs.CodeReads.Tokens.{ends_on}
use Rattle.jtext.proofs.text.text_end.Goals as goal

pub returns-then-is_quote : goal.returns-then-is_quote
returns-then-is_quote c = (
  omega arith,
  omega arith,
  passes_more inner_step Inner.plain c.args.bytes.now c.args.from c.loop-at.at Inner.plain Inner.closed (omega arith)
      c.loop-at-test.true c.loop-at.invariant.passes
      (ap after_text_sign (sym c.of-sign.ensures ∙ c.is_quote.ensures.0 c.if-is_quote.true)),
)

pub loop-at-preserved : goal.loop-at-preserved
loop-at-preserved c =
    let inv = c.loop-at.invariant in
    let here : GoesOn Inner.plain Inner.plain c.args.bytes.now c.args.from c.in-Ok.end =
    ends_on Inner.plain Inner.plain Inner.plain c.args.bytes.now c.args.from c.loop-at.at (Ok c.in-Ok.end)
    (inv.begun, inv.within, inv.passes) c.in-Ok.ensures.ends in
    record {
      begun = omega (arith, here.0);
      within = omega arith;
      passes = passes_on inner_step Inner.plain c.args.bytes.now c.args.from c.in-Ok.end c.plain_end-at-in-Ok.result
          Inner.plain Inner.plain here.0
          c.plain_end-at-in-Ok.ensures.within.0 c.plain_end-at-in-Ok.ensures.within.1 here.2
          c.plain_end-at-in-Ok.ensures.passes;
    }

pub returns-in-Err : goal.returns-in-Err
returns-in-Err c =
    let inv = c.loop-at.invariant in
    ends_on Inner.plain Inner.plain Inner.closed c.args.bytes.now c.args.from c.loop-at.at (Err c.in-Err.wrong)
    (inv.begun, inv.within, inv.passes) c.in-Err.ensures.ends
