-- Answers to the goals of `read_digits` in src/triangles.rt.
use Rattle.std.proofs.Common.{◌+◌, ◌*◌, sym, ap, ◌∙◌}
use Rattle.std.specs.Prelude.{min}
use Rattle.tin_base.specs.declared.limits.TheConstants.{MOST_CORNERS}
use Rattle.tin_file.proofs.FileRows.DigitTexts.{digits_on, number_more, number_whole}
use Rattle.tin_file.proofs.triangles.read_digits.Goals as goal

pub loop-byte-preserved : goal.loop-byte-preserved
loop-byte-preserved c =
    let text = c.args.text.now in let i = c.loop-byte.byte-index in (
      c.loop-byte.invariant.0 ∙ digits_on text i c.loop-byte-test.true
          (sym c.is_ascii_digit.ensures.value ∙ c.if-not-is_ascii_digit.false),
      c.min-number.ensures ∙ ap (λ d. min (c.loop-byte.number * 10 + d) MOST_CORNERS) c.from.ensures
          ∙ number_more text i c.loop-byte.number c.loop-byte-test.true c.loop-byte.invariant.1,
    )

pub returns : goal.returns
returns c =
    number_whole c.args.text.now c.loop-byte.byte-index c.loop-byte.number c.loop-byte-test.false
    c.loop-byte.invariant.0 c.loop-byte.invariant.1
