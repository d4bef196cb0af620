-- Answers to the goals of `digits_behind` in src/number.rt.
use Rattle.std.specs.Prelude.{slice_range}
use Rattle.jtext.proofs.Grammar.NumberTexts.{digits_read}
use Rattle.jtext.proofs.number.digits_behind.Goals as goal

pub returns-then-is_in_digits-clause-passes : goal.returns-then-is_in_digits-clause-passes
returns-then-is_in_digits-clause-passes c =
    digits_read c.args.place (c.is_in_digits.ensures.0 c.if-is_in_digits.true)
    (slice_range c.args.bytes.now c.args.from c.digits_end.result) c.digits_end.ensures.digits
