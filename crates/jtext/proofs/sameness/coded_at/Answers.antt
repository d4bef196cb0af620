-- Answers to the goals of `coded_at` in src/sameness.rt.
use Rattle.std.proofs.Common.{arith}
use Rattle.jtext.proofs.CodeReads.UnitLaws.{coded_long, coded_value}
use Rattle.jtext.proofs.sameness.coded_at.Goals as goal

pub returns-then-raw-at-lt4-clause-unit : goal.returns-then-raw-at-lt4-clause-unit
returns-then-raw-at-lt4-clause-unit c char rest is text =
    absurd (omega (arith, coded_long c.args.raw.now c.args.at char rest c.requires is text))

pub returns-clause-unit : goal.returns-clause-unit
returns-clause-unit c char rest is text =
    coded_value c.args.raw.now c.args.at char rest (omega arith) is text c.digit_of.result c.digit_of-2.result
    c.digit_of-3.result c.digit_of-4.result
    c.digit_of.ensures.value c.digit_of-2.ensures.value c.digit_of-3.ensures.value c.digit_of-4.ensures.value
