-- Answers to the goals of `unit_at` in src/sameness.rt.
use Rattle.std.proofs.Common.{◌+◌, ◌∙◌, sym, arith, drop, get_or}
use Rattle.std.proofs.lemmas.List.{drop_more}
use Rattle.jtext.proofs.CodeReads.UnitLaws.{wide_unit}
use Rattle.jtext.proofs.sameness.unit_at.Goals as goal

pub returns-then-raw-at-ge128-clause-unit : goal.returns-then-raw-at-ge128-clause-unit
returns-then-raw-at-ge128-clause-unit c char rest is text =
    wide_unit (get_or c.args.raw.now c.args.at 0) (drop (c.args.at + 1) c.args.raw.now) char rest is
    (sym (drop_more c.args.raw.now c.args.at 0 (omega arith)) ∙ text) (omega arith)
