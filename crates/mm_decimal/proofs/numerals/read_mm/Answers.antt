-- Answers to the goals of `read_mm` in src/numerals.rt.
use Rattle.std.specs.Prelude.{Ok, Err}
use Rattle.mm_decimal.specs.declared.numerals.NumFault.TheVariants.{Form, Range}
use Rattle.mm_decimal.proofs.OneAnswer.{answers_exactly}
use Rattle.mm_decimal.proofs.MeasuredAnswers.{answer_is_measured}
use Rattle.mm_decimal.proofs.numerals.read_mm.Goals as goal

pub returns-clause-form : goal.returns-clause-form
returns-clause-form c at = answers_exactly c.args.text.now c.answer.result c.answer.ensures (Err (Form at))

pub returns-clause-range : goal.returns-clause-range
returns-clause-range c = answers_exactly c.args.text.now c.answer.result c.answer.ensures (Err Range)

pub returns-clause-read : goal.returns-clause-read
returns-clause-read c read = answers_exactly c.args.text.now c.answer.result c.answer.ensures (Ok read)

pub returns-clause-measured : goal.returns-clause-measured
returns-clause-measured c = answer_is_measured c.args.text.now c.answer.result c.answer.ensures
