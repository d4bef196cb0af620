-- The proof of the law `measured_is_the_answer` in src/numerals.rt.
use Rattle.mm_decimal.proofs.MeasuredAnswers.{measured_answers, answer_is_measured}
use Rattle.mm_decimal.proofs.numerals.measured_is_the_answer.Goals as goal

pub returns : goal.returns
returns c = record { answers = measured_answers; only = answer_is_measured }
