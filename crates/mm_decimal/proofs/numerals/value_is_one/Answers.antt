-- The proof of the law `value_is_one` in src/numerals.rt.
use Rattle.mm_decimal.proofs.OneAnswer.{one_value}
use Rattle.mm_decimal.proofs.numerals.value_is_one.Goals as goal

pub returns : goal.returns
returns c = one_value
