-- The proof of the law `codes_are_whole_numbers` in src/laws.rt.
use Rattle.dxf_pairs.proofs.Between.{between_blanks, whole_numbers}
use Rattle.dxf_pairs.proofs.laws.codes_are_whole_numbers.Goals as goal

pub returns-clause-values : goal.returns-clause-values
returns-clause-values c = between_blanks

pub returns-clause-codes : goal.returns-clause-codes
returns-clause-codes c = whole_numbers
