-- The proof of the law `mm_is_nearest` in src/numerals.rt.
use Rattle.mm_decimal.proofs.Nearest.{nearest, nearest_only}
use Rattle.mm_decimal.proofs.numerals.mm_is_nearest.Goals as goal

pub returns : goal.returns
returns c = record { nearest = nearest; only = nearest_only }
