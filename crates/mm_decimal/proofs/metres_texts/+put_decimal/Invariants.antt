-- The measure of the recursion of `put_decimal` in src/metres_texts.rt.
use Rattle.mm_decimal.proofs.metres_texts.+put_decimal.Given as goal

abbrev pub decreases-put_decimal : goal.decreases-put_decimal
decreases-put_decimal l = l.number
