-- Answers to the goals of `put_upto_two` in src/metres_texts.rt.
use Rattle.std.proofs.Common.{subst, arith}
use Rattle.mm_decimal.specs.MetresTexts.{Puts}
use Rattle.mm_decimal.proofs.TextJoins.{one_digit, two_digits, one_long, two_long}
use Rattle.mm_decimal.proofs.metres_texts.put_upto_two.Goals as goal

pub put_digit-requires : goal.put_digit-requires
put_digit-requires c = omega (arith, one_long c.args.number c.if-number-lt10.true)

pub put_pair-requires : goal.put_pair-requires
put_pair-requires c = omega (arith, two_long c.args.number c.if-number-lt10.false c.requires.few)

pub returns-then-number-lt10 : goal.returns-then-number-lt10
returns-then-number-lt10 c =
    subst (Puts c.args.out.now c.put_digit.new.out c.args.at c.put_digit.result)
    (one_digit c.args.number c.if-number-lt10.true) c.put_digit.ensures

pub returns-else-number-lt10 : goal.returns-else-number-lt10
returns-else-number-lt10 c =
    subst (Puts c.args.out.now c.put_pair.new.out c.args.at c.put_pair.result)
    (two_digits c.args.number c.if-number-lt10.false c.requires.few) c.put_pair.ensures
