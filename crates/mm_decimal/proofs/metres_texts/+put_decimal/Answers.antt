-- Answers to the goals of `put_decimal` in src/metres_texts.rt.
use Rattle.std.proofs.Common.{◌/◌, ◌++◌, decimal, subst, arith}
use Rattle.mm_decimal.specs.MetresTexts.{digit_text, Puts}
use Rattle.mm_decimal.proofs.TextJoins.{puts_then, last_four, four_longer}
use Rattle.mm_decimal.proofs.metres_texts.+put_decimal.Goals as goal

pub put_decimal-at-requires : goal.put_decimal-at-requires
put_decimal-at-requires t c = (
  omega arith,
  omega
      (arith, four_longer c.args.number c.if-number-lt10000.false (omega arith)),
)

pub put_four-requires : goal.put_four-requires
put_four-requires t c = omega (
  arith,
  four_longer c.args.number c.if-number-lt10000.false (omega arith),
  c.put_decimal-at.ensures.ends,
)

pub returns : goal.returns
returns t c =
    subst (Puts c.args.out.now c.put_four.new.out c.args.at c.put_four.result)
    (last_four c.args.number c.if-number-lt10000.false (omega arith))
    (puts_then c.args.out.now c.put_decimal-at.new.out c.put_four.new.out c.args.at c.put_decimal-at.result
    c.put_four.result
    (decimal (c.args.number / 10000)) (digit_text (c.args.number / 1000)
    ++ (digit_text (c.args.number / 100) ++ (digit_text (c.args.number / 10) ++ digit_text c.args.number)))
    c.put_decimal-at.ensures c.put_four.ensures)
