-- Answers to the goals of `put_upto_four` in src/metres_texts.rt.
use Rattle.std.proofs.Common.{◌/◌, ◌++◌, decimal, subst, arith}
use Rattle.mm_decimal.specs.MetresTexts.{digit_text, Puts}
use Rattle.mm_decimal.proofs.TextJoins.{puts_then, last_two, two_longer}
use Rattle.mm_decimal.proofs.metres_texts.put_upto_four.Goals as goal

pub put_upto_two-at-requires-clause-room : goal.put_upto_two-at-requires-clause-room
put_upto_two-at-requires-clause-room c = omega (arith, two_longer c.args.number c.if-number-lt100.false (omega arith))

pub put_pair-requires : goal.put_pair-requires
put_pair-requires c = omega (
  arith,
  two_longer c.args.number c.if-number-lt100.false (omega arith),
  c.put_upto_two-at.ensures.ends,
)

pub returns-else-number-lt100 : goal.returns-else-number-lt100
returns-else-number-lt100 c =
    subst (Puts c.args.out.now c.put_pair.new.out c.args.at c.put_pair.result)
    (last_two c.args.number c.if-number-lt100.false (omega arith))
    (puts_then c.args.out.now c.put_upto_two-at.new.out c.put_pair.new.out c.args.at c.put_upto_two-at.result
    c.put_pair.result
    (decimal (c.args.number / 100)) (digit_text (c.args.number / 10) ++ digit_text c.args.number)
    c.put_upto_two-at.ensures c.put_pair.ensures)
