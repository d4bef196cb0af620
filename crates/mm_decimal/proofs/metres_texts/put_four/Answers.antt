-- Answers to the goals of `put_four` in src/metres_texts.rt.
use Rattle.std.proofs.Common.{◌≡◌, ◌/◌, ◌++◌, subst, arith}
use Rattle.mm_decimal.specs.MetresTexts.{digit_text, Puts}
use Rattle.mm_decimal.proofs.TextJoins.{puts_then}
use Rattle.mm_decimal.proofs.metres_texts.put_four.Goals as goal

pub returns : goal.returns
returns c =
    let tenth : c.args.number / 100 / 10 ≡ c.args.number / 1000 = omega arith in
    puts_then c.args.out.now c.put_pair-at.new.out c.put_pair.new.out c.args.at c.put_pair-at.result c.put_pair.result
    (digit_text (c.args.number / 1000) ++ digit_text (c.args.number / 100))
    (digit_text (c.args.number / 10) ++ digit_text c.args.number)
    (subst (λ n. Puts c.args.out.now c.put_pair-at.new.out c.args.at c.put_pair-at.result
    (digit_text n ++ digit_text (c.args.number / 100))) tenth c.put_pair-at.ensures)
    c.put_pair.ensures
