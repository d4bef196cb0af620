-- Answers to the goals of `put_pair` in src/metres_texts.rt.
use Rattle.std.proofs.Common.{◌/◌, [], ◌∷◌, subst}
use Rattle.mm_decimal.specs.MetresTexts.{digit_text, Puts}
use Rattle.mm_decimal.proofs.Pairs.{pair_at}
use Rattle.mm_decimal.proofs.TextJoins.{puts_then}
use Rattle.mm_decimal.proofs.metres_texts.put_pair.Goals as goal

pub returns : goal.returns
returns c =
    let digits = pair_at c.args.number in
    puts_then c.args.out.now c.put_byte-at.new.out c.put_byte.new.out c.args.at c.put_byte-at.result c.put_byte.result
    (digit_text (c.args.number / 10)) (digit_text c.args.number)
    (subst (λ d. Puts c.args.out.now c.put_byte-at.new.out c.args.at c.put_byte-at.result (d ∷ [])) digits.0
    c.put_byte-at.ensures)
    (subst (λ d. Puts c.put_byte-at.new.out c.put_byte.new.out c.put_byte-at.result c.put_byte.result (d ∷ [])) digits.1
    c.put_byte.ensures)
