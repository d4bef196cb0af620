-- Answers to the goals of `write_mm` in src/metres_texts.rt.
use Rattle.mm_decimal.proofs.TextJoins.{rest_then}
use Rattle.mm_decimal.proofs.metres_texts.write_mm.Goals as goal

pub returns-clause-rest : goal.returns-clause-rest
returns-clause-rest c =
    let old = c.args.out.now in
    let a = c.put_sign-at in
    let b = c.put_decimal-at in
    let d = c.put_byte-at in
    let e = c.put_digit-at in
    let f = c.put_pair in
    let first = rest_then old a.new.out b.new.out a.result b.result _ a.ensures.puts.rest b.ensures.rest
    b.ensures.ends in
    let second = rest_then old b.new.out d.new.out b.result d.result _ first d.ensures.rest d.ensures.ends in
    let third = rest_then old d.new.out e.new.out d.result e.result _ second e.ensures.rest e.ensures.ends in
    rest_then old e.new.out f.new.out e.result f.result _ third f.ensures.rest f.ensures.ends
