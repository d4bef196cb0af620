-- Answers to the goals of `size_with` in src/plain.rt.
use Rattle.std.proofs.Common.{refl, ◌-◌, take, drop, length, arith}
use Rattle.std.proofs.lemmas.List.{take_rest}
use Rattle.mm_decimal.proofs.PlainReads.{plain_with}
use Rattle.mm_decimal.proofs.plain.size_with.Goals as goal

pub returns-in-Some : goal.returns-in-Some
returns-in-Some c digits size writes =
    let behind = c.args.behind.now in
    let front = c.front_of-fraction in
    plain_with digits behind (take (length behind - 1) (drop 1 behind)) c.args.whole.number front.result.count
    front.result.number c.in-Some.rest
    (c.if-not-begins_with.ensures.first refl) (take_rest behind 1) c.if-fraction-digits.false front.ensures.within
    front.ensures.digits c.in-Some.ensures.size
    writes (omega (arith, size, c.requires.some))
