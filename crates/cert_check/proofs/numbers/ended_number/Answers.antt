-- Answers to the goals of `ended_number` in src/numbers.rt.
use Rattle.std.proofs.Common.{◌≡◌, length, arith}
use Rattle.cert_check.proofs.Digits.{not_ended, nothing_behind}
use Rattle.cert_check.proofs.numbers.ended_number.Goals as goal

pub returns-in_default-rest-clause-none : goal.returns-in_default-rest-clause-none
returns-in_default-rest-clause-none c =
    let none : length c.in-Some.front.rest.now ≡ 0 = omega arith in
    nothing_behind c.args.text.now c.in-Some.front.number c.in-Some.front.rest.now c.in-Some.ensures.some none

pub returns-in-None-clause-none : goal.returns-in-None-clause-none
returns-in-None-clause-none c = not_ended c.args.text.now c.in-Some.front.number c.in-Some.front.rest.now
    c.in-Some.ensures.some c.in-None.ensures.none
