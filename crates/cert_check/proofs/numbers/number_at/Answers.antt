-- Answers to the goals of `number_at` in src/numbers.rt.
use Rattle.std.specs.Char.{is_ascii_digit}
use Rattle.std.proofs.lemmas.List.Sums.{prefix_len-le-length}
use Rattle.text_places.proofs.DigitFronts.{are_front_digits}
use Rattle.cert_check.proofs.Digits.{number_front, no_front}
use Rattle.cert_check.proofs.numbers.number_at.Goals as goal

pub split_at-requires : goal.split_at-requires
split_at-requires c = rw c.digit_count.ensures (prefix_len-le-length is_ascii_digit c.args.text.now)

pub number_of-requires : goal.number_of-requires
number_of-requires c = rw (c.split_at.ensures.front, c.digit_count.ensures) (are_front_digits c.args.text.now)

pub returns-in-None-clause-none : goal.returns-in-None-clause-none
returns-in-None-clause-none c = no_front c.args.text.now c.split_at.result.0.now c.digit_count.result
    c.digit_count.ensures c.split_at.ensures.front c.in-None.ensures.none

pub returns-in-Some-clause-some : goal.returns-in-Some-clause-some
returns-in-Some-clause-some c =
    number_front c.args.text.now c.split_at.result.0.now c.split_at.result.1.now c.digit_count.result c.in-Some.number
    c.digit_count.ensures c.split_at.ensures.front c.split_at.ensures.back c.in-Some.ensures.some.0
    c.in-Some.ensures.some.1
