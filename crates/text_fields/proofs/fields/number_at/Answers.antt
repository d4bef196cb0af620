-- Answers to the goals of `number_at` in src/fields.rt.
use Rattle.std.specs.Char.{is_ascii_digit}
use Rattle.std.proofs.lemmas.List.Sums.{prefix_len-le-length}
use Rattle.text_fields.proofs.fields.number_at.Goals as goal
use Rattle.text_places.proofs.DigitFronts.{are_front_digits}

pub split_at-requires : goal.split_at-requires
split_at-requires c = rw c.digit_count.ensures (prefix_len-le-length is_ascii_digit c.args.text.now)

pub number_of-requires : goal.number_of-requires
number_of-requires c = rw (c.split_at.ensures.front, c.digit_count.ensures) (are_front_digits c.args.text.now)
