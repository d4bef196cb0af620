-- Answers to the goals of `front_of` in src/plain_codes.rt.
use Rattle.std.proofs.Common.{◌≡◌, ◌+◌, get_or, arith}
use Rattle.std.specs.Int.{IsInRange}
use Rattle.std.specs.Char.{digit_value}
use Rattle.std.proofs.lemmas.Int.Digits.{digits_value_more, digits_more}
use Rattle.std.proofs.lemmas.Str.{digit_value_digit}
use Rattle.dxf_pairs.proofs.PlainCodes.{front_small}
use Rattle.dxf_pairs.proofs.plain_codes.front_of.Goals as goal

pub overflow_mul-number : goal.overflow_mul-number
overflow_mul-number c =
    let so_far = c.loop-count.invariant in
    let small = front_small c.args.text.now c.loop-count.count c.loop-count.number so_far.within so_far.few
    so_far.digits so_far.number in omega (arith, small)

pub overflow_add-number : goal.overflow_add-number
overflow_add-number c =
    let so_far = c.loop-count.invariant in
    let small = front_small c.args.text.now c.loop-count.count c.loop-count.number so_far.within so_far.few
    so_far.digits so_far.number in
    let digit : IsInRange 48 57 (get_or c.args.text.now c.loop-count.count 0) = c.if-is_ascii_digit.ensures.cases in
    omega (arith, small, c.from.ensures, digit.0, digit.1)

pub loop-count-preserved : goal.loop-count-preserved
loop-count-preserved c =
    let text = c.args.text.now in
    let count = c.loop-count.count in
    let so_far = c.loop-count.invariant in
    let digit : IsInRange 48 57 (get_or text count 0) = c.if-is_ascii_digit.ensures.cases in
    let value : digit_value (get_or text count 0) + 48 ≡ get_or text count 0 =
    digit_value_digit (get_or text count 0) digit in
    record {
      few = omega (arith, c.loop-count-test.true);
      within = omega (arith, c.if-count-text.true);
      digits = digits_more 10 text count c.if-count-text.true so_far.digits (omega (arith, value, digit.1));
      number = rw (digits_value_more 10 text count c.if-count-text.true)
          (omega (arith, so_far.number, c.from.ensures, value));
    }
