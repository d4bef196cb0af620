-- Answers to the goals of `front_of` in src/plain.rt.
use Rattle.std.proofs.Common.{◌-◌, ◌≤◌, get_or, arith}
use Rattle.mm_decimal.specs.Numerals.{IsDigit}
use Rattle.mm_decimal.proofs.PlainReads.{writes_more, less_than, stays_small}
use Rattle.mm_decimal.proofs.plain.front_of.Goals as goal

pub overflow_mul-number : goal.overflow_mul-number
overflow_mul-number c =
    let loop = c.loop-count in
    let few : loop.count ≤ 15 = omega (arith, c.loop-count-test.true, c.requires) in
    let small = less_than loop.number loop.count loop.invariant.2 few in
    omega (arith, small)

pub overflow_add-number : goal.overflow_add-number
overflow_add-number c =
    let loop = c.loop-count in
    let few : loop.count ≤ 15 = omega (arith, c.loop-count-test.true, c.requires) in
    let small = less_than loop.number loop.count loop.invariant.2 few in
    let digit : IsDigit (get_or c.args.text.now loop.count 0) = c.if-is_ascii_digit.ensures.cases in
    omega (arith, small, c.from.ensures, digit.0, digit.1)

pub loop-count-preserved : goal.loop-count-preserved
loop-count-preserved c =
    let text = c.args.text.now in
    let loop = c.loop-count in
    let digit : IsDigit (get_or text loop.count 0) = c.if-is_ascii_digit.ensures.cases in (
      omega (arith, c.loop-count-test.true),
      rw c.from.ensures (writes_more text loop.count loop.number c.loop-count-test.true digit loop.invariant.1),
      rw c.from.ensures (stays_small loop.number loop.count (get_or text loop.count 0 - 48) loop.invariant.2
          (omega (arith, digit.1))),
    )
