-- Answers to the goals of `plain_code` in src/plain_codes.rt.
use Rattle.std.proofs.Common.{◌≡◌, ◌+◌, ◌<◌, length, drop, arith, ℤ, pos, to_z, w32, Some, sym, ap, ◌∙◌}
use Rattle.std.proofs.lemmas.List.{take_rest, length-drop}
use Rattle.std.proofs.lemmas.Int.{ints}
use Rattle.dxf_pairs.proofs.PlainCodes.{IsPlain, plain_line, plain_number, front_small}
use Rattle.dxf_pairs.proofs.plain_codes.plain_code.Goals as goal

pub overflow_cast-result : goal.overflow_cast-result
overflow_cast-result c =
    let front = c.front_of-front.ensures in
    let small = front_small _ c.front_of-front.result.count c.front_of-front.result.number front.within front.few
    front.digits front.number in omega (arith, ints, small)

pub returns : goal.returns
returns c =
    let text = c.args.text.now in
    let before = c.blanks_before-before.result in
    let front = c.front_of-front.ensures in
    let digits = c.front_of-front.result.count in
    let digits_are = rw (take_rest text before) at front.digits in
    let digits_within = rw (take_rest text before) at front.within in
    let number_is = rw (take_rest text before) at front.number in
    let behind_is = rw (take_rest text (before + digits)) at c.blanks_before.ensures.count in
    let behind_bound = rw (take_rest text (before + digits)) at c.blanks_before.ensures.bound in
    let left = length-drop (before + digits) text in
    let near = length-drop before text in
    let within : before + digits + c.blanks_before.result < length text = omega (
      arith,
      c.if-end-text.false,
      behind_bound,
      left,
      near,
      digits_within,
      c.blanks_before-before.ensures.bound,
    ) in
    let is : IsPlain text before digits c.blanks_before.result = record {
      blanks_before = c.blanks_before-before.ensures.count;
      blanks_behind = behind_is;
      all_digits = digits_are;
      some = omega (arith, c.if-front-eq0.false);
      few = front.few;
      within = within;
      feed = c.if-text-end-ne-LINE_FEED.false;
    } in
    let small = front_small (drop before text) digits c.front_of-front.result.number digits_within front.few digits_are
    number_is in
    let value : to_z w32 c.front_of-front.result.number ≡ pos c.front_of-front.result.number =
    omega (arith, ints, small) in
    record {
      within = within;
      line = plain_line text before digits c.blanks_before.result is;
      code = plain_number text before digits c.blanks_before.result is
          ∙ ap (λ (number : ℤ). Some number) (ap pos (sym number_is) ∙ sym value);
    }
