-- Answers to the goals of `padded_code` in src/plain_codes.rt.
use Rattle.std.proofs.Common.{◌≡◌, ◌<◌, ◌+◌, ◌-◌, ◌*◌, length, get_or, arith, refl, ◌∙◌, ap, sym, ℤ, pos, to_z, w32, Some}
use Rattle.std.proofs.lemmas.Int.{ints}
use Rattle.dxf_pairs.specs.InsidePlainCodes.{AreInThree}
use Rattle.dxf_pairs.proofs.PlainCodes.{padded}
use Rattle.dxf_pairs.proofs.plain_codes.padded_code.Goals as goal

pub returns : goal.returns
returns c =
    let text = c.args.text.now in
    let long : 4 < length text = omega (arith, c.if-text-lt5.false) in
    let three : AreInThree (get_or text 0 0) (get_or text 1 0) (get_or text 2 0) = c.if-not-are_in_three.ensures refl in
    let here = padded text long c.if-text-ne13.false c.if-text-ne-LINE_FEED.false three in
    let number = 100 * c.worth.result + 10 * c.worth-2.result + c.worth-3.result in
    let value : to_z w32 number ≡ pos number =
    omega (arith, ints, c.worth.ensures.few, c.worth-2.ensures.few, c.worth-3.ensures.few) in
    let number_is : number ≡ 100 * (get_or text 0 0 - 48) + 10 * (get_or text 1 0 - 48) + (get_or text 2 0 - 48) =
    omega (arith, c.worth.ensures.value, c.worth-2.ensures.value, c.worth-3.ensures.value) in
    record {
      within = long;
      line = here.0;
      code = here.1 ∙ ap (λ (z : ℤ). Some z) (ap pos (sym number_is) ∙ sym value);
    }
