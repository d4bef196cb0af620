-- Answers to the goals of `put_name` in src/texts.rt.
use Rattle.std.proofs.Common.{◌≡◌, ◌+◌, length, take, vec_len, ◌∙◌, ap, arith, length-append}
use Rattle.shelf_io.proofs.Made.{on_err_always}
use Rattle.change_places.specs.PlacesText.{name_text}
use Rattle.change_places.proofs.Rooms.{name_full}
use Rattle.change_places.proofs.texts.put_name.Goals as goal

pub returns-in_err-put_byte-clause-full : goal.returns-in_err-put_byte-clause-full
returns-in_err-put_byte-clause-full c =
    let here = c.loop-byte.invariant in
    let front = name_text (take c.loop-byte.byte-index c.args.name.now) in
    let first : length c.args.out.now.items ≡ vec_len c.args.out.now = omega arith in
    let own : length c.loop-byte.out.items ≡ vec_len c.loop-byte.out = omega arith in
    let grown : length c.loop-byte.out.items ≡ length c.args.out.now.items + length front =
    ap length here.text ∙ length-append c.args.out.now.items front in
    let long : vec_len c.loop-byte.out ≡ vec_len c.args.out.now + length front = omega (arith, first, own, grown) in
    on_err_always _ (name_full c.args.name.now c.loop-byte.byte-index _ _ _ _ _
    (rw c.as_bytes-byte-items.ensures.value at c.loop-byte-test.true) here.capacity long
    (rw c.as_bytes-byte-items.ensures.value at c.in_err-put_byte.ensures.full))
