-- Answers to the goals of `put_names` in src/texts.rt.
use Rattle.std.proofs.Common.{List, ℕ, ◌≡◌, ◌+◌, ◌++◌, get_or, length, take, vec_len, vec_capacity, ◌∙◌, ap, arith, length-append}
use Rattle.shelf_io.proofs.Made.{on_err_always}
use Rattle.change_places.specs.PlacesText.{comma_text, quoted_text, names_text}
use Rattle.change_places.proofs.MoreNames.{one_more_name}
use Rattle.change_places.proofs.Rooms.{names_full}
use Rattle.change_places.proofs.texts.put_names.Goals as goal

pub returns-in_err-put-clause-full : goal.returns-in_err-put-clause-full
returns-in_err-put-clause-full c =
    let here = c.loop-number.invariant in
    let front = names_text 0 (take c.loop-number.number c.args.names.now) in
    let first : length c.args.out.now.items ≡ vec_len c.args.out.now = omega arith in
    let own : length c.loop-number.out.items ≡ vec_len c.loop-number.out = omega arith in
    let grown : length c.loop-number.out.items ≡ length c.args.out.now.items + length front =
    ap length here.text ∙ length-append c.args.out.now.items front in
    let long : vec_len c.loop-number.out ≡ vec_len c.args.out.now + length front = omega (arith, first, own, grown) in
    let comma_is : length c.comma.result.now ≡ length (comma_text c.loop-number.number) = ap length c.comma.ensures in
    on_err_always _ (names_full c.args.names.now c.loop-number.number c.index-names-number.result _ _ _ _
    (length c.comma.result.now) c.loop-number-test.true here.capacity long (omega (arith, comma_is))
    c.in_err-put.ensures.full)

pub returns-in_err-put_quoted-clause-full : goal.returns-in_err-put_quoted-clause-full
returns-in_err-put_quoted-clause-full c =
    let here = c.loop-number.invariant in
    let name = c.index-names-number.result in
    let front = names_text 0 (take c.loop-number.number c.args.names.now) in
    let comma = c.comma.result.now in
    let first : length c.args.out.now.items ≡ vec_len c.args.out.now = omega arith in
    let own : length c.put.new.out.items ≡ vec_len c.put.new.out = omega arith in
    let begun : length c.put.new.out.items ≡ length c.loop-number.out.items + length comma =
    ap length c.in_ok-put.ensures.text ∙ length-append c.loop-number.out.items comma in
    let grown : length c.loop-number.out.items ≡ length c.args.out.now.items + length front =
    ap length here.text ∙ length-append c.args.out.now.items front in
    let comma_is : length comma ≡ length (comma_text c.loop-number.number) = ap length c.comma.ensures in
    let name_is : length (quoted_text c.text.result.now)
    ≡ length (quoted_text (get_or c.args.names.now c.loop-number.number name)) =
    ap (λ (text : List ℕ). length (quoted_text text)) (c.text.ensures ∙ c.index-names-number.is) in
    on_err_always _ (names_full c.args.names.now c.loop-number.number name (vec_capacity c.args.out.now)
    (vec_capacity c.put.new.out) (vec_len c.args.out.now)
    (vec_len c.args.out.now + length front) (length comma + length (quoted_text c.text.result.now))
    c.loop-number-test.true (omega (arith, here.capacity, c.in_ok-put.ensures.capacity)) (omega arith)
    (omega (arith, comma_is, name_is))
    (omega (arith, c.in_err-put_quoted.ensures.full, own, begun, grown, first)))

pub loop-number-preserved : goal.loop-number-preserved
loop-number-preserved c = record {
  text = one_more_name c.args.out.now.items c.args.names.now c.index-names-number.result c.loop-number-test.true
      c.index-names-number.is c.loop-number.invariant.text (c.in_ok-put.ensures.text
      ∙ ap (λ (text : List ℕ). c.loop-number.out.items ++ text) c.comma.ensures)
      (rw c.text.ensures at c.in_ok-put_quoted.ensures.text);
  capacity = omega (
    arith,
    c.loop-number.invariant.capacity,
    c.in_ok-put.ensures.capacity,
    c.in_ok-put_quoted.ensures.capacity,
  );
}
