-- Answers to the goals of `print_rings` in src/prints.rt.
use Rattle.std.proofs.Common.{◌≡◌, length, vec_len, rules, refl, ◌∙◌, arith}
use Rattle.shelf_io.proofs.Made.{on_err_always}
use Rattle.place_runs.proofs.PrintedMaps.MapParts.{ring_room}
use Rattle.place_runs.proofs.PrintedMaps.MapPrints.{moves_begun, rings_front, rings_more}
use Rattle.place_runs.proofs.prints.print_rings.Goals as goal

pub loop-number-init : goal.loop-number-init
loop-number-init g c = record {
  capacity = omega arith;
  at_hand = c.requires.at_hand;
  faults = refl;
  made = moves_begun (g.P.Press.made c.args.press.now) c.args.room.now.items;
}

pub returns-in_err-write_out-clause-err : goal.returns-in_err-write_out-clause-err
returns-in_err-write_out-clause-err g c =
    let made = g.P.Press.made in
    on_err_always _ (rings_front c.args.names.now c.args.map.now (made c.args.press.now) (made c.loop-number.press)
    (made c.write_out.new.press) c.args.room.now.items c.loop-number.room.items c.loop-number.number
    c.loop-number.invariant.made c.in_err-write_out.ensures.err)

pub add_ring-requires : goal.add_ring-requires
add_ring-requires g c =
    let all = c.args.map.now.changes in
    let long : vec_len all ≡ length all.items = search rules in
    let count : c.len-changes.result ≡ length all.items = c.len-changes.ensures ∙ long in
    rw (count, c.deref-ring-items.ensures.value)
    (ring_room c.args.names.now c.args.map.now _ c.loop-number.number _ _ _ _ c.requires.room
    (rw c.deref-ring-items.ensures.value at c.loop-number-test.true) c.in_ok-write_out.ensures.held
    c.in_ok-write_out.ensures.capacity c.loop-number.invariant.capacity)

pub loop-number-preserved : goal.loop-number-preserved
loop-number-preserved g c =
    let made = g.P.Press.made in
    let all = c.args.map.now.changes in
    let long : vec_len all ≡ length all.items = search rules in
    let count : c.len-changes.result ≡ length all.items = c.len-changes.ensures ∙ long in
    record {
      capacity = omega (
        arith,
        c.loop-number.invariant.capacity,
        c.in_ok-write_out.ensures.capacity,
        c.add_ring.ensures.capacity,
      );
      at_hand = c.in_ok-write_out.ensures.at_hand;
      faults = c.in_ok-write_out.ensures.cause.same ∙ c.loop-number.invariant.faults;
      made = rings_more c.args.names.now c.args.map.now (made c.args.press.now) (made c.loop-number.press)
          (made c.write_out.new.press) c.args.room.now.items c.loop-number.room.items c.write_out.new.room.items
          c.add_ring.new.room.items c.loop-number.number _
          (rw c.deref-ring-items.ensures.value at c.loop-number-test.true)
          c.loop-number.invariant.made c.in_ok-write_out.ensures.ok
          (rw (count, c.deref-ring-items.ensures.value) at c.add_ring.ensures.text);
    }
