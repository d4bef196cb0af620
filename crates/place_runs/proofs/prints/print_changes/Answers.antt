-- Answers to the goals of `print_changes` in src/prints.rt.
use Rattle.std.proofs.Common.{refl, ◌∙◌, arith}
use Rattle.shelf_io.proofs.Made.{on_err_always}
use Rattle.place_runs.proofs.PrintedMaps.MapParts.{change_room}
use Rattle.place_runs.proofs.PrintedMaps.MapPrints.{moves_begun, changes_front, changes_more, changes_all}
use Rattle.place_runs.proofs.prints.print_changes.Goals as goal

pub loop-number-init : goal.loop-number-init
loop-number-init g c = record {
  capacity = omega arith;
  at_hand = c.requires.at_hand;
  faults = refl;
  made = λ spots are. moves_begun (g.P.Press.made c.args.press.now) c.args.room.now.items;
}

pub returns-in_err-write_out-clause-err : goal.returns-in_err-write_out-clause-err
returns-in_err-write_out-clause-err g c =
    let made = g.P.Press.made in
    on_err_always _ (changes_front c.args.names.now c.args.map.now (made c.args.press.now) (made c.loop-number.press)
    (made c.write_out.new.press) c.args.room.now.items c.loop-number.room.items c.loop-number.number
    c.loop-number.invariant.made c.in_err-write_out.ensures.err)

pub add_change-requires-clause-room : goal.add_change-requires-clause-room
add_change-requires-clause-room g c text is =
    change_room c.args.names.now c.args.map.now _ c.loop-number.number _ text _ _ _ c.requires.sides.one c.requires.room
    (rw c.deref-change-items.ensures.value at c.loop-number-test.true) (rw c.deref-change-items.ensures.value at is)
    c.in_ok-write_out.ensures.held c.in_ok-write_out.ensures.capacity c.loop-number.invariant.capacity

pub loop-number-preserved : goal.loop-number-preserved
loop-number-preserved g c =
    let made = g.P.Press.made in
    record {
      capacity = omega (
        arith,
        c.loop-number.invariant.capacity,
        c.in_ok-write_out.ensures.capacity,
        c.add_change.ensures.capacity,
      );
      at_hand = c.in_ok-write_out.ensures.at_hand;
      faults = c.in_ok-write_out.ensures.cause.same ∙ c.loop-number.invariant.faults;
      made = changes_more c.args.names.now c.args.map.now (made c.args.press.now) (made c.loop-number.press)
          (made c.write_out.new.press) c.args.room.now.items c.loop-number.room.items c.write_out.new.room.items
          c.add_change.new.room.items c.loop-number.number _
          (rw c.deref-change-items.ensures.value at c.loop-number-test.true)
          c.loop-number.invariant.made c.in_ok-write_out.ensures.ok
          (rw c.deref-change-items.ensures.value at c.add_change.ensures.text);
    }

pub returns-clause-ok : goal.returns-clause-ok
returns-clause-ok g c =
    changes_all c.args.names.now c.args.map.now (g.P.Press.made c.args.press.now) (g.P.Press.made c.loop-number.press)
    c.args.room.now.items c.loop-number.room.items c.loop-number.number
    (rw c.deref-change-items.ensures.value at c.loop-number-test.false) c.loop-number.invariant.made
