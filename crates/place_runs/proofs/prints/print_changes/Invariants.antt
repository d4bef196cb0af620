-- The invariant of the loop of `print_changes` in src/prints.rt.
use Rattle.std.proofs.Common.{◌≡◌, ◌≤◌, IsTrue, vec_capacity}
use Rattle.place_runs.proofs.PrintedMaps.MapPrints.{HasChanges}
use Rattle.place_runs.proofs.prints.print_changes.Given as goal

abbrev pub invariant-loop-number : goal.invariant-loop-number
invariant-loop-number g l =
    let press = g.P.Press in
    record {
      capacity : vec_capacity l.initial.room ≤ vec_capacity l.room;
      at_hand : IsTrue (press.at_hand l.press);
      faults : press.faults l.press ≡ press.faults l.initial.press;
      made : HasChanges l.names l.map l.number l.initial.room.items (press.made l.initial.press) (press.made l.press) l.room.items;
    }
