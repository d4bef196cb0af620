-- The invariant and the measure of the loop of `put` in src/puts.rt.
use Rattle.std.proofs.Common.{◌≡◌, ◌-◌, ◌≤◌, length, take, IsTrue}
use Rattle.shelf_io.specs.Made.{Appends}
use Rattle.shelf_io.proofs.puts.put.Given as goal

abbrev pub invariant-loop-written : goal.invariant-loop-written
invariant-loop-written g l =
    let press = g.P.Press in
    record {
      front : l.written ≤ length l.piece;
      made : Appends (press.made l.initial.press) (press.made l.press) (take l.written l.piece);
      at_hand : IsTrue (press.at_hand l.press);
      faults : press.faults l.press ≡ press.faults l.initial.press;
    }

abbrev pub decreases-loop-written : goal.decreases-loop-written
decreases-loop-written g l = length l.piece - l.written
