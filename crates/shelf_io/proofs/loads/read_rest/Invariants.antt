-- The invariant and the measure of the loop of `read_rest` in src/loads.rt.
use Rattle.std.proofs.Common.{◌≡◌, ◌+◌, ◌-◌, ◌≤◌, vec_len, IsTrue}
use Rattle.shelf_io.specs.Count.{count_after}
use Rattle.shelf_io.specs.Load.{Taken}
use Rattle.shelf_io.proofs.loads.read_rest.Given as goal

abbrev pub invariant-loop-buf : goal.invariant-loop-buf
invariant-loop-buf g l =
    let shelf = g.S.Shelf in
    record {
      taken : Taken (shelf.left l.initial.shelf) (shelf.left l.shelf) l.bytes.items;
      at_hand : IsTrue (shelf.at_hand l.shelf);
      files : shelf.files l.shelf ≡ shelf.files l.initial.shelf;
      given : count_after (shelf.given l.initial.shelf) (vec_len l.bytes) ≤ shelf.given l.shelf;
      given_later : shelf.given l.initial.shelf ≤ shelf.given l.shelf;
      faults : shelf.faults l.shelf ≡ shelf.faults l.initial.shelf;
    }

abbrev pub decreases-loop-buf : goal.decreases-loop-buf
decreases-loop-buf g l = (l.limit + 1) - vec_len l.bytes
