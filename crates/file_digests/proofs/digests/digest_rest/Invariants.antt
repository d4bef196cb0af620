-- The invariant and the measure of the loop of `digest_rest` in src/digests.rt.
use Rattle.std.proofs.Common.{◌≡◌, ◌+◌, ◌-◌, ◌≤◌, IsTrue}
use Rattle.shelf_io.specs.Count.{count_after}
use Rattle.file_digests.proofs.Pieces.{HasTaken}
use Rattle.file_digests.proofs.digests.digest_rest.Given as goal

abbrev pub invariant-loop-count : goal.invariant-loop-count
invariant-loop-count g l =
    let shelf = g.S.Shelf in
    record {
      taken : HasTaken (shelf.left l.initial.shelf) (shelf.left l.shelf) l.hasher l.count;
      at_hand : IsTrue (shelf.at_hand l.shelf);
      files : shelf.files l.shelf ≡ shelf.files l.initial.shelf;
      given : count_after (shelf.given l.initial.shelf) l.count ≤ shelf.given l.shelf;
      given_later : shelf.given l.initial.shelf ≤ shelf.given l.shelf;
      faults : shelf.faults l.shelf ≡ shelf.faults l.initial.shelf;
    }

abbrev pub decreases-loop-count : goal.decreases-loop-count
decreases-loop-count g l = (l.limit + 1) - l.count
