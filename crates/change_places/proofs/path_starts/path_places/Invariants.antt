-- The invariant of the loop of `path_places` in src/path_starts.rt.
use Rattle.std.proofs.Common.{◌≡◌, take}
use Rattle.change_places.specs.PathPlaces.{printed_edits, places_from}
use Rattle.change_places.proofs.path_starts.path_places.Given as goal

abbrev pub invariant-loop-number : goal.invariant-loop-number
invariant-loop-number l = l.places.items ≡ places_from (printed_edits l.drawing l.bytes l.sheet.edits) 0
    (take l.number l.sheet.paths)
