-- The invariant of the loop of `first_starts` in src/path_starts.rt.
use Rattle.std.proofs.Common.{take}
use Rattle.change_places.specs.InsidePlaces.{AreFirsts}
use Rattle.change_places.proofs.path_starts.first_starts.Given as goal

abbrev pub invariant-loop-edit : goal.invariant-loop-edit
invariant-loop-edit l = AreFirsts l.key (take l.edit-index l.edits) l.count l.starts.items
