-- The invariant of the loop of `counts_of` in src/entity_kinds.rt.
use Rattle.std.proofs.Common.{◌≡◌, take}
use Rattle.run_notes.specs.InsideCounts.{counts_in}
use Rattle.run_notes.specs.LeftOutKinds.{kinds_left_out}
use Rattle.run_notes.proofs.entity_kinds.counts_of.Given as goal

abbrev pub invariant-loop-edit : goal.invariant-loop-edit
invariant-loop-edit l = counts_in l.kinds.entries ≡ kinds_left_out l.bytes (take l.edit-index l.edits)
