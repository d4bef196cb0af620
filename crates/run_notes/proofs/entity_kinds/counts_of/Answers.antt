-- Answers to the goals of `counts_of` in src/entity_kinds.rt.
use Rattle.std.proofs.Common.{arith}
use Rattle.run_notes.specs.InsideCounts.{counts_in}
use Rattle.run_notes.proofs.DroppedKinds.{left_out-more, left_out-room, left_out-same}
use Rattle.run_notes.proofs.entity_kinds.counts_of.Goals as goal
use Rattle.run_notes.proofs.entity_kinds.counts_of.Goals.{then-leaves_out+in_ok-count_kind, else-leaves_out}

pub count_kind-requires : goal.count_kind-requires
count_kind-requires c = rw c.loop-edit.invariant
    (left_out-room c.args.bytes.now c.args.edits.now c.loop-edit.edit-index (omega arith))

pub loop-edit-preserved : goal.loop-edit-preserved
loop-edit-preserved c = elim c.if-leaves_out.branch [
  | then-leaves_out+in_ok-count_kind w ↦ rw w.kinds-is (left_out-more c.args.bytes.now c.args.edits.now
      c.loop-edit.edit-index _ w.kind_at.result.now (counts_in c.loop-edit.kinds.entries)
      (counts_in w.count_kind.new.kinds.entries) c.loop-edit-test.true w.if-leaves_out.ensures
      w.kind_at.ensures c.loop-edit.invariant w.in_ok-count_kind.ensures)
  | else-leaves_out w ↦ rw w.kinds-is (left_out-same c.args.bytes.now c.args.edits.now c.loop-edit.edit-index _
      (counts_in c.loop-edit.kinds.entries) c.loop-edit-test.true w.if-leaves_out.ensures
      c.loop-edit.invariant)
]
