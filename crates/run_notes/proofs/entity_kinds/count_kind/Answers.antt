-- Answers to the goals of `count_kind` in src/entity_kinds.rt.
use Rattle.std.proofs.Common.{arith}
use Rattle.run_notes.specs.InsideCounts.{counts_in}
use Rattle.run_notes.proofs.TextCounts.{counted-more, room-at}
use Rattle.run_notes.proofs.entity_kinds.count_kind.Goals as goal

pub overflow_add-count : goal.overflow_add-count
overflow_add-count c = omega (
  arith,
  c.count_in-count.ensures,
  room-at c.args.name.now (counts_in c.args.kinds.now.entries) c.requires,
)

pub returns-in-Ok : goal.returns-in-Ok
returns-in-Ok c = rw (c.in-Ok.ensures.entries, c.count_in-count.ensures)
    (counted-more c.args.name c.args.kinds.now.entries)
