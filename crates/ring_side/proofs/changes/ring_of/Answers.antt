-- Answers to the goals of `ring_of` in src/changes.rt.
use Rattle.std.proofs.Common.{arith}
use Rattle.ring_side.proofs.PointGroups.Spots.{row_rises, sheet_is, images_is}
use Rattle.ring_side.proofs.ChangeLists.RingPoints.{source_is, target_is, counts_of}
use Rattle.ring_side.proofs.changes.ring_of.Goals as goal

pub overflow_cast-row-2 : goal.overflow_cast-row-2
overflow_cast-row-2 c = grind (arith, row_rises)

pub overflow_cast-row-3 : goal.overflow_cast-row-3
overflow_cast-row-3 c = grind (arith, row_rises)

pub of-requires-clause-some : goal.of-requires-clause-some
of-requires-clause-some c = grind (arith, sheet_is, counts_of, source_is)

pub of-requires-clause-most : goal.of-requires-clause-most
of-requires-clause-most c = grind (arith, sheet_is, counts_of, source_is)

pub of-requires-2-clause-some : goal.of-requires-2-clause-some
of-requires-2-clause-some c = grind (arith, sheet_is, images_is, counts_of, target_is)

pub returns : goal.returns
returns c = grind (arith, sheet_is, images_is, counts_of, source_is, target_is)
