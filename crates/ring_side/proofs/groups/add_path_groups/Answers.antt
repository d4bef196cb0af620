-- Answers to the goals of `add_path_groups` in src/groups.rt.
use Rattle.std.proofs.Common.{[], arith, get_or}
use Rattle.std.proofs.lemmas.List.Elements.{All-append}
use Rattle.ring_side.proofs.PointGroups.Spots.{row_is, row_rises}
use Rattle.ring_side.proofs.PointGroups.GroupSpots.{group_added, all_one}
use Rattle.ring_side.proofs.groups.add_path_groups.Goals as goal

pub overflow_sub-count : goal.overflow_sub-count
overflow_sub-count c = grind (arith, row_rises, c.index-sheets-layer.is, c.paths.ensures.paths, c.paths.ensures.sheet)

pub loop-first-preserved : goal.loop-first-preserved
loop-first-preserved c = grind (arith, row_is, get_or, All-append, all_one, group_added)
