-- Answers to the goals of `add_layer` in src/changes.rt.
use Rattle.std.proofs.Common.{arith}
use Rattle.ring_side.proofs.PointGroups.Spots.{sheet_is}
use Rattle.ring_side.proofs.ChangeLists.LayerChanges.{path_step}
use Rattle.ring_side.proofs.changes.add_layer.Goals as goal
use Rattle.sheet_base.proofs.TiledPaths.{paths_few}

pub overflow_cast-number : goal.overflow_cast-number
overflow_cast-number c = grind (arith, paths_few)

pub loop-path-preserved : goal.loop-path-preserved
loop-path-preserved c = grind (arith, sheet_is, path_step)
