-- Answers to the goals of `add_layer_groups` in src/groups.rt.
use Rattle.std.proofs.Common.{arith}
use Rattle.ring_side.proofs.groups.add_layer_groups.Goals as goal
use Rattle.sheet_base.proofs.TiledPaths.{paths_few}

pub overflow_cast-path : goal.overflow_cast-path
overflow_cast-path c = grind (arith, paths_few)
