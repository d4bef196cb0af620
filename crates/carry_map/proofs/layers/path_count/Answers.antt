-- Answers to the goals of `path_count` in src/layers.rt.
use Rattle.std.proofs.Common.{◌≡◌, length, ap, List, arith}
use Rattle.sheet_base.specs.declared.paths.PathRow.{PathRow}
use Rattle.carry_map.proofs.layers.path_count.Goals as goal
use Rattle.sheet_base.proofs.TiledPaths.{paths_few}

pub overflow_cast-result : goal.overflow_cast-result
overflow_cast-result c =
    let few = paths_few c.args.sheet.now c.paths.ensures.sheet in
    let rows : length c.paths.result.now ≡ length c.args.sheet.now.paths =
    ap (λ (rs : List PathRow). length rs) c.paths.ensures.paths in
    omega arith
