-- Answers to the goals of `carry_as` in src/layer_runs.rt.
use Rattle.std.proofs.Common.{length}
use Rattle.migrate_mode.proofs.LayerRefusals.{uncarried_as}
use Rattle.migrate_mode.proofs.layer_runs.carry_as.Goals as goal

pub returns-in-Err-clause-refused : goal.returns-in-Err-clause-refused
returns-in-Err-clause-refused g c =
    let e = rw c.args.pieces.now.ok.0 at c.in-Err.ensures in
    rw c.refuse_layer.ensures (uncarried_as (g.L.Layer.reads c.args.how) (g.L.Layer.refuses c.args.how) c.args.index.now
    c.args.bytes.now c.args.number (length c.args.pieces.now.items) c.in-Err.fault e.layer e.outside e.too_many)
