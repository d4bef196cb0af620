-- Answers to the goals of `side_changes` in src/changes.rt.
use Rattle.std.proofs.Common.{arith}
use Rattle.ring_side.specs.SideChanges.{side_changes_of}
use Rattle.ring_side.proofs.ChangeLists.LayerChanges.{layer_step, begun_empty}
use Rattle.ring_side.proofs.ChangeLists.Differing.{first_differ}
use Rattle.ring_side.proofs.changes.side_changes.Goals as goal

pub loop-layer-init : goal.loop-layer-init
loop-layer-init c =
    begun_empty c.args.most c.new-changes.result.items (side_changes_of c.args.sheets.now c.args.images.now) c.new-changes.ensures.items

pub loop-layer-preserved : goal.loop-layer-preserved
loop-layer-preserved c = grind (arith, layer_step)

pub returns-clause-differ : goal.returns-clause-differ
returns-clause-differ c = grind (arith, first_differ, c.loop-layer.invariant.rest, c.loop-layer.invariant.joined)
