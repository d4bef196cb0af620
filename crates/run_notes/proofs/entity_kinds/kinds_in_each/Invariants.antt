-- The invariant of the loop of `kinds_in_each` in src/entity_kinds.rt.
use Rattle.std.proofs.Common.{map, option_map, take}
use Rattle.run_notes.specs.LeftOutKinds.{AreFoundInLayers, kinds_found}
use Rattle.run_notes.proofs.entity_kinds.kinds_in_each.Given as goal

abbrev pub invariant-loop-layer : goal.invariant-loop-layer
invariant-loop-layer g l = AreFoundInLayers l.how (take l.layer-index l.layers)
    (map (option_map kinds_found) l.found.items)
