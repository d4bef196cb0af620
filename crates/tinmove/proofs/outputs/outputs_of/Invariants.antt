-- The invariant of the loop of `outputs_of` in src/outputs.rt.
use Rattle.std.proofs.Common.{◌≡◌, map, flat_map, take, string_bytes}
use Rattle.migrate_mode.specs.Names.{names_in}
use Rattle.tinmove.proofs.outputs.outputs_of.Given as goal

abbrev pub invariant-loop-layer : goal.invariant-loop-layer
invariant-loop-layer l =
    map string_bytes l.outputs.items ≡ flat_map (names_in l.cert l.out) (take l.layer-index l.layers)
