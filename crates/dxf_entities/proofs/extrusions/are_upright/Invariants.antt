-- The invariants of `are_upright` in src/extrusions.rt.
use Rattle.std.proofs.Common.{◌≡◌, drop}
use Rattle.std.specs.List.{list_all}
use Rattle.dxf_entities.specs.Kinds.{is_upright}
use Rattle.dxf_entities.proofs.extrusions.are_upright.Given as goal

abbrev pub invariant-loop-pair : goal.invariant-loop-pair
invariant-loop-pair l = list_all (is_upright l.bytes) (drop l.pair-index l.fields)
    ≡ list_all (is_upright l.bytes) l.fields
