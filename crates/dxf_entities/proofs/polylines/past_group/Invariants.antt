-- The invariants of `past_group` in src/polylines.rt.
use Rattle.std.proofs.Common.{◌≡◌, drop}
use Rattle.dxf_entities.specs.Polylines.{past_group}
use Rattle.dxf_entities.proofs.polylines.past_group.Given as goal

abbrev pub invariant-loop-pair : goal.invariant-loop-pair
invariant-loop-pair l = past_group l.bytes l.past (drop l.pair-index l.pairs)
    ≡ past_group l.bytes l.initial.past l.pairs
