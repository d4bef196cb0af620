-- The invariants of `fields_of` in src/fields.rt.
use Rattle.std.proofs.Common.{◌≡◌, ◌+◌, ◌-◌, ◌≤◌, length, drop, pos}
use Rattle.std.specs.Prelude.{int_lt}
use Rattle.std.specs.List.{prefix_len}
use Rattle.dxf_entities.proofs.fields.fields_of.Given as goal

abbrev pub invariant-loop-count : goal.invariant-loop-count
invariant-loop-count l =
    (l.count ≤ length l.pairs) × (l.count + prefix_len (λ pair. int_lt pair.code (pos 1000)) (drop l.count l.pairs)
    ≡ prefix_len (λ pair. int_lt pair.code (pos 1000)) l.pairs)

abbrev pub decreases-loop-count : goal.decreases-loop-count
decreases-loop-count l = length l.pairs - l.count
