-- The invariants of `pairs_before_head` in src/entities.rt.
use Rattle.std.proofs.Common.{◌≡◌, ◌+◌, ◌-◌, ◌≤◌, length, drop}
use Rattle.dxf_entities.specs.Entities.{is_no_head}
use Rattle.std.specs.List.{prefix_len}
use Rattle.dxf_entities.proofs.entities.pairs_before_head.Given as goal

abbrev pub invariant-loop-count : goal.invariant-loop-count
invariant-loop-count l = (l.count ≤ length l.pairs) × (l.count + prefix_len (is_no_head) (drop l.count l.pairs)
    ≡ prefix_len (is_no_head) l.pairs)

abbrev pub decreases-loop-count : goal.decreases-loop-count
decreases-loop-count l = length l.pairs - l.count
