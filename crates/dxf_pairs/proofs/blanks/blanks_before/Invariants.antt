-- The invariant and the measure of the loop of `blanks_before` in src/blanks.rt.
use Rattle.std.proofs.Common.{◌≡◌, ◌+◌, ◌-◌, ◌≤◌, length, drop}
use Rattle.std.specs.List.{prefix_len}
use Rattle.text_places.specs.Blanks.{is_blank_byte}
use Rattle.dxf_pairs.proofs.blanks.blanks_before.Given as goal

abbrev pub invariant-loop-count : goal.invariant-loop-count
invariant-loop-count l = (l.count ≤ length l.text)
    × (l.count + prefix_len is_blank_byte (drop l.count l.text) ≡ prefix_len is_blank_byte l.text)

abbrev pub decreases-loop-count : goal.decreases-loop-count
decreases-loop-count l = length l.text - l.count
