-- The invariant and the measure of the loop of `pairs_before` in src/lengths.rt.
use Rattle.std.proofs.Common.{◌≤◌, ◌-◌, length}
use Rattle.dxf_copies.proofs.lengths.pairs_before.Given as goal

abbrev pub invariant-loop-number : goal.invariant-loop-number
invariant-loop-number l = l.number ≤ length l.pairs

abbrev pub decreases-loop-number : goal.decreases-loop-number
decreases-loop-number l = length l.pairs - l.number
