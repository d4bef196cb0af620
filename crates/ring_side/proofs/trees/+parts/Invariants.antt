-- The measures of the cycle of `add_part` and `add_smaller` in src/trees.rt.
use Rattle.std.proofs.Common.{◌+◌, ◌-◌, ◌*◌}
use Rattle.ring_side.proofs.trees.+parts.Given as goal

abbrev pub decreases-add_part : goal.decreases-add_part
decreases-add_part l = 2 * (l.past - l.first) + 1

abbrev pub decreases-add_smaller : goal.decreases-add_smaller
decreases-add_smaller l = 2 * (l.past - l.first)
