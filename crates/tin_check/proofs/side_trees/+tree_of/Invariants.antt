-- The measure of `tree_of` in src/side_trees.rt.
use Rattle.std.proofs.Common.{◌-◌}
use Rattle.tin_check.proofs.side_trees.+tree_of.Given as goal

-- how many sides there are
abbrev pub decreases-tree_of : goal.decreases-tree_of
decreases-tree_of l = l.past - l.first
