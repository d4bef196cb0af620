-- The invariant and the measure of the loop of `collect_with` in src/changed_pairs.rt.
use Rattle.std.proofs.Common.{length, ◌-◌, ◌≤◌}
use Rattle.topo_check.specs.InsidePairs.{DoesCollect, IsPairWith}
use Rattle.topo_check.proofs.Passes.{IsOneOf}
use Rattle.topo_check.proofs.changed_pairs.collect_with.Given as goal

-- the pairs with the others so far are collected
abbrev pub invariant-loop-place : goal.invariant-loop-place
invariant-loop-place l = (l.place ≤ length l.others)
    × DoesCollect l.tin l.pieces l.most (IsPairWith l.frame l.pieces l.number (IsOneOf l.others l.place))
    l.initial.pairs.items l.pairs.items

abbrev pub decreases-loop-place : goal.decreases-loop-place
decreases-loop-place l = length l.others - l.place
