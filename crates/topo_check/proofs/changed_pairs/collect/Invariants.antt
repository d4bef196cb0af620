-- The invariant and the measure of the loop of `collect` in src/changed_pairs.rt.
use Rattle.std.proofs.Common.{length, ◌-◌}
use Rattle.topo_check.specs.InsidePairs.{DoesCollect}
use Rattle.topo_check.proofs.Passes.{IsPairBefore}
use Rattle.topo_check.proofs.changed_pairs.collect.Given as goal

-- the pairs that are reported for the boxes so far are collected
abbrev pub invariant-loop-number : goal.invariant-loop-number
invariant-loop-number l = DoesCollect l.tin l.pieces l.most (IsPairBefore l.frame l.pieces l.grid l.number)
    l.initial.pairs.items l.pairs.items

abbrev pub decreases-loop-number : goal.decreases-loop-number
decreases-loop-number l = length l.pieces - l.number
