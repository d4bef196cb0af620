-- The invariants of `spread` in src/members.rt.
use Rattle.std.proofs.Common.{length, ◌-◌, ◌≤◌, []}
use Rattle.topo_check.specs.InsidePairs.{DoesCollect}
use Rattle.topo_check.proofs.Sorts.{IsFoundBefore}
use Rattle.topo_check.proofs.members.spread.Given as goal

-- the pairs of the kinds that were found so far are collected
abbrev pub invariant-loop-place : goal.invariant-loop-place
invariant-loop-place l = (l.place ≤ length l.found)
    × DoesCollect l.tin l.pieces l.most (IsFoundBefore l.members l.found l.place) [] l.pairs.items

abbrev pub decreases-loop-place : goal.decreases-loop-place
decreases-loop-place l = length l.found - l.place
