-- The invariants of `spread_pair` in src/members.rt.
use Rattle.std.proofs.Common.{length, ◌-◌, ◌≤◌, Contains}
use Rattle.topo_check.specs.InsideKinds.{IsPairAcross}
use Rattle.topo_check.specs.InsidePairs.{DoesCollect}
use Rattle.topo_check.proofs.Passes.{IsOneOf}
use Rattle.topo_check.proofs.members.spread_pair.Given as goal

-- the pairs of the numbers so far are collected
abbrev pub invariant-loop-place : goal.invariant-loop-place
invariant-loop-place l = (l.place ≤ length l.numbers)
    × DoesCollect l.tin l.pieces l.most (IsPairAcross (IsOneOf l.numbers l.place) (Contains l.others))
    l.initial.pairs.items l.pairs.items

abbrev pub decreases-loop-place : goal.decreases-loop-place
decreases-loop-place l = length l.numbers - l.place
