-- The invariant of the loop of `list` in src/change_lists.rt.
use Rattle.std.proofs.Common.{◌≡◌, map, take}
use Rattle.topo_check.specs.InsidePairs.{change_of}
use Rattle.topo_check.proofs.change_lists.list.Given as goal

-- the changes of the pairs so far are listed
abbrev pub invariant-loop-pair : goal.invariant-loop-pair
invariant-loop-pair l = l.changes.items ≡ map (change_of l.pieces) (take l.pair-index l.pairs)
