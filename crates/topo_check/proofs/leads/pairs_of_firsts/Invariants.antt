-- The invariants of `pairs_of_firsts` in src/leads.rt.
use Rattle.std.proofs.Common.{◌≡◌, map, take}
use Rattle.topo_check.specs.InsideKinds.{of_firsts}
use Rattle.topo_check.proofs.leads.pairs_of_firsts.Given as goal

-- the pairs so far are listed
abbrev pub invariant-loop-pair : goal.invariant-loop-pair
invariant-loop-pair l = l.pairs.items ≡ map (of_firsts l.firsts) (take l.pair-index l.found)
