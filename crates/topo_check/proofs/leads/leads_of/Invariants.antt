-- The invariants of `leads_of` in src/leads.rt.
use Rattle.std.proofs.Common.{◌≡◌, map, take}
use Rattle.topo_check.specs.Changes.{piece_at}
use Rattle.topo_check.proofs.leads.leads_of.Given as goal

-- the pieces of the numbers so far are listed
abbrev pub invariant-loop-number : goal.invariant-loop-number
invariant-loop-number l = l.leads.items ≡ map (piece_at l.pieces) (take l.number-index l.firsts)
