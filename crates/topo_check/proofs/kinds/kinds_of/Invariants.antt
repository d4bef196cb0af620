-- The invariants of `kinds_of` in src/kinds.rt.
use Rattle.std.proofs.Common.{◌≡◌, ◌≤◌, ◌+◌, ◌-◌, length}
use Rattle.topo_check.specs.declared.kinds.TheConstants.{WINDOW}
use Rattle.topo_check.specs.InsideKinds.{AreKindsOf}
use Rattle.topo_check.proofs.kinds.kinds_of.Given as goal

-- the pieces so far are of kinds
abbrev pub invariant-loop-number : goal.invariant-loop-number
invariant-loop-number l = (l.number ≤ length l.pieces) × (length l.table.items ≡ l.places + WINDOW)
    × AreKindsOf l.tin l.pieces l.number l.firsts.items l.kinds.items

abbrev pub decreases-loop-number : goal.decreases-loop-number
decreases-loop-number l = length l.pieces - l.number
