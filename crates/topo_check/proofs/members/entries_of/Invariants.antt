-- The invariants of `entries_of` in src/members.rt.
use Rattle.std.proofs.Common.{◌≡◌, ◌≤◌, ◌-◌, length, take}
use Rattle.topo_check.specs.InsideKinds.{numbered_entries}
use Rattle.topo_check.proofs.members.entries_of.Given as goal

-- the numbers so far are entered
abbrev pub invariant-loop-number : goal.invariant-loop-number
invariant-loop-number l = (l.number ≤ length l.kinds) × (l.entries.items ≡ numbered_entries 0 (take l.number l.kinds))

abbrev pub decreases-loop-number : goal.decreases-loop-number
decreases-loop-number l = length l.kinds - l.number
