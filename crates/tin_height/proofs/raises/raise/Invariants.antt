-- The invariant of the loop of `raise` in src/raises.rt.
use Rattle.std.proofs.Common.{take}
use Rattle.tin_height.specs.Raises.{AreRaised}
use Rattle.tin_height.proofs.raises.raise.Given as goal

abbrev pub invariant-loop-point : goal.invariant-loop-point
invariant-loop-point l = AreRaised l.index l.offsets (take l.point l.rows) l.raised.items
