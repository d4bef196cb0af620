-- The invariant of the loop of `are_in` in src/strays.rt.
use Rattle.std.proofs.Common.{take}
use Rattle.run_notes.specs.InsideStrays.{HasEach}
use Rattle.run_notes.proofs.strays.are_in.Given as goal

abbrev pub invariant-loop-p : goal.invariant-loop-p
invariant-loop-p l = HasEach l.rect (take l.p-index l.points)
