-- The invariant of the loop of `written_length` in src/lengths.rt.
use Rattle.std.proofs.Common.{◌≤◌, length}
use Rattle.dxf_copies.proofs.lengths.written_length.Given as goal

abbrev pub invariant-loop-edit : goal.invariant-loop-edit
invariant-loop-edit l = l.number ≤ length l.page.pairs.now
