-- The invariant and the measure of the loop of `read_lines` in src/pair_lists.rt.
use Rattle.std.proofs.Common.{◌≡◌, ◌+◌, ◌-◌, ◌≤◌, length}
use Rattle.dxf_pairs.specs.Lines.{lines, lines_from}
use Rattle.dxf_pairs.specs.Pairs.{reading, behind}
use Rattle.dxf_pairs.proofs.pair_lists.read_lines.Given as goal

abbrev pub invariant-loop-start : goal.invariant-loop-start
invariant-loop-start l = record {
  within : l.start ≤ length l.bytes;
  numbered : l.line ≤ l.start + 1;
  read : reading (lines l.bytes) ≡ behind l.pairs.items (reading (lines_from l.bytes l.start l.line));
}

abbrev pub decreases-loop-start : goal.decreases-loop-start
decreases-loop-start l = length l.bytes - l.start
