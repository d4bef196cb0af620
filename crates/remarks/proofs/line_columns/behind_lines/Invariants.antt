-- The invariant of the loop of `behind_lines` in src/line_columns.rt.
use Rattle.std.proofs.Common.{◌≡◌}
use Rattle.remarks.specs.LineColumns.{behind_lines}
use Rattle.remarks.proofs.line_columns.behind_lines.Given as goal

abbrev pub invariant-loop : goal.invariant-loop
invariant-loop l = l.rest ≡ behind_lines l.counter l.bytes
