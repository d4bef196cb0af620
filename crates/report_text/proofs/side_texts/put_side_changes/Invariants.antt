-- The invariant of the loop of `put_side_changes` in src/side_texts.rt.
use Rattle.std.proofs.Common.{◌≡◌, ◌++◌, map, take}
use Rattle.std.specs.List.{AllByRecursion}
use Rattle.report_text.specs.Reports.{IsSideHeld}
use Rattle.report_text.specs.ReportText.{side_line, text_of_lines}
use Rattle.report_text.proofs.side_texts.put_side_changes.Given as goal

abbrev pub invariant-loop-side : goal.invariant-loop-side
invariant-loop-side l = (l.out.items ≡ l.initial.out.items
    ++ text_of_lines (map side_line (take l.side-index l.sides)))
    × AllByRecursion IsSideHeld (take l.side-index l.sides)
