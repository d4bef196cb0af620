-- The invariant of the loop of `put_changes` in src/report_texts.rt.
use Rattle.std.proofs.Common.{◌≡◌, ◌++◌, map, take}
use Rattle.std.specs.List.{AllByRecursion}
use Rattle.report_text.specs.Reports.{IsChangeHeld}
use Rattle.report_text.specs.ReportText.{change_line, text_of_lines}
use Rattle.report_text.proofs.report_texts.put_changes.Given as goal

abbrev pub invariant-loop-change : goal.invariant-loop-change
invariant-loop-change l = (l.out.items ≡ l.initial.out.items
    ++ text_of_lines (map change_line (take l.change-index l.changes)))
    × AllByRecursion IsChangeHeld (take l.change-index l.changes)
