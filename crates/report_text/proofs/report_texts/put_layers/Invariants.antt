-- The invariant of the loop of `put_layers` in src/report_texts.rt.
use Rattle.std.proofs.Common.{◌≡◌, ◌++◌, take}
use Rattle.std.specs.List.{AllByRecursion}
use Rattle.report_text.specs.Reports.{IsLayerHeld}
use Rattle.report_text.specs.ReportText.{layer_lines, text_of_lines}
use Rattle.report_text.proofs.report_texts.put_layers.Given as goal

abbrev pub invariant-loop-number : goal.invariant-loop-number
invariant-loop-number l = (l.out.items ≡ l.initial.out.items ++ text_of_lines (layer_lines 0 (take l.number l.rows)))
    × AllByRecursion IsLayerHeld (take l.number l.rows)
