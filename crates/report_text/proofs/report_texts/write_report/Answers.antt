-- Answers to the goals of `write_report` in src/report_texts.rt.
use Rattle.std.proofs.Common.{◌≡◌, ◌<◌, ◌≤◌, ◌^◌, ◌++◌, ◌∷◌, [], IsUtf8, length, map, rules}
use Rattle.std.specs.List.{AllByRecursion}
use Rattle.report_text.specs.Reports.{IsReport, AreCountsHeld, IsLayerHeld, IsChangeHeld, AreSidesHeld}
use Rattle.report_text.specs.declared.lines.TheConstants.{LINE_FEED}
use Rattle.report_text.specs.ReportText.{title, tin_line, layer_lines, count_line, change_line, end_line, text_of_lines}
use Rattle.report_text.specs.ReportText.{are_told, side_lines}
use Rattle.report_text.proofs.LongerTexts.{parts, end_text}
use Rattle.report_text.proofs.report_texts.write_report.Goals as goal

pub returns-clause-text : goal.returns-clause-text
returns-clause-text c =
    let report = c.args.report.now in
    let first : c.put_title.new.out.items ≡ title (are_told report.sides) ++ LINE_FEED ∷ [] = search rules in
    let second : c.put_tin.new.out.items ≡ c.put_title.new.out.items ++ tin_line report = search rules in
    let third : c.put.new.out.items ≡ c.put_tin.new.out.items ++ LINE_FEED ∷ [] = search rules in
    let fourth : c.put_layers.new.out.items ≡ c.put.new.out.items ++ text_of_lines (layer_lines 0 report.layers) =
    search rules in
    let fifth : c.put_count.new.out.items ≡ c.put_layers.new.out.items ++ count_line (length report.changes) =
    search rules in
    let sixth : c.put-2.new.out.items ≡ c.put_count.new.out.items ++ LINE_FEED ∷ [] = search rules in
    let seventh : c.put_changes.new.out.items ≡ c.put-2.new.out.items
    ++ text_of_lines (map change_line report.changes) = search rules in
    let eighth : c.put_sides.new.out.items ≡ c.put_changes.new.out.items ++ text_of_lines (side_lines report.sides) =
    search rules in
    let ninth : c.put-3.new.out.items ≡ c.put_sides.new.out.items ++ (end_line ++ LINE_FEED ∷ []) =
    rw end_text (search rules) in
    parts _ _ _ _ _ _ _ _ _ _ _ _ _ _ _ _ first second third fourth fifth sixth seventh eighth ninth

pub returns-clause-read : goal.returns-clause-read
returns-clause-read c =
    let report = c.args.report.now in
    let kept : IsReport report = search rules in
    let counts : AreCountsHeld report × IsUtf8 report.name = search rules in
    let layers : AllByRecursion IsLayerHeld report.layers = search rules in
    let few : length report.layers ≤ 2 ^ 64 = search rules in
    let changes : AllByRecursion IsChangeHeld report.changes = search rules in
    let counted : length report.changes < 2 ^ 64 = search rules in
    let sides : AreSidesHeld report.sides = search rules in
    record {
      kept = kept;
      held = record {
        corners = counts.0.0;
        triangles = counts.0.1;
        inexact = counts.0.2;
        name = counts.1;
        layers = layers;
        changes = changes;
        numbered = few;
        counted = counted;
        sides = sides;
      };
      spelled = returns-clause-text c;
    }
