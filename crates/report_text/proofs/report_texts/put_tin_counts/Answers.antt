-- Answers to the goals of `put_tin_counts` in src/report_texts.rt.
use Rattle.std.proofs.Common.{◌≡◌, ◌++◌, codes, rules}
use Rattle.text_fields.specs.Fields.{field}
use Rattle.report_text.proofs.LongerTexts.{three}
use Rattle.report_text.proofs.report_texts.put_tin_counts.Goals as goal

pub returns-clause-text : goal.returns-clause-text
returns-clause-text c =
    let corners : c.put_short.new.out.items ≡ c.args.out.now.items
    ++ field (codes "triangulation corners ") c.args.report.now.corners = search rules in
    let triangles : c.put_short-2.new.out.items ≡ c.put_short.new.out.items
    ++ field (codes " triangles ") c.args.report.now.triangles = search rules in
    let inexact : c.put_long.new.out.items ≡ c.put_short-2.new.out.items
    ++ field (codes " inexact ") c.args.report.now.inexact = search rules in
    three _ _ _ _ _ _ _ corners triangles inexact
