-- Answers to the goals of `read_row_number` in src/triangles.rt.
use Rattle.std.proofs.Common.{sym, ap, ◌∙◌}
use Rattle.tin_file.specs.RowContents.{at_most}
use Rattle.tin_file.proofs.DocumentValues.There.{node_within}
use Rattle.tin_file.proofs.FileRows.NumberRows.{row_number_so, not_row_number_so}
use Rattle.tin_file.proofs.triangles.read_row_number.Goals as goal

pub holds_number-requires : goal.holds_number-requires
holds_number-requires c = node_within c.args.doc.now.nodes c.args.bytes.now c.args.value c.requires

pub returns-then-holds_number : goal.returns-then-holds_number
returns-then-holds_number c is there =
    c.read_digits.ensures ∙ ap at_most (row_number_so is c.text_at.result.now (c.text_at.ensures is there)
    (sym c.if-holds_number.true ∙ c.holds_number.ensures c.args.bytes.now is there))

pub returns-else-holds_number : goal.returns-else-holds_number
returns-else-holds_number c is there =
    ap at_most (not_row_number_so is (sym c.if-holds_number.false ∙ c.holds_number.ensures c.args.bytes.now is there))
