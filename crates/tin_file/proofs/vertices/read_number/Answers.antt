-- Answers to the goals of `read_number` in src/vertices.rt.
use Rattle.std.proofs.Common.{sym, ap, ◌∙◌}
use Rattle.tin_file.specs.Vertices.{number_or_fault}
use Rattle.tin_file.proofs.DocumentValues.There.{node_within}
use Rattle.tin_file.proofs.FileRows.NumberRows.{number_so, not_number_so}
use Rattle.tin_file.proofs.vertices.read_number.Goals as goal

pub holds_number-requires : goal.holds_number-requires
holds_number-requires c = node_within c.args.doc.now.nodes c.args.bytes.now c.args.value c.requires

pub returns-then-holds_number : goal.returns-then-holds_number
returns-then-holds_number c is there =
    c.accept.ensures ∙ ap (number_or_fault c.args.how c.args.row) c.read_mm.ensures.measured
    ∙ number_so c.args.how c.args.row is c.text_at.result.now (c.text_at.ensures is there)
    (sym c.if-holds_number.true ∙ c.holds_number.ensures c.args.bytes.now is there)

pub returns-else-holds_number : goal.returns-else-holds_number
returns-else-holds_number c is there =
    not_number_so c.args.how c.args.row is (sym c.if-holds_number.false
    ∙ c.holds_number.ensures c.args.bytes.now is there)
