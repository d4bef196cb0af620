-- Answers to the goals of `read_number` in src/positions.rt.
use Rattle.std.proofs.Common.{ap, ◌∙◌}
use Rattle.std.specs.Prelude.{Err}
use Rattle.jtext.specs.declared.document.Kind.TheVariants as kinds
use Rattle.jtext.specs.declared.document.Node.{Node}
use Rattle.sheet_base.specs.declared.faults.LayerFault.TheVariants.{Shape}
use Rattle.mm_decimal.specs.AnswerValues.{millimetres_of}
use Rattle.gj_layer.specs.Positions.{accepted_read}
use Rattle.gj_layer.proofs.Members.There.{seen, first_is, text_is, kind_there, kind_not_there}
use Rattle.gj_layer.proofs.Coordinates.PositionElements.{number_so, no_number}
use Rattle.gj_layer.proofs.positions.read_number.Goals as goal

pub text_of-requires-clause-order : goal.text_of-requires-clause-order
text_of-requires-clause-order c = (seen c.args.doc.now c.args.bytes.now c.args.value c.node_at-node.result
    c.requires.read c.requires.node c.node_at-node.ensures).order

pub text_of-requires-clause-within : goal.text_of-requires-clause-within
text_of-requires-clause-within c = (seen c.args.doc.now c.args.bytes.now c.args.value c.node_at-node.result
    c.requires.read c.requires.node c.node_at-node.ensures).within

pub returns-then-is_kind : goal.returns-then-is_kind
returns-then-is_kind c start is h =
    let nodes = c.args.doc.now.nodes in let bytes = c.args.bytes.now in let node = c.node_at-node.result in let got =
    c.node_at-node.ensures in
    c.accept.ensures ∙ ap (accepted_read c.args.exact node.start) c.read_mm.ensures.measured
    ∙ ap (λ (n : Node). accepted_read c.args.exact n.start (millimetres_of c.text_of.result.now))
    (first_is nodes bytes c.args.value start is node h got)
    ∙ number_so c.args.exact start is c.text_of.result.now
    (c.text_of.ensures ∙ text_is nodes bytes c.args.value start is node h got)
    (kind_there nodes bytes c.args.value start is node kinds.Number h got (c.is_kind.ensures.0 c.if-is_kind.true))

pub returns-else-is_kind : goal.returns-else-is_kind
returns-else-is_kind c start is h =
    let nodes = c.args.doc.now.nodes in let bytes = c.args.bytes.now in let node = c.node_at-node.result in let got =
    c.node_at-node.ensures in
    ap Err c.shape_at.ensures ∙ ap (λ (n : Node). Err (Shape n.start))
    (first_is nodes bytes c.args.value start is node h got)
    ∙ no_number c.args.exact start is (kind_not_there nodes bytes c.args.value start is node kinds.Number h got
    (λ k. let no = c.if-is_kind.false in let yes = c.is_kind.ensures.1 k in cc))
