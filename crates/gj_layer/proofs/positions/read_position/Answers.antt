-- Answers to the goals of `read_position` in src/positions.rt.
use Rattle.std.proofs.Common.{sym, ap, subst, ◌∙◌, arith}
use Rattle.std.specs.Prelude.{Err}
use Rattle.jtext.specs.Places.{HasNodesAt}
use Rattle.jtext.specs.declared.document.Kind.TheVariants as kinds
use Rattle.jtext.specs.declared.document.Node.{Node}
use Rattle.jtext.proofs.CallerLemmas.MemberLoops.{array_of}
use Rattle.sheet_base.specs.declared.faults.LayerFault.TheVariants.{Shape}
use Rattle.gj_layer.specs.Positions.{position}
use Rattle.gj_layer.proofs.Members.There.{first_is, kind_there, kind_not_there}
use Rattle.gj_layer.proofs.Coordinates.PositionElements.{no_position}
use Rattle.gj_layer.proofs.positions.read_position.Goals as goal

pub read_array-requires-clause-kind : goal.read_array-requires-clause-kind
read_array-requires-clause-kind c = grind (arith, c.node_at-node.ensures, c.is_kind.ensures.0, c.if-is_kind.true)

pub returns-then-is_kind : goal.returns-then-is_kind
returns-then-is_kind c start is h =
    let nodes = c.args.doc.now.nodes in let bytes = c.args.bytes.now in let node = c.node_at-node.result in let got =
    c.node_at-node.ensures in
    let (blank, elements, same) = array_of is
    (kind_there nodes bytes c.args.value start is node kinds.Array h got (c.is_kind.ensures.0 c.if-is_kind.true)) in
    c.read_array.ensures start blank elements (subst (HasNodesAt nodes bytes c.args.value start) same h)
    ∙ ap (position c.args.exact start) (sym same)

pub returns-else-is_kind : goal.returns-else-is_kind
returns-else-is_kind c start is h =
    let nodes = c.args.doc.now.nodes in let bytes = c.args.bytes.now in let node = c.node_at-node.result in let got =
    c.node_at-node.ensures in
    ap Err c.shape_at.ensures ∙ ap (λ (n : Node). Err (Shape n.start))
    (first_is nodes bytes c.args.value start is node h got)
    ∙ no_position c.args.exact start is (kind_not_there nodes bytes c.args.value start is node kinds.Array h got
    (λ k. let no = c.if-is_kind.false in let yes = c.is_kind.ensures.1 k in cc))
