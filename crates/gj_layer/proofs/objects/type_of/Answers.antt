-- Answers to the goals of `type_of` in src/objects.rt.
use Rattle.std.proofs.Common.{sym, ap, subst, ◌∙◌}
use Rattle.std.specs.Prelude.{Err}
use Rattle.jtext.specs.Places.{HasNodesAt}
use Rattle.jtext.specs.declared.document.Kind.TheVariants as kinds
use Rattle.jtext.specs.declared.document.Node.{Node}
use Rattle.sheet_base.specs.declared.faults.LayerFault.TheVariants.{Shape}
use Rattle.gj_layer.specs.Objects.{allowed_type, type_of}
use Rattle.gj_layer.proofs.Members.There.{first_is, kind_there, kind_not_there}
use Rattle.jtext.proofs.CallerLemmas.TextNodes.{quoted_of}
use Rattle.gj_layer.proofs.Members.TextMeanings.{no_text}
use Rattle.gj_layer.proofs.objects.type_of.Goals as goal

pub returns-then-is_kind : goal.returns-then-is_kind
returns-then-is_kind c start at whole is there h =
    let nodes = c.args.doc.now.nodes in let bytes = c.args.bytes.now in let node = c.node_at-node.result in let got =
    c.node_at-node.ensures in
    let (chars, same) = quoted_of is (kind_there nodes bytes c.args.value at is node kinds.Text h got
    (c.is_kind.ensures.0 c.if-is_kind.true)) in
    c.allow_type.ensures ∙ ap (λ (n : Node). allowed_type c.args.holder n.start c.type_named.result)
    (first_is nodes bytes c.args.value at is node h got)
    ∙ ap (allowed_type c.args.holder at) (c.type_named.ensures at chars
    (subst (HasNodesAt nodes bytes c.args.value at) same h))
    ∙ ap (type_of c.args.holder start at) (sym same)

pub returns-else-is_kind : goal.returns-else-is_kind
returns-else-is_kind c start at whole is there h =
    let nodes = c.args.doc.now.nodes in let bytes = c.args.bytes.now in let node = c.node_at-node.result in let got =
    c.node_at-node.ensures in
    ap Err c.shape_at.ensures ∙ ap (λ (n : Node). Err (Shape n.start))
    (first_is nodes bytes c.args.object start whole c.node_at.result there c.node_at.ensures)
    ∙ no_text c.args.holder start at is (kind_not_there nodes bytes c.args.value at is node kinds.Text h got
    (λ k. let no = c.if-is_kind.false in let yes = c.is_kind.ensures.1 k in cc))
