-- Answers to the goals of `open_list` in src/layer_documents.rt.
use Rattle.std.proofs.Common.{length, sym, ap, subst, ◌∙◌, arith}
use Rattle.std.specs.Prelude.{Err}
use Rattle.std.proofs.lemmas.Option.{same_Some}
use Rattle.jtext.specs.Values.{array}
use Rattle.jtext.specs.Places.{HasNodesAt}
use Rattle.jtext.specs.declared.document.Kind.TheVariants as kinds
use Rattle.jtext.specs.declared.document.Node.{Node}
use Rattle.jtext.proofs.CallerLemmas.MemberLoops.{array_of}
use Rattle.sheet_base.specs.declared.faults.LayerFault.TheVariants.{Shape}
use Rattle.gj_layer.specs.declared.forms.ValueForm.TheVariants as forms
use Rattle.gj_layer.proofs.Members.There.{seen, first_is, kind_there, kind_not_there}
use Rattle.gj_layer.proofs.OpenObjects.OpenValues.{no_array, list_opens, opens_same}
use Rattle.gj_layer.proofs.layer_documents.open_list.Goals as goal

pub returns-then-not-is_kind-clause-opens : goal.returns-then-not-is_kind-clause-opens
returns-then-not-is_kind-clause-opens c bytes exact start is part h =
    let nodes = c.args.doc.now.nodes in let node = c.node_at-node.result in let got = c.node_at-node.ensures in
    no_array exact c.args.items (length part.paths) start is
    (kind_not_there nodes bytes c.args.array start is node kinds.Array h got
    (λ k. let no = c.if-not-is_kind.true in let yes = c.is_kind.ensures.1 k in cc))
    ∙ ap (λ (n : Node). Err (Shape n.start)) (sym (first_is nodes bytes c.args.array start is node h got))
    ∙ ap Err (sym c.shape_at.ensures)

pub overflow_add-result : goal.overflow_add-result
overflow_add-result c =
    let (bytes, read) = c.requires.read in
    let s = seen c.args.doc.now bytes c.args.array c.node_at-node.result read c.requires.node c.node_at-node.ensures in
    omega (arith, s.onward, c.node_at-node.type_inv)

pub returns-clause-opens : goal.returns-clause-opens
returns-clause-opens c bytes exact start is part h =
    let nodes = c.args.doc.now.nodes in let node = c.node_at-node.result in let got = c.node_at-node.ensures in
    let (blank, elements, same) = array_of is
    (kind_there nodes bytes c.args.array start is node kinds.Array h got
    (c.is_kind.ensures.0 c.if-not-is_kind.false)) in
    opens_same nodes bytes exact part _ (forms.List c.args.items) (length part.paths) start is (array blank elements)
    same
    (list_opens nodes bytes exact c.args.items c.args.array start blank elements part node c.form.result c.form.ensures
    (subst (HasNodesAt nodes bytes c.args.array start) same h) got)

pub returns-clause-within : goal.returns-clause-within
returns-clause-within c node got =
    let (bytes, read) = c.requires.read in
    let s = seen c.args.doc.now bytes c.args.array c.node_at-node.result read c.requires.node c.node_at-node.ensures in
    let same = ap (λ (n : Node). n.next) (same_Some node c.node_at-node.result (sym got ∙ c.node_at-node.ensures)) in
    omega (arith, same, s.onward)
