-- Answers to the goals of `open_object` in src/objects.rt.
use Rattle.std.proofs.Common.{◌≡◌, ◌+◌, length, vec_len, sym, ap, subst, ◌∙◌, arith}
use Rattle.std.specs.Prelude.{Err}
use Rattle.jtext.specs.Values.{object}
use Rattle.jtext.specs.Nodes.{node_count}
use Rattle.jtext.specs.Places.{HasNodesAt}
use Rattle.jtext.specs.declared.document.Kind.TheVariants as kinds
use Rattle.jtext.specs.declared.document.Node.{Node}
use Rattle.sheet_base.specs.declared.faults.LayerFault.TheVariants.{Shape}
use Rattle.gj_layer.specs.declared.forms.ValueForm.TheVariants as forms
use Rattle.gj_layer.specs.Documents.{reading}
use Rattle.gj_layer.proofs.Members.There.{first_is, object_there, kind_there, kind_not_there}
use Rattle.jtext.proofs.CallerLemmas.MemberLoops.{object_of}
use Rattle.sheet_base.proofs.HandedOn.{passed_on}
use Rattle.gj_layer.proofs.OpenObjects.OpenValues.{no_object, object_refused, object_opens, opens_fault, opens_same, content_inside}
use Rattle.gj_layer.proofs.OpenObjects.OpenValues.{held_counts}
use Rattle.gj_layer.proofs.objects.open_object.Goals as goal

pub returns-then-not-is_kind-clause-opens : goal.returns-then-not-is_kind-clause-opens
returns-then-not-is_kind-clause-opens c exact start is part h held =
    let nodes = c.args.doc.now.nodes in let bytes = c.args.bytes.now in let node = c.node_at-node.result in let got =
    c.node_at-node.ensures in
    no_object exact c.args.holder (length part.paths) start is
    (kind_not_there nodes bytes c.args.object start is node kinds.Object h got
    (λ k. let no = c.if-not-is_kind.true in let yes = c.is_kind.ensures.1 k in cc))
    ∙ ap (λ (n : Node). Err (Shape n.start)) (sym (first_is nodes bytes c.args.object start is node h got))
    ∙ ap Err (sym c.shape_at.ensures)

pub returns-in_err-looked-clause-opens : goal.returns-in_err-looked-clause-opens
returns-in_err-looked-clause-opens c exact start is part h held =
    let nodes = c.args.doc.now.nodes in let bytes = c.args.bytes.now in
    let (blank, members, same) = object_of is
    (kind_there nodes bytes c.args.object start is c.node_at-node.result kinds.Object h c.node_at-node.ensures
    (c.is_kind.ensures.0 c.if-not-is_kind.false)) in
    let fault = c.in_err-looked.field-0.0 in
    let past = c.args.object + node_count (object blank members) in
    opens_fault nodes bytes exact part c.from_residual.result
    (reading exact (forms.Object c.args.holder) (length part.paths) start is) fault
    (passed_on fault c.from_residual.result c.from_residual.ensures.1)
    (ap (reading exact (forms.Object c.args.holder) (length part.paths) start) same
    ∙ object_refused nodes bytes exact c.args.holder c.args.object past start blank members part fault
    (c.in_err-looked.ensures start blank members (subst (HasNodesAt nodes bytes c.args.object start) same h)))

pub content_at-at-requires : goal.content_at-at-requires
content_at-at-requires c =
    let (start, blank, members, h) = object_there c.args.doc.now c.args.bytes.now c.args.object c.requires.read
    (c.node_at-node.result, c.node_at-node.ensures, c.is_kind.ensures.0 c.if-not-is_kind.false) in
    let are = (c.in_ok-looked.ensures start blank members h).1 in
    (c.args.bytes.now, c.args.object, c.args.object + node_count (object blank members), are.content, are.content_found)

pub span_at-requires : goal.span_at-requires
span_at-requires c =
    let (start, blank, members, h) = object_there c.args.doc.now c.args.bytes.now c.args.object c.requires.read
    (c.node_at-node.result, c.node_at-node.ensures, c.is_kind.ensures.0 c.if-not-is_kind.false) in
    let are = (c.in_ok-looked.ensures start blank members h).1 in
    (c.args.bytes.now, c.args.object, c.args.object + node_count (object blank members), are.bbox, are.bbox_found)

pub span_at-requires-2 : goal.span_at-requires-2
span_at-requires-2 c =
    let (start, blank, members, h) = object_there c.args.doc.now c.args.bytes.now c.args.object c.requires.read
    (c.node_at-node.result, c.node_at-node.ensures, c.is_kind.ensures.0 c.if-not-is_kind.false) in
    let are = (c.in_ok-looked.ensures start blank members h).1 in
    (c.args.bytes.now, c.args.object, c.args.object + node_count (object blank members), are.crs, are.crs_found)

pub returns-clause-opens : goal.returns-clause-opens
returns-clause-opens c exact start is part h held =
    let nodes = c.args.doc.now.nodes in let bytes = c.args.bytes.now in
    let (blank, members, same) = object_of is
    (kind_there nodes bytes c.args.object start is c.node_at-node.result kinds.Object h c.node_at-node.ensures
    (c.is_kind.ensures.0 c.if-not-is_kind.false)) in
    let there = subst (HasNodesAt nodes bytes c.args.object start) same h in
    let past = c.args.object + node_count (object blank members) in
    let (type_is, are) = c.in_ok-looked.ensures start blank members there in
    let long : vec_len c.args.pass.now.paths ≡ length c.args.pass.now.paths.items = omega arith in
    let long_edits : vec_len c.args.pass.now.edits ≡ length c.args.pass.now.edits.items = omega arith in
    let counts = held_counts c.args.pass.now part held in
    opens_same nodes bytes exact part _ (forms.Object c.args.holder) (length part.paths) start is (object blank members)
    same
    (object_opens nodes bytes exact c.args.holder c.args.object past start blank members part c.in_ok-looked.looked
    type_is are c.content_at-at.result
    (c.content_at-at.ensures bytes c.args.object past) c.span_at.result c.span_at-2.result
    (c.span_at.ensures bytes c.args.object past) (c.span_at-2.ensures bytes c.args.object past)
    c.len.result c.len-2.result (c.len.ensures ∙ long ∙ counts.0) (c.len-2.ensures ∙ long_edits ∙ counts.1)
    c.content_form.result c.content_form.ensures)

pub returns-clause-within : goal.returns-clause-within
returns-clause-within c node got =
    let nodes = c.args.doc.now.nodes in let bytes = c.args.bytes.now in
    let (start, blank, members, h) = object_there c.args.doc.now bytes c.args.object c.requires.read
    (c.node_at-node.result, c.node_at-node.ensures, c.is_kind.ensures.0 c.if-not-is_kind.false) in
    let are = (c.in_ok-looked.ensures start blank members h).1 in
    let past = c.args.object + node_count (object blank members) in
    let next = ap (λ (n : Node). n.next) (first_is nodes bytes c.args.object start (object blank members) node h got) in
    let inside = content_inside nodes bytes c.args.object past c.content_at-at.result are.content
    (c.content_at-at.ensures bytes c.args.object past are.content are.content_found) (omega arith) in
    omega (arith, inside, next)
