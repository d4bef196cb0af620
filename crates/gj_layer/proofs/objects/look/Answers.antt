-- Answers to the goals of `look` in src/objects.rt.
use Rattle.std.proofs.Common.{◌+◌, sym, ap, ◌∙◌}
use Rattle.jtext.specs.Values.{object}
use Rattle.jtext.specs.Nodes.{node_count, inner_place}
use Rattle.jtext.specs.declared.document.Kind.TheVariants as kinds
use Rattle.jtext.specs.declared.document.Node.{Node}
use Rattle.sheet_base.specs.Faults.{and_then}
use Rattle.gj_layer.specs.Members.{members_at, find_member}
use Rattle.gj_layer.specs.Objects.{content_key, with_content, object_type}
use Rattle.gj_layer.proofs.Members.There.{kind_within, object_there, first_is}
use Rattle.sheet_base.proofs.HandedOn.{passed_on}
use Rattle.gj_layer.proofs.Members.ObjectTypes.{kept_type, type_so, looks_fault}
use Rattle.gj_layer.proofs.objects.look.Goals as goal

pub type_in-requires-clause-told : goal.type_in-requires-clause-told
type_in-requires-clause-told c =
    let (start, blank, members, h) = object_there c.args.doc.now c.args.bytes.now c.args.object c.requires.read
    c.requires.kind in
    let (one, is, are) = c.in_ok-told.ensures start blank members h in
    (c.args.object + node_count (object blank members), one, are)

pub node_at-requires : goal.node_at-requires
node_at-requires c = kind_within c.args.doc.now.nodes c.args.object kinds.Object c.requires.kind

pub returns-in_err-kind-2 : goal.returns-in_err-kind-2
returns-in_err-kind-2 c start blank members h =
    let nodes = c.args.doc.now.nodes in let bytes = c.args.bytes.now in
    let all = members_at (inner_place start blank) members in
    let (told, told_is, told_found) = c.in_ok-told.ensures start blank members h in
    let (bbox, bbox_is, bbox_found) = c.in_ok-bbox.ensures start blank members h in
    let (crs, crs_is, crs_found) = c.in_ok-crs.ensures start blank members h in
    let type = c.in_ok-kind.kind in
    let type_is = c.in_ok-kind.ensures start _ (object blank members) told h told_found in
    let (content, content_is, content_found) = c.in_ok-content.ensures start blank members h in
    let fault = c.in_err-kind-2.field-0.0 in
    let past = c.args.object + node_count (object blank members) in
    let starts = ap (λ (n : Node). n.start) (first_is nodes bytes c.args.object start (object blank members)
    c.node_at.result h c.node_at.ensures) in
    looks_fault nodes bytes c.args.holder c.args.object past all c.from_residual-in_err-kind-2.result
    (object_type c.args.holder start all) fault
    (passed_on fault c.from_residual-in_err-kind-2.result c.from_residual-in_err-kind-2.ensures.1)
    (type_so c.args.holder start all told bbox crs type told_is bbox_is crs_is (sym type_is)
    ∙ ap (λ k. and_then (with_content type start) (find_member k all)) (sym c.content_key.ensures)
    ∙ ap (and_then (with_content type start)) content_is
    ∙ ap (λ n. with_content type n content) (sym starts)
    ∙ sym (c.in_err-kind-2.ensures nodes bytes c.args.object past content content_found))

pub returns : goal.returns
returns c start blank members h =
    let nodes = c.args.doc.now.nodes in let bytes = c.args.bytes.now in
    let all = members_at (inner_place start blank) members in
    let (told, told_is, told_found) = c.in_ok-told.ensures start blank members h in
    let (bbox, bbox_is, bbox_found) = c.in_ok-bbox.ensures start blank members h in
    let (crs, crs_is, crs_found) = c.in_ok-crs.ensures start blank members h in
    let type = c.in_ok-kind.kind in
    let type_is = c.in_ok-kind.ensures start _ (object blank members) told h told_found in
    let (content, content_is, content_found) = c.in_ok-content.ensures start blank members h in
    let past = c.args.object + node_count (object blank members) in
    let starts = ap (λ (n : Node). n.start) (first_is nodes bytes c.args.object start (object blank members)
    c.node_at.result h c.node_at.ensures) in
    let with = c.in_ok-kind-2.ensures nodes bytes c.args.object past content content_found in
    let same = kept_type type c.node_at.result.start content c.in_ok-kind-2.kind with in
    let key = ap (λ k. find_member k all) (sym c.content_key.ensures) ∙ content_is in (
      type_so c.args.holder start all told bbox crs type told_is bbox_is crs_is (sym type_is)
          ∙ ap (and_then (with_content type start)) key
          ∙ ap (λ n. with_content type n content) (sym starts) ∙ sym with,
      record {
        bbox = bbox;
        crs = crs;
        content = content;
        bbox_is = bbox_is;
        crs_is = crs_is;
        content_is = ap (λ t. find_member (content_key t) all) same ∙ key;
        bbox_found = bbox_found;
        crs_found = crs_found;
        content_found = content_found;
      },
    )
