-- Answers to the goals of `member_of` in src/nodes.rt.
use Rattle.std.proofs.Common.{◌+◌, sym, ◌∙◌, subst}
use Rattle.jtext.specs.Values.{object}
use Rattle.jtext.specs.Nodes.{inner_place}
use Rattle.jtext.specs.Places.{HasNodesAt, entries_at}
use Rattle.jtext.specs.Lookups.{entries_of_key}
use Rattle.jtext.proofs.CallerLemmas.MemberLoops.{object_of}
use Rattle.jtext.proofs.CallerLemmas.NodePlaces.{value_at}
use Rattle.layer_features.specs.JsonFeatures.{member_of}
use Rattle.layer_features.proofs.Found.{kind_is, not_object, found_in_object, found_no_only, found_inside}
use Rattle.layer_features.proofs.nodes.member_of.Goals as goal

pub member-requires-clause-kind : goal.member-requires-clause-kind
member-requires-clause-kind c =
    (c.node_at.result, c.node_at.ensures, c.is_kind.ensures.0 c.if-not-is_kind.false)

pub returns-then-not-is_kind-clause-found : goal.returns-then-not-is_kind-clause-found
returns-then-not-is_kind-clause-found c start is h =
    rw (not_object c.args.name.now c.args.value start is (λ kind.
    let yes = c.is_kind.ensures.1
    (kind_is c.args.doc.now.nodes c.args.bytes.now c.args.value start is c.node_at.result h c.node_at.ensures ∙ kind) in
    let other = c.if-not-is_kind.true in cc)) tt

pub returns-in-Ok-clause-found : goal.returns-in-Ok-clause-found
returns-in-Ok-clause-found c start is h =
    let nodes = c.args.doc.now.nodes in let bytes = c.args.bytes.now in
    let (blank, members, same) = object_of is
    (sym (kind_is nodes bytes c.args.value start is c.node_at.result h c.node_at.ensures)
    ∙ c.is_kind.ensures.0 c.if-not-is_kind.false) in
    rw same (found_in_object nodes bytes c.args.name.now c.args.value start blank members c.in-Ok.found
    (subst (HasNodesAt nodes bytes c.args.value start) same h)
    (sym (c.in-Ok.ensures start blank members (subst (HasNodesAt nodes bytes c.args.value start) same h))))

pub returns-in-Err-clause-found : goal.returns-in-Err-clause-found
returns-in-Err-clause-found c start is h =
    let nodes = c.args.doc.now.nodes in let bytes = c.args.bytes.now in
    let (blank, members, same) = object_of is
    (sym (kind_is nodes bytes c.args.value start is c.node_at.result h c.node_at.ensures)
    ∙ c.is_kind.ensures.0 c.if-not-is_kind.false) in
    rw same (found_no_only nodes bytes
    (entries_of_key c.args.name.now (entries_at (c.args.value + 1) (inner_place start blank) members)) c.in-Err.field-0
    (sym (c.in-Err.ensures start blank members (subst (HasNodesAt nodes bytes c.args.value start) same h))))

pub returns-in-Ok-clause-within : goal.returns-in-Ok-clause-within
returns-in-Ok-clause-within c =
    let nodes = c.args.doc.now.nodes in let bytes = c.args.bytes.now in
    let (start, is, h) = value_at c.args.doc.now bytes c.args.value c.requires.read c.requires.node in
    let (blank, members, same) = object_of is
    (sym (kind_is nodes bytes c.args.value start is c.node_at.result h c.node_at.ensures)
    ∙ c.is_kind.ensures.0 c.if-not-is_kind.false) in
    let there = subst (HasNodesAt nodes bytes c.args.value start) same h in
    found_inside nodes bytes c.in-Ok.found (member_of c.args.name.now c.args.value start (object blank members))
    (found_in_object nodes bytes c.args.name.now c.args.value start blank members c.in-Ok.found there
    (sym (c.in-Ok.ensures start blank members there)))
