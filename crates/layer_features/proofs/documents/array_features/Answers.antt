-- Answers to the goals of `array_features` in src/documents.rt.
use Rattle.std.proofs.Common.{◌≡◌, ◌+◌, sym, ap, ◌∙◌, subst, arith}
use Rattle.jtext.specs.Values.{array}
use Rattle.jtext.specs.Nodes.{node_count}
use Rattle.jtext.specs.Places.{HasNodesAt}
use Rattle.jtext.proofs.CallerLemmas.MemberLoops.{array_of}
use Rattle.layer_features.specs.JsonFeatures.{asked_for, array_features}
use Rattle.layer_features.proofs.Found.{kind_is}
use Rattle.layer_features.proofs.Elements.{not_array, array_there, array_end, some_next, next_inside}
use Rattle.layer_features.proofs.Elements.{going_in, next_element, next_at, next_further, going_ends}
use Rattle.layer_features.proofs.documents.array_features.Goals as goal

pub overflow_add-at : goal.overflow_add-at
overflow_add-at c =
    let (start, blank, elements, h) = array_there c.args.doc.now c.args.bytes.now c.args.array c.node_at-node.result
    c.requires.read c.requires.node c.node_at-node.ensures (c.is_kind.ensures.0 c.if-not-is_kind.false) in
    let next = array_end c.args.doc.now.nodes c.args.bytes.now c.args.array start blank elements c.node_at-node.result h
    c.node_at-node.ensures in
    omega (arith, next, c.next_of-end.ensures, c.next_of-end.type_inv)

pub loop-at-init : goal.loop-at-init
loop-at-init c = record {
  few = omega arith;
  going = λ start blank elements h.
      rw c.new-features.ensures.items (going_in (asked_for c.args.name) c.args.doc.now.nodes c.args.bytes.now c.args.array start blank elements
      c.next_of-end.result
      (c.next_of-end.ensures ∙ array_end c.args.doc.now.nodes c.args.bytes.now c.args.array start blank elements
      c.node_at-node.result h c.node_at-node.ensures) h);
}

pub feature_of-requires-clause-node : goal.feature_of-requires-clause-node
feature_of-requires-clause-node c =
    let (all, n) = some_next (asked_for c.args.name) c.args.doc.now c.args.bytes.now c.args.array c.node_at-node.result c.next_of-end.result
    c.loop-at.at c.loop-at.count c.loop-at.features.items c.requires.read c.requires.node c.node_at-node.ensures
    (c.is_kind.ensures.0 c.if-not-is_kind.false) c.loop-at.invariant.going c.loop-at-test.true in
    next_inside (asked_for c.args.name) c.args.doc.now.nodes c.args.bytes.now c.next_of-end.result c.loop-at.at c.loop-at.count
    c.loop-at.features.items all n

pub node_at-requires : goal.node_at-requires
node_at-requires c =
    let (all, n) = some_next (asked_for c.args.name) c.args.doc.now c.args.bytes.now c.args.array c.node_at-node.result c.next_of-end.result
    c.loop-at.at c.loop-at.count c.loop-at.features.items c.requires.read c.requires.node c.node_at-node.ensures
    (c.is_kind.ensures.0 c.if-not-is_kind.false) c.loop-at.invariant.going c.loop-at-test.true in
    next_inside (asked_for c.args.name) c.args.doc.now.nodes c.args.bytes.now c.next_of-end.result c.loop-at.at c.loop-at.count
    c.loop-at.features.items all n

pub overflow_add-count : goal.overflow_add-count
overflow_add-count c = omega (arith, c.loop-at.invariant.few, c.loop-at-test.true, c.next_of-end.type_inv)

pub loop-at-smaller : goal.loop-at-smaller
loop-at-smaller c =
    let (all, n) = some_next (asked_for c.args.name) c.args.doc.now c.args.bytes.now c.args.array c.node_at-node.result c.next_of-end.result
    c.loop-at.at c.loop-at.count c.loop-at.features.items c.requires.read c.requires.node c.node_at-node.ensures
    (c.is_kind.ensures.0 c.if-not-is_kind.false) c.loop-at.invariant.going c.loop-at-test.true in
    let further = next_further (asked_for c.args.name) c.args.doc.now.nodes c.args.bytes.now c.next_of-end.result c.loop-at.at c.loop-at.count
    c.loop-at.features.items all n c.node_at.result c.node_at.ensures in
    omega (arith, further, c.next_of-at.ensures, c.loop-at-test.true)

pub loop-at-preserved : goal.loop-at-preserved
loop-at-preserved c =
    let (all, n) = some_next (asked_for c.args.name) c.args.doc.now c.args.bytes.now c.args.array c.node_at-node.result c.next_of-end.result
    c.loop-at.at c.loop-at.count c.loop-at.features.items c.requires.read c.requires.node c.node_at-node.ensures
    (c.is_kind.ensures.0 c.if-not-is_kind.false) c.loop-at.invariant.going c.loop-at-test.true in
    let further = next_further (asked_for c.args.name) c.args.doc.now.nodes c.args.bytes.now c.next_of-end.result c.loop-at.at c.loop-at.count
    c.loop-at.features.items all n c.node_at.result c.node_at.ensures in
    record {
      few = omega (arith, further, c.next_of-at.ensures, c.loop-at.invariant.few);
      going = λ start blank elements h.
          let list = array_features (asked_for c.args.name) c.args.array start (array blank elements) in
          let m = next_element (asked_for c.args.name) c.args.doc.now.nodes c.args.bytes.now c.next_of-end.result c.loop-at.at c.loop-at.count
          c.loop-at.features.items list (c.loop-at.invariant.going start blank elements h) c.loop-at-test.true in
          let next : c.next_of-at.result ≡ c.loop-at.at + node_count m.value = c.next_of-at.ensures
          ∙ next_at (asked_for c.args.name) c.args.doc.now.nodes c.args.bytes.now c.next_of-end.result c.loop-at.at c.loop-at.count
          c.loop-at.features.items list m c.node_at.result c.node_at.ensures in
          rw (c.in_ok-push.ensures.items, next)
          (m.going c.feature_of.result (c.feature_of.ensures m.start m.value m.there));
    }

pub returns-then-not-is_kind : goal.returns-then-not-is_kind
returns-then-not-is_kind c start is h =
    c.new-features.ensures.items ∙ sym (not_array (asked_for c.args.name) c.args.array start is (λ kind.
    let yes = c.is_kind.ensures.1
    (kind_is c.args.doc.now.nodes c.args.bytes.now c.args.array start is c.node_at-node.result h c.node_at-node.ensures
    ∙ kind) in
    let other = c.if-not-is_kind.true in cc))

pub returns : goal.returns
returns c start is h =
    let (blank, elements, same) = array_of is
    (sym (kind_is c.args.doc.now.nodes c.args.bytes.now c.args.array start is c.node_at-node.result h
    c.node_at-node.ensures) ∙ c.is_kind.ensures.0 c.if-not-is_kind.false) in
    going_ends (asked_for c.args.name) c.args.doc.now.nodes c.args.bytes.now c.next_of-end.result c.loop-at.at c.loop-at.count
    c.loop-at.features.items (array_features (asked_for c.args.name) c.args.array start (array blank elements))
    (c.loop-at.invariant.going start blank elements
    (subst (HasNodesAt c.args.doc.now.nodes c.args.bytes.now c.args.array start) same h)) c.loop-at-test.false
    ∙ ap (array_features (asked_for c.args.name) c.args.array start) (sym same)
