-- Answers to the goals of `list_elements` in src/elements.rt.
use Rattle.std.proofs.Common.{◌+◌, arith}
use Rattle.tin_file.specs.InsideNodes.{element_numbers}
use Rattle.tin_file.proofs.DocumentValues.There.{node_within}
use Rattle.tin_file.proofs.DocumentValues.Walks.{walk_begins, walk_there, walk_goes_on, walk_ends}
use Rattle.tin_file.proofs.elements.list_elements.Goals as goal

pub loop-at-init : goal.loop-at-init
loop-at-init c bytes blank elements h =
    rw c.clear.ensures.items (walk_begins c.args.doc.now.nodes bytes c.args.array blank elements c.node_at-end.result h
    c.node_at-end.ensures)

pub node_at-at-requires : goal.node_at-at-requires
node_at-at-requires c =
    let (bytes, (blank, elements, h)) = c.requires in
    node_within c.args.doc.now.nodes bytes c.loop-at.at
    (walk_there c.args.doc.now.nodes bytes (element_numbers (c.args.array + 1) elements) c.loop-at.at
    c.node_at-end.result.next c.loop-at.numbers.items
    (c.loop-at.invariant bytes blank elements h) c.loop-at-test.true)

pub loop-at-smaller : goal.loop-at-smaller
loop-at-smaller c =
    let (bytes, (blank, elements, h)) = c.requires in
    let on = walk_goes_on c.args.doc.now.nodes bytes (element_numbers (c.args.array + 1) elements) c.loop-at.at
    c.node_at-end.result.next c.loop-at.numbers.items
    c.node_at-at.result (c.loop-at.invariant bytes blank elements h) c.loop-at-test.true c.node_at-at.ensures in
    omega (arith, on.1, on.2)

pub loop-at-preserved : goal.loop-at-preserved
loop-at-preserved c bytes blank elements h =
    rw c.in_ok-push.ensures.items
    ((walk_goes_on c.args.doc.now.nodes bytes (element_numbers (c.args.array + 1) elements) c.loop-at.at
    c.node_at-end.result.next c.loop-at.numbers.items
    c.node_at-at.result (c.loop-at.invariant bytes blank elements h) c.loop-at-test.true c.node_at-at.ensures).0)

pub returns : goal.returns
returns c bytes blank elements h =
    walk_ends c.args.doc.now.nodes bytes (element_numbers (c.args.array + 1) elements) c.loop-at.at
    c.node_at-end.result.next c.loop-at.numbers.items
    (c.loop-at.invariant bytes blank elements h) c.loop-at-test.false
