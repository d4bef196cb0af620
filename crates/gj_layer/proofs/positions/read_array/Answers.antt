-- Answers to the goals of `read_array` in src/positions.rt.
use Rattle.std.proofs.Common.{◌+◌, length, ap, ◌∙◌, arith}
use Rattle.std.specs.Prelude.{None, Ok, Err}
use Rattle.jtext.specs.Values.{array, spelling}
use Rattle.jtext.specs.Nodes.{inner_place}
use Rattle.jtext.specs.declared.document.Kind.TheVariants as kinds
use Rattle.jtext.specs.declared.document.Node.{Node}
use Rattle.sheet_base.specs.declared.faults.LayerFault.TheVariants.{Shape, Height}
use Rattle.gj_layer.specs.Positions.{position_from}
use Rattle.gj_layer.proofs.Members.There.{seen, first_is, kind_within, array_left}
use Rattle.gj_layer.proofs.Coordinates.PositionElements.{no_first, no_second, no_third, no_fourth, fourth_there}
use Rattle.gj_layer.proofs.positions.read_array.Goals as goal

pub overflow_add-first : goal.overflow_add-first
overflow_add-first c =
    let s = seen c.args.doc.now c.args.bytes.now c.args.value c.node_at-array.result c.requires.read
    (kind_within c.args.doc.now.nodes c.args.value kinds.Array c.requires.kind) c.node_at-array.ensures in
    omega (arith, s.onward, c.node_at-array.type_inv)

pub returns-then-first-array : goal.returns-then-first-array
returns-then-first-array c start blank elements h =
    let nodes = c.args.doc.now.nodes in let bytes = c.args.bytes.now in let node = c.node_at-array.result in let got =
    c.node_at-array.ensures in
    let is = first_is nodes bytes c.args.value start (array blank elements) node h got in
    let end = start + length (spelling (array blank elements)) in
    let left = array_left nodes bytes c.args.value start blank elements node h got in
    ap Err c.shape_at.ensures ∙ ap (λ (n : Node). Err (Shape n.start)) is
    ∙ no_first nodes bytes c.args.exact start end (c.args.value + 1) node.next (inner_place start blank) elements left
    c.if-first-array.true

pub node_at-second-requires : goal.node_at-second-requires
node_at-second-requires c =
    let s = seen c.args.doc.now c.args.bytes.now c.args.value c.node_at-array.result c.requires.read
    (kind_within c.args.doc.now.nodes c.args.value kinds.Array c.requires.kind) c.node_at-array.ensures in
    omega (arith, s.inside, c.if-first-array.false)

pub returns-then-second-array : goal.returns-then-second-array
returns-then-second-array c start blank elements h =
    let nodes = c.args.doc.now.nodes in let bytes = c.args.bytes.now in let node = c.node_at-array.result in let got =
    c.node_at-array.ensures in
    let is = first_is nodes bytes c.args.value start (array blank elements) node h got in
    let end = start + length (spelling (array blank elements)) in
    let left = array_left nodes bytes c.args.value start blank elements node h got in
    ap Err c.shape_at-then-second-array.ensures ∙ ap (λ (n : Node). Err (Shape n.start)) is
    ∙ no_second nodes bytes c.args.exact start end (c.args.value + 1) node.next (inner_place start blank) elements left
    c.node_at-second.result c.node_at-second.ensures (omega (arith, c.if-first-array.false)) c.if-second-array.true

pub read_number-x-requires-clause-node : goal.read_number-x-requires-clause-node
read_number-x-requires-clause-node c =
    let s = seen c.args.doc.now c.args.bytes.now c.args.value c.node_at-array.result c.requires.read
    (kind_within c.args.doc.now.nodes c.args.value kinds.Array c.requires.kind) c.node_at-array.ensures in
    omega (arith, s.inside, c.if-first-array.false)

pub read_number-y-requires-clause-node : goal.read_number-y-requires-clause-node
read_number-y-requires-clause-node c =
    let s = seen c.args.doc.now c.args.bytes.now c.args.value c.node_at-array.result c.requires.read
    (kind_within c.args.doc.now.nodes c.args.value kinds.Array c.requires.kind) c.node_at-array.ensures in
    omega (arith, s.inside, c.if-second-array.false)

pub node_at-third-requires : goal.node_at-third-requires
node_at-third-requires c =
    let s = seen c.args.doc.now c.args.bytes.now c.args.value c.node_at-array.result c.requires.read
    (kind_within c.args.doc.now.nodes c.args.value kinds.Array c.requires.kind) c.node_at-array.ensures in
    omega (arith, s.inside, c.if-second-array.false)

pub returns-then-third-array : goal.returns-then-third-array
returns-then-third-array c start blank elements h =
    let nodes = c.args.doc.now.nodes in let bytes = c.args.bytes.now in let node = c.node_at-array.result in let got =
    c.node_at-array.ensures in
    let is = first_is nodes bytes c.args.value start (array blank elements) node h got in
    let end = start + length (spelling (array blank elements)) in
    let left = array_left nodes bytes c.args.value start blank elements node h got in
    c.combine.ensures
    ∙ ap (λ (n : Node). position_from n.start n.end c.read_number-x.result c.read_number-y.result (Ok None)) is
    ∙ no_third nodes bytes c.args.exact start end (c.args.value + 1) node.next (inner_place start blank) elements left
    c.node_at-second.result c.node_at-second.ensures (omega (arith, c.if-first-array.false))
    c.node_at-third.result c.node_at-third.ensures (omega (arith, c.if-second-array.false))
    c.read_number-x.result c.read_number-y.result c.read_number-x.ensures c.read_number-y.ensures
    c.if-third-array.true

pub node_at-fourth-requires : goal.node_at-fourth-requires
node_at-fourth-requires c =
    let s = seen c.args.doc.now c.args.bytes.now c.args.value c.node_at-array.result c.requires.read
    (kind_within c.args.doc.now.nodes c.args.value kinds.Array c.requires.kind) c.node_at-array.ensures in
    omega (arith, s.inside, c.if-third-array.false)

pub node_at-requires : goal.node_at-requires
node_at-requires c =
    let s = seen c.args.doc.now c.args.bytes.now c.args.value c.node_at-array.result c.requires.read
    (kind_within c.args.doc.now.nodes c.args.value kinds.Array c.requires.kind) c.node_at-array.ensures in
    omega (arith, s.inside, c.if-fourth-array.true)

pub returns-then-fourth-array : goal.returns-then-fourth-array
returns-then-fourth-array c start blank elements h =
    let nodes = c.args.doc.now.nodes in let bytes = c.args.bytes.now in let node = c.node_at-array.result in let got =
    c.node_at-array.ensures in
    let is = first_is nodes bytes c.args.value start (array blank elements) node h got in
    let end = start + length (spelling (array blank elements)) in
    let left = array_left nodes bytes c.args.value start blank elements node h got in
    ap (λ at. Err (Height at)) c.from.ensures
    ∙ fourth_there nodes bytes c.args.exact start end (c.args.value + 1) node.next (inner_place start blank) elements
    left
    c.node_at-second.result c.node_at-second.ensures (omega (arith, c.if-first-array.false))
    c.node_at-third.result c.node_at-third.ensures (omega (arith, c.if-second-array.false))
    c.read_number-x.result c.read_number-y.result c.read_number-x.ensures c.read_number-y.ensures
    c.node_at-fourth.result c.node_at-fourth.ensures (omega (arith, c.if-third-array.false))
    c.node_at.result c.node_at.ensures c.if-fourth-array.true

pub read_number-requires-clause-node : goal.read_number-requires-clause-node
read_number-requires-clause-node c =
    let s = seen c.args.doc.now c.args.bytes.now c.args.value c.node_at-array.result c.requires.read
    (kind_within c.args.doc.now.nodes c.args.value kinds.Array c.requires.kind) c.node_at-array.ensures in
    omega (arith, s.inside, c.if-third-array.false)

pub returns : goal.returns
returns c start blank elements h =
    let nodes = c.args.doc.now.nodes in let bytes = c.args.bytes.now in let node = c.node_at-array.result in let got =
    c.node_at-array.ensures in
    let is = first_is nodes bytes c.args.value start (array blank elements) node h got in
    let end = start + length (spelling (array blank elements)) in
    let left = array_left nodes bytes c.args.value start blank elements node h got in
    c.combine-2.ensures
    ∙ ap (λ (n : Node). position_from n.start n.end c.read_number-x.result c.read_number-y.result c.as_height-z.result)
    is
    ∙ ap (position_from start end c.read_number-x.result c.read_number-y.result) c.as_height-z.ensures
    ∙ no_fourth nodes bytes c.args.exact start end (c.args.value + 1) node.next (inner_place start blank) elements left
    c.node_at-second.result c.node_at-second.ensures (omega (arith, c.if-first-array.false))
    c.node_at-third.result c.node_at-third.ensures (omega (arith, c.if-second-array.false))
    c.read_number-x.result c.read_number-y.result c.read_number-x.ensures c.read_number-y.ensures
    c.node_at-fourth.result c.node_at-fourth.ensures (omega (arith, c.if-third-array.false))
    c.read_number.result c.read_number.ensures (omega (arith, c.if-fourth-array.false))
