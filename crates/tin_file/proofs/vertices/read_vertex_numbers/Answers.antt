-- Answers to the goals of `read_vertex_numbers` in src/vertices.rt.
use Rattle.std.proofs.Common.{◌≡◌, ◌<◌, ℕ, length, sym, ap, ◌∙◌, arith}
use Rattle.jtext.specs.Values.{null}
use Rattle.tin_file.specs.Vertices.{number_at, vertex_from}
use Rattle.tin_file.proofs.DocumentValues.There.{node_at_place, there_at, as_many}
use Rattle.tin_file.proofs.FileRows.NumberRows.{vertex_in_so, not_vertex_in_so}
use Rattle.tin_file.proofs.vertices.read_vertex_numbers.Goals as goal

pub returns-then-values-columns-clause-vertex : goal.returns-then-values-columns-clause-vertex
returns-then-values-columns-clause-vertex c all h =
    not_vertex_in_so c.args.how c.args.columns c.args.row all
    (λ many. c.if-values-columns.true (as_many c.args.doc.now.nodes c.args.bytes.now c.args.values.now all h ∙ many))

pub read_number-sx-requires : goal.read_number-sx-requires
read_number-sx-requires c =
    node_at_place c.args.doc.now.nodes c.args.bytes.now c.args.values.now c.args.columns.source_x 0 c.requires.nodes
    (omega (arith, c.requires.columns.source_x, c.if-values-columns.false))

pub read_number-sy-requires : goal.read_number-sy-requires
read_number-sy-requires c =
    node_at_place c.args.doc.now.nodes c.args.bytes.now c.args.values.now c.args.columns.source_y 0 c.requires.nodes
    (omega (arith, c.requires.columns.source_y, c.if-values-columns.false))

pub read_number-tx-requires : goal.read_number-tx-requires
read_number-tx-requires c =
    node_at_place c.args.doc.now.nodes c.args.bytes.now c.args.values.now c.args.columns.target_x 0 c.requires.nodes
    (omega (arith, c.requires.columns.target_x, c.if-values-columns.false))

pub read_number-ty-requires : goal.read_number-ty-requires
read_number-ty-requires c =
    node_at_place c.args.doc.now.nodes c.args.bytes.now c.args.values.now c.args.columns.target_y 0 c.requires.nodes
    (omega (arith, c.requires.columns.target_y, c.if-values-columns.false))

pub returns-clause-vertex : goal.returns-clause-vertex
returns-clause-vertex c all h =
    let nodes = c.args.doc.now.nodes in let bytes = c.args.bytes.now in
    let many : length c.args.values.now ≡ c.args.columns.count = c.if-values-columns.false in
    let at : (place : ℕ) → place < c.args.columns.count
    → place < length c.args.values.now = λ place below. omega (arith, many, below) in
    let there = λ (place : ℕ) (below : place < c.args.columns.count). there_at nodes bytes c.args.values.now all place 0
    null h (at place below) in
    c.combine.ensures.vertex
    ∙ ap (λ r. vertex_from r c.read_number-sy.result c.read_number-tx.result c.read_number-ty.result)
    (c.read_number-sx.ensures _ (there c.args.columns.source_x c.requires.columns.source_x))
    ∙ ap (λ r. vertex_from (number_at c.args.how c.args.row all c.args.columns.source_x) r c.read_number-tx.result
    c.read_number-ty.result)
    (c.read_number-sy.ensures _ (there c.args.columns.source_y c.requires.columns.source_y))
    ∙ ap (λ r. vertex_from (number_at c.args.how c.args.row all c.args.columns.source_x)
    (number_at c.args.how c.args.row all c.args.columns.source_y) r c.read_number-ty.result)
    (c.read_number-tx.ensures _ (there c.args.columns.target_x c.requires.columns.target_x))
    ∙ ap (vertex_from (number_at c.args.how c.args.row all c.args.columns.source_x)
    (number_at c.args.how c.args.row all c.args.columns.source_y)
    (number_at c.args.how c.args.row all c.args.columns.target_x))
    (c.read_number-ty.ensures _ (there c.args.columns.target_y c.requires.columns.target_y))
    ∙ vertex_in_so c.args.how c.args.columns c.args.row all (sym (as_many nodes bytes c.args.values.now all h) ∙ many)
