-- Answers to the goals of `read_corner` in src/tall_vertices.rt.
use Rattle.std.proofs.Common.{◌<◌, ℕ, length, ◌∙◌, subst, arith}
use Rattle.jtext.specs.Values.{null}
use Rattle.tin_file.specs.InsideTallRows.{IsTargetBelow}
use Rattle.tin_file.proofs.DocumentValues.There.{node_at_place, there_at}
use Rattle.tin_file.proofs.VerticalComponent.TallElements.{own_corner_so, still_corner_so}
use Rattle.tin_file.proofs.tall_vertices.read_corner.Goals as goal

pub read_number-sx-requires : goal.read_number-sx-requires
read_number-sx-requires c =
    node_at_place c.args.doc.now.nodes c.args.bytes.now c.args.values.now c.args.columns.source_x 0 c.requires.nodes
    (omega (arith, c.requires.columns.source_x, c.requires.many))

pub read_number-sy-requires : goal.read_number-sy-requires
read_number-sy-requires c =
    node_at_place c.args.doc.now.nodes c.args.bytes.now c.args.values.now c.args.columns.source_y 0 c.requires.nodes
    (omega (arith, c.requires.columns.source_y, c.requires.many))

pub read_number-tx-requires : goal.read_number-tx-requires
read_number-tx-requires c =
    let below = subst (IsTargetBelow c.args.columns.count) c.in-Own.is c.requires.columns.target in
    node_at_place c.args.doc.now.nodes c.args.bytes.now c.args.values.now c.in-Own.x 0 c.requires.nodes
    (omega (arith, below.0, c.requires.many))

pub read_number-ty-requires : goal.read_number-ty-requires
read_number-ty-requires c =
    let below = subst (IsTargetBelow c.args.columns.count) c.in-Own.is c.requires.columns.target in
    node_at_place c.args.doc.now.nodes c.args.bytes.now c.args.values.now c.in-Own.y 0 c.requires.nodes
    (omega (arith, below.1, c.requires.many))

pub returns-in-Own-clause-vertex : goal.returns-in-Own-clause-vertex
returns-in-Own-clause-vertex c all h =
    let below = subst (IsTargetBelow c.args.columns.count) c.in-Own.is c.requires.columns.target in
    let at : (place : ℕ) → place < c.args.columns.count → place < length c.args.values.now =
    λ place inside. omega (arith, c.requires.many, inside) in
    let there = λ (place : ℕ) (inside : place < c.args.columns.count). there_at c.args.doc.now.nodes c.args.bytes.now
    c.args.values.now all place 0 null h (at place inside) in
    c.combine.ensures.vertex
    ∙ own_corner_so c.args.how c.args.columns c.args.row all c.in-Own.x c.in-Own.y c.in-Own.is c.read_number-sx.result
    c.read_number-sy.result c.read_number-tx.result c.read_number-ty.result
    (c.read_number-sx.ensures _ (there c.args.columns.source_x c.requires.columns.source_x))
    (c.read_number-sy.ensures _ (there c.args.columns.source_y c.requires.columns.source_y))
    (c.read_number-tx.ensures _ (there c.in-Own.x below.0)) (c.read_number-ty.ensures _ (there c.in-Own.y below.1))

pub returns-in-OfSource-clause-vertex : goal.returns-in-OfSource-clause-vertex
returns-in-OfSource-clause-vertex c all h =
    let at : (place : ℕ) → place < c.args.columns.count → place < length c.args.values.now =
    λ place inside. omega (arith, c.requires.many, inside) in
    let there = λ (place : ℕ) (inside : place < c.args.columns.count). there_at c.args.doc.now.nodes c.args.bytes.now
    c.args.values.now all place 0 null h (at place inside) in
    c.combine_source.ensures.vertex
    ∙ still_corner_so c.args.how c.args.columns c.args.row all c.in-OfSource.is c.read_number-sx.result
    c.read_number-sy.result
    (c.read_number-sx.ensures _ (there c.args.columns.source_x c.requires.columns.source_x))
    (c.read_number-sy.ensures _ (there c.args.columns.source_y c.requires.columns.source_y))
