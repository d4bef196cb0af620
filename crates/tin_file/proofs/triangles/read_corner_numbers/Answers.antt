-- Answers to the goals of `read_corner_numbers` in src/triangles.rt.
use Rattle.std.proofs.Common.{◌≡◌, ◌<◌, ℕ, length, sym, ap, ◌∙◌, arith}
use Rattle.jtext.specs.Values.{null}
use Rattle.tin_file.specs.Triangles.{row_number_at}
use Rattle.tin_file.specs.RowContents.{placed_or_fault}
use Rattle.tin_file.proofs.DocumentValues.There.{node_at_place, there_at, as_many}
use Rattle.tin_file.proofs.FileRows.NumberRows.{triangle_in_so, not_triangle_in_so}
use Rattle.tin_file.proofs.triangles.read_corner_numbers.Goals as goal

pub returns-then-values-columns : goal.returns-then-values-columns
returns-then-values-columns c all h =
    ap (placed_or_fault c.args.numbers.now) (not_triangle_in_so c.args.columns (length c.args.numbers.now)
    c.args.triangle all
    (λ many. c.if-values-columns.true (as_many c.args.doc.now.nodes c.args.bytes.now c.args.values.now all h ∙ many)))

pub read_row_number-first-requires : goal.read_row_number-first-requires
read_row_number-first-requires c =
    node_at_place c.args.doc.now.nodes c.args.bytes.now c.args.values.now c.args.columns.first 0 c.requires.nodes
    (omega (arith, c.requires.columns.first, c.if-values-columns.false))

pub read_row_number-second-requires : goal.read_row_number-second-requires
read_row_number-second-requires c =
    node_at_place c.args.doc.now.nodes c.args.bytes.now c.args.values.now c.args.columns.second 0 c.requires.nodes
    (omega (arith, c.requires.columns.second, c.if-values-columns.false))

pub read_row_number-third-requires : goal.read_row_number-third-requires
read_row_number-third-requires c =
    node_at_place c.args.doc.now.nodes c.args.bytes.now c.args.values.now c.args.columns.third 0 c.requires.nodes
    (omega (arith, c.requires.columns.third, c.if-values-columns.false))

pub returns : goal.returns
returns c all h =
    let nodes = c.args.doc.now.nodes in let bytes = c.args.bytes.now in
    let many : length c.args.values.now ≡ c.args.columns.count = c.if-values-columns.false in
    let at : (place : ℕ) → place < c.args.columns.count
    → place < length c.args.values.now = λ place below. omega (arith, many, below) in
    let there = λ (place : ℕ) (below : place < c.args.columns.count). there_at nodes bytes c.args.values.now all place 0
    null h (at place below) in
    c.place.ensures (row_number_at all c.args.columns.first) (row_number_at all c.args.columns.second)
    (row_number_at all c.args.columns.third)
    (c.read_row_number-first.ensures _ (there c.args.columns.first c.requires.columns.first))
    (c.read_row_number-second.ensures _ (there c.args.columns.second c.requires.columns.second))
    (c.read_row_number-third.ensures _ (there c.args.columns.third c.requires.columns.third))
    ∙ ap (placed_or_fault c.args.numbers.now)
    (triangle_in_so c.args.columns (length c.args.numbers.now) c.args.triangle all
    (sym (as_many nodes bytes c.args.values.now all h) ∙ many))
