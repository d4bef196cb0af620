-- Answers to the goals of `add_rows` in src/vertices.rt.
use Rattle.std.proofs.Common.{◌+◌, ◌∷◌, ◌++◌, [], List, drop, get_or, arith, refl, subst}
use Rattle.jtext.specs.Values.{null}
use Rattle.tin_file.specs.Vertices.{vertex_of, vertex_rows}
use Rattle.tin_file.specs.RowContents.{AreCollected}
use Rattle.tin_file.specs.declared.vertices.VertexRow.{VertexRow}
use Rattle.tin_file.proofs.DocumentValues.There.{node_at_place, there_at}
use Rattle.tin_file.proofs.DocumentValues.Loops.{values_on, values_done}
use Rattle.tin_file.proofs.FileRows.RowLists.{AreRead, equals_ok, passes, gives_done, row_read, row_refused, rows_end}
use Rattle.tin_file.proofs.vertices.add_rows.Goals as goal

pub read_vertex-requires-clause-node : goal.read_vertex-requires-clause-node
read_vertex-requires-clause-node c =
    node_at_place c.args.doc.now.nodes c.args.bytes.now c.args.rows.now c.loop-row.row 0 c.requires.nodes
    c.loop-row-test.true

pub returns-in_err-vertex : goal.returns-in_err-vertex
returns-in_err-vertex c all h =
    let nodes = c.args.doc.now.nodes in let bytes = c.args.bytes.now in let i = c.loop-row.row in
    let of_row = vertex_of c.args.how c.args.columns in let rows = vertex_rows c.args.how c.args.columns in
    let (done, are, read) = c.loop-row.invariant.2 all h in
    let here = subst (λ rest. AreRead of_row rows done i rest (rows 0 all))
    (values_on nodes bytes c.args.rows.now all h i c.loop-row-test.true) read in
    let fault = c.in_err-vertex.field-0.0 in
    passes (λ (done' : Unit {0}) (rows' : List VertexRow). AreCollected c.loop-row.vertices c.loop-row.seen rows') fault
    (of_row i (get_or all i null)) (rows 0 all) c.from_residual.result c.from_residual.ensures.1
    (c.in_err-vertex.ensures.vertex (get_or all i null)
    (there_at nodes bytes c.args.rows.now all i 0 null h c.loop-row-test.true))
    (row_refused of_row rows ((λ n. refl), (λ n value values. refl)) done i (rows 0 all) (get_or all i null)
    (drop (i + 1) all) fault here)

pub loop-row-preserved : goal.loop-row-preserved
loop-row-preserved c = (
  omega (arith, c.loop-row.invariant.0, c.in_ok-add.ensures.count),
  omega (arith, c.loop-row.invariant.1, c.in_ok-add.ensures.inexact, c.in_ok-vertex.ensures.small),
  λ all h.
      let nodes = c.args.doc.now.nodes in let bytes = c.args.bytes.now in let i = c.loop-row.row in
      let of_row = vertex_of c.args.how c.args.columns in let rows = vertex_rows c.args.how c.args.columns in
      let (done, are, read) = c.loop-row.invariant.2 all h in
      let here = subst (λ rest. AreRead of_row rows done i rest (rows 0 all))
      (values_on nodes bytes c.args.rows.now all h i c.loop-row-test.true) read in (
        done ++ c.in_ok-vertex.vertex ∷ [],
        c.in_ok-add.ensures.added done are,
        row_read of_row rows ((λ n. refl), (λ n value values. refl)) done i (rows 0 all) (get_or all i null)
            (drop (i + 1) all) c.in_ok-vertex.vertex here
            (equals_ok c.in_ok-vertex.vertex (of_row i (get_or all i null))
            (c.in_ok-vertex.ensures.vertex (get_or all i null)
            (there_at nodes bytes c.args.rows.now all i 0 null h c.loop-row-test.true))),
      ),
)

pub returns : goal.returns
returns c all h =
    let nodes = c.args.doc.now.nodes in let bytes = c.args.bytes.now in let i = c.loop-row.row in
    let of_row = vertex_of c.args.how c.args.columns in let rows = vertex_rows c.args.how c.args.columns in
    let (done, are, read) = c.loop-row.invariant.2 all h in
    let here = subst (λ rest. AreRead of_row rows done i rest (rows 0 all))
    (values_done nodes bytes c.args.rows.now all h i c.loop-row-test.false) read in
    gives_done (λ (done' : Unit {0}) (rows' : List VertexRow). AreCollected c.loop-row.vertices c.loop-row.seen rows')
    (record {}) done (rows 0 all) (rows_end of_row rows ((λ n. refl), (λ n value values. refl)) done i (rows 0 all)
    here)
    are
