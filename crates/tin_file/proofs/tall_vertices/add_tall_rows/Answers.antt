-- Answers to the goals of `add_tall_rows` in src/tall_vertices.rt.
use Rattle.std.proofs.Common.{rules, to_z, of_z, SFits, ◌≡◌, ◌+◌, ◌∷◌, ◌++◌, [], List, drop, get_or, arith, subst}
use Rattle.std.proofs.lemmas.Int.{to_z-of_z}
use mir.Syntax.{w64}
use Rattle.jtext.specs.Values.{null}
use Rattle.tin_file.specs.TallVertices.{vertices_in, offsets_of, tall_of, agreeing, tall_rows}
use Rattle.tin_file.specs.InsideTallRows.{AreTallGathered}
use Rattle.tin_file.specs.declared.tall_vertices.TallVertex.{TallVertex}
use Rattle.tin_file.proofs.DocumentValues.There.{node_at_place, there_at}
use Rattle.tin_file.proofs.DocumentValues.Loops.{values_on, values_done}
use Rattle.tin_file.proofs.FileRows.RowLists.{equals_ok, passes, gives_done}
use Rattle.tin_file.proofs.CallerLemmas.RowsRead.{ok_of}
use Rattle.tin_file.proofs.VerticalComponent.TallSteps.{AreTallRead, row_refused, row_differs, is_added, row_read, all_read, err_equals}
use Rattle.tin_file.proofs.tall_vertices.add_tall_rows.Goals as goal

pub read_tall_vertex-requires-clause-node : goal.read_tall_vertex-requires-clause-node
read_tall_vertex-requires-clause-node c =
    node_at_place c.args.doc.now.nodes c.args.bytes.now c.args.rows.now c.loop-row.row 0 c.requires.nodes
    c.loop-row-test.true

pub returns-in_err-tall : goal.returns-in_err-tall
returns-in_err-tall c all h =
    let nodes = c.args.doc.now.nodes in let bytes = c.args.bytes.now in let i = c.loop-row.row in
    let how = c.args.how in let columns = c.args.columns in let whole = tall_rows how columns [] all in
    let value = get_or all i null in let rest = drop (i + 1) all in
    let (talls, read) = c.loop-row.invariant.2 all h in
    let here = subst (λ more. AreTallRead how columns c.loop-row.done c.loop-row.seen i more whole talls)
    (values_on nodes bytes c.args.rows.now all h i c.loop-row-test.true) read in
    let fault = c.in_err-tall.field-0.0 in
    passes _ fault (tall_of how columns i value) whole c.from_residual.result c.from_residual.ensures.1
    (c.in_err-tall.ensures.tall value (there_at nodes bytes c.args.rows.now all i 0 null h c.loop-row-test.true))
    (row_refused how columns c.loop-row.done c.loop-row.seen i value rest whole talls here fault)

pub returns-in_err-keep_offset : goal.returns-in_err-keep_offset
returns-in_err-keep_offset c all h =
    let nodes = c.args.doc.now.nodes in let bytes = c.args.bytes.now in let i = c.loop-row.row in
    let how = c.args.how in let columns = c.args.columns in let whole = tall_rows how columns [] all in
    let value = get_or all i null in let rest = drop (i + 1) all in
    let (talls, read) = c.loop-row.invariant.2 all h in
    let here = subst (λ more. AreTallRead how columns c.loop-row.done c.loop-row.seen i more whole talls)
    (values_on nodes bytes c.args.rows.now all h i c.loop-row-test.true) read in
    let one = c.in_ok-tall.tall in
    let is = equals_ok one (tall_of how columns i value)
    (c.in_ok-tall.ensures.tall value (there_at nodes bytes c.args.rows.now all i 0 null h c.loop-row-test.true)) in
    let f : SFits w64 one.offset = search rules in
    let same : to_z w64 (of_z w64 one.offset) ≡ one.offset = simp to_z-of_z in
    let added = is_added how columns c.loop-row.done c.loop-row.seen i value rest whole talls here one is
    c.add.new.vertices c.add.new.seen _ (c.in_ok-add.ensures.added (vertices_in talls) here.collected) same in
    let fault = c.in_err-keep_offset.field-0.0 in
    passes _ fault (agreeing talls one) whole c.from_residual-in_err-keep_offset.result
    c.from_residual-in_err-keep_offset.ensures.1
    (err_equals (λ (done : Unit {0}) (kept : TallVertex). c.keep_offset.new.offsets.items ≡ offsets_of (talls ++ one ∷ []))
    fault (agreeing talls one) (c.in_err-keep_offset.ensures talls one added))
    (row_differs how columns c.loop-row.done c.loop-row.seen i value rest whole talls here one is fault)

pub loop-row-preserved : goal.loop-row-preserved
loop-row-preserved c = (
  omega (arith, c.loop-row.invariant.0, c.in_ok-add.ensures.count),
  omega (arith, c.loop-row.invariant.1, c.in_ok-add.ensures.inexact, c.in_ok-tall.ensures.small),
  λ all h.
      let nodes = c.args.doc.now.nodes in let bytes = c.args.bytes.now in let i = c.loop-row.row in
      let how = c.args.how in let columns = c.args.columns in let whole = tall_rows how columns [] all in
      let value = get_or all i null in let rest = drop (i + 1) all in
      let (talls, read) = c.loop-row.invariant.2 all h in
      let here = subst (λ more. AreTallRead how columns c.loop-row.done c.loop-row.seen i more whole talls)
      (values_on nodes bytes c.args.rows.now all h i c.loop-row-test.true) read in
      let one = c.in_ok-tall.tall in
      let is = equals_ok one (tall_of how columns i value)
      (c.in_ok-tall.ensures.tall value (there_at nodes bytes c.args.rows.now all i 0 null h c.loop-row-test.true)) in
      let collected = c.in_ok-add.ensures.added (vertices_in talls) here.collected in
      let f : SFits w64 one.offset = search rules in
      let same : to_z w64 (of_z w64 one.offset) ≡ one.offset = simp to_z-of_z in
      let added = is_added how columns c.loop-row.done c.loop-row.seen i value rest whole talls here one is
      c.add.new.vertices c.add.new.seen _ collected same in
      let (kept, agrees, offsets) = ok_of
      (λ (done : Unit {0}) (kept : TallVertex). c.keep_offset.new.offsets.items ≡ offsets_of (talls ++ one ∷ []))
      c.in_ok-keep_offset.field-0 (agreeing talls one) (c.in_ok-keep_offset.ensures talls one added) in (
        talls ++ one ∷ [],
        row_read how columns c.loop-row.done c.loop-row.seen i value rest whole talls here one is
            (record { vertices = c.add.new.vertices; offsets = c.keep_offset.new.offsets }) c.add.new.seen kept
            collected agrees offsets,
      ),
)

pub returns : goal.returns
returns c all h =
    let nodes = c.args.doc.now.nodes in let bytes = c.args.bytes.now in let i = c.loop-row.row in
    let how = c.args.how in let columns = c.args.columns in let whole = tall_rows how columns [] all in
    let (talls, read) = c.loop-row.invariant.2 all h in
    let here = subst (λ more. AreTallRead how columns c.loop-row.done c.loop-row.seen i more whole talls)
    (values_done nodes bytes c.args.rows.now all h i c.loop-row-test.false) read in
    let (ended, gathered) = all_read how columns c.loop-row.done c.loop-row.seen i whole talls here in
    gives_done (λ (passed : Unit {0}) (talls : List TallVertex). AreTallGathered c.loop-row.done talls) (record {})
    talls whole ended gathered
