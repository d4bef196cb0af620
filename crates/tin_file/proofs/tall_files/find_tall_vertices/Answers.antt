-- Answers to the goals of `find_tall_vertices` in src/tall_files.rt.
use Rattle.std.proofs.Common.{List, [], ℕ, sym, subst, Vec, Global}
use Rattle.jtext.specs.Values.{Json}
use Rattle.tin_base.specs.declared.limits.TheConstants.{MOST_CORNERS}
use Rattle.tin_file.specs.Keys.{needed_list, and_then}
use Rattle.tin_file.specs.Vertices.{few}
use Rattle.tin_file.specs.TallVertices.{tall_vertices, tall_rows}
use Rattle.tin_file.specs.InsideNodes.{AreThere, AreNodes, Gives}
use Rattle.tin_file.specs.InsideTallRows.{AreTallGathered}
use Rattle.tin_file.specs.declared.faults.Top.TheVariants as tops
use Rattle.tin_file.specs.declared.faults.Rows.TheVariants as lists
use Rattle.tin_file.proofs.DocumentValues.There.{members_there}
use Rattle.tin_file.proofs.DocumentValues.Sequels.{fault_stays, then_made}
use Rattle.tin_file.proofs.FileRows.RowLists.{passed_on}
use Rattle.tin_file.proofs.FileRows.FoundRows.{rows_found}
use Rattle.tin_file.proofs.tall_files.find_tall_vertices.Goals as goal

pub returns-in_err-rows : goal.returns-in_err-rows
unfolding tall_vertices
returns-in_err-rows c members h =
    let nodes = c.args.doc.now.nodes in let bytes = c.args.bytes.now in
    let AreRows : Vec ℕ Global → List Json → Type 0 = λ rows values. AreThere nodes bytes rows.items values in
    let Made = AreTallGathered in
    let fault = c.in_err-rows.field-0.0 in
    subst (λ r. Gives Made r (and_then (tall_rows c.args.how c.args.columns [])
    (and_then (few lists.Vertices MOST_CORNERS) (needed_list tops.Vertices members))))
    (sym (passed_on fault c.from_residual.result c.from_residual.ensures.1))
    (fault_stays AreRows Made (tall_rows c.args.how c.args.columns []) fault
    (and_then (few lists.Vertices MOST_CORNERS) (needed_list tops.Vertices members))
    (c.in_err-rows.ensures.rows members h))

pub read_tall_vertices-requires-clause-nodes : goal.read_tall_vertices-requires-clause-nodes
read_tall_vertices-requires-clause-nodes c =
    let nodes = c.args.doc.now.nodes in let bytes = c.args.bytes.now in
    let (members, h) = members_there c.args.doc.now bytes c.requires.read c.requires.object in
    subst (AreNodes nodes bytes) (sym c.deref.ensures.value)
    (rows_found nodes bytes c.in_ok-rows.rows
    (and_then (few lists.Vertices MOST_CORNERS) (needed_list tops.Vertices members))
    (c.in_ok-rows.ensures.rows members h))

pub returns : goal.returns
unfolding tall_vertices
returns c members h =
    let nodes = c.args.doc.now.nodes in let bytes = c.args.bytes.now in
    let AreRows : Vec ℕ Global → List Json → Type 0 = λ rows values. AreThere nodes bytes rows.items values in
    let Made = AreTallGathered in
    then_made AreRows Made (tall_rows c.args.how c.args.columns []) c.in_ok-rows.rows
    (and_then (few lists.Vertices MOST_CORNERS) (needed_list tops.Vertices members)) c.read_tall_vertices.result
    (c.in_ok-rows.ensures.rows members h)
    (λ values are. c.read_tall_vertices.ensures values
    (subst (λ numbers. AreThere nodes bytes numbers values) (sym c.deref.ensures.value) are))
