-- Answers to the goals of `find_triangles` in src/tin_files.rt.
use Rattle.std.proofs.Common.{◌≡◌, List, ℕ, map, length, sym, subst, Vec, Global}
use Rattle.jtext.specs.Values.{Json}
use Rattle.tin_base.specs.declared.limits.TheConstants.{MOST_TRIANGLES}
use Rattle.tin_file.specs.Keys.{needed_list, and_then}
use Rattle.tin_file.specs.Vertices.{few}
use Rattle.tin_file.specs.Triangles.{triangles, triangle_rows}
use Rattle.tin_file.specs.InsideNodes.{AreThere, AreNodes, Gives}
use Rattle.tin_file.specs.RowContents.{face_corners}
use Rattle.tin_file.specs.declared.faults.Top.TheVariants as tops
use Rattle.tin_file.specs.declared.faults.Rows.TheVariants as lists
use Rattle.tin_file.proofs.DocumentValues.There.{members_there}
use Rattle.tin_file.proofs.DocumentValues.Sequels.{fault_stays, then_made}
use Rattle.tin_file.proofs.FileRows.RowLists.{passed_on}
use Rattle.tin_file.proofs.FileRows.FoundRows.{rows_found}
use Rattle.tin_file.proofs.tin_files.find_triangles.Goals as goal

pub returns-in_err-rows : goal.returns-in_err-rows
unfolding triangles
returns-in_err-rows c members h =
    let nodes = c.args.doc.now.nodes in let bytes = c.args.bytes.now in
    let AreRows : Vec ℕ Global → List Json → Type 0 = λ rows values. AreThere nodes bytes rows.items values in
    let Made : Vec (List ℕ) Global → List (List ℕ)
    → Type 0 = λ made faces. made.items ≡ map (face_corners c.args.numbers.now) faces in
    let fault = c.in_err-rows.field-0.0 in
    subst (λ r. Gives Made r (and_then (triangle_rows c.args.columns (length c.args.numbers.now) 0)
    (and_then (few lists.Triangles MOST_TRIANGLES) (needed_list tops.Triangles members))))
    (sym (passed_on fault c.from_residual.result c.from_residual.ensures.1))
    (fault_stays AreRows Made (triangle_rows c.args.columns (length c.args.numbers.now) 0) fault
    (and_then (few lists.Triangles MOST_TRIANGLES) (needed_list tops.Triangles members))
    (c.in_err-rows.ensures.rows members h))

pub read_triangles-requires-clause-nodes : goal.read_triangles-requires-clause-nodes
read_triangles-requires-clause-nodes c =
    let nodes = c.args.doc.now.nodes in let bytes = c.args.bytes.now in
    let (members, h) = members_there c.args.doc.now bytes c.requires.read c.requires.object in
    subst (AreNodes nodes bytes) (sym c.deref.ensures.value)
    (rows_found nodes bytes c.in_ok-rows.rows
    (and_then (few lists.Triangles MOST_TRIANGLES) (needed_list tops.Triangles members))
    (c.in_ok-rows.ensures.rows members h))

pub returns : goal.returns
unfolding triangles
returns c members h =
    let nodes = c.args.doc.now.nodes in let bytes = c.args.bytes.now in
    let AreRows : Vec ℕ Global → List Json → Type 0 = λ rows values. AreThere nodes bytes rows.items values in
    let Made : Vec (List ℕ) Global → List (List ℕ)
    → Type 0 = λ made faces. made.items ≡ map (face_corners c.args.numbers.now) faces in
    then_made AreRows Made (triangle_rows c.args.columns (length c.args.numbers.now) 0) c.in_ok-rows.rows
    (and_then (few lists.Triangles MOST_TRIANGLES) (needed_list tops.Triangles members)) c.read_triangles.result
    (c.in_ok-rows.ensures.rows members h)
    (λ values are. c.read_triangles.ensures values
    (subst (λ numbers. AreThere nodes bytes numbers values) (sym c.deref.ensures.value) are))
