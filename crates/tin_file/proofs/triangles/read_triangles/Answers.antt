-- Answers to the goals of `read_triangles` in src/triangles.rt.
use Rattle.std.proofs.Common.{◌≡◌, ◌+◌, ◌∷◌, ◌++◌, [], ℕ, List, length, map, drop, get_or, refl, sym, ap, ◌∙◌, subst}
use Rattle.std.proofs.Common.{Vec, Global}
use Rattle.std.proofs.lemmas.List.{map-append}
use Rattle.jtext.specs.Values.{null}
use Rattle.tin_file.specs.InsideNodes.{Gives}
use Rattle.tin_file.specs.Triangles.{triangle_of, triangle_rows}
use Rattle.tin_file.specs.RowContents.{face_corners}
use Rattle.tin_file.proofs.DocumentValues.There.{node_at_place, there_at}
use Rattle.tin_file.proofs.DocumentValues.Loops.{values_on, values_done}
use Rattle.tin_file.proofs.FileRows.PlacedRows.{placed_ok, fault_of_face}
use Rattle.tin_file.proofs.FileRows.RowLists.{AreRead, passed_on, row_read, row_refused, rows_end}
use Rattle.tin_file.proofs.triangles.read_triangles.Goals as goal

pub read_triangle-requires-clause-node : goal.read_triangle-requires-clause-node
read_triangle-requires-clause-node c =
    node_at_place c.args.doc.now.nodes c.args.bytes.now c.args.rows.now c.loop-triangle.triangle 0 c.requires.nodes
    c.loop-triangle-test.true

pub returns-in_err-corners : goal.returns-in_err-corners
returns-in_err-corners c all h =
    let nodes = c.args.doc.now.nodes in let bytes = c.args.bytes.now in let i =
    c.loop-triangle.triangle in let numbers = c.args.numbers.now in
    let of_row = triangle_of c.args.columns (length numbers) in let rows =
    triangle_rows c.args.columns (length numbers) in
    let (done, are, read) = c.loop-triangle.invariant all h in
    let here = subst (λ rest. AreRead of_row rows done i rest (rows 0 all))
    (values_on nodes bytes c.args.rows.now all h i c.loop-triangle-test.true) read in
    let fault = c.in_err-corners.field-0.0 in
    let AreFaces : Vec (List ℕ) Global → List (List ℕ)
    → Type 0 = λ made faces. made.items ≡ map (face_corners numbers) faces in
    subst (λ r. Gives AreFaces r (rows 0 all))
    (sym (passed_on fault c.from_residual-in_err-corners.result c.from_residual-in_err-corners.ensures.1))
    (fault_of_face numbers AreFaces fault (of_row i (get_or all i null)) (rows 0 all)
    (c.in_err-corners.ensures (get_or all i null)
    (there_at nodes bytes c.args.rows.now all i 0 null h c.loop-triangle-test.true))
    (row_refused of_row rows ((λ n. refl), (λ n value values. refl)) done i (rows 0 all) (get_or all i null)
    (drop (i + 1) all) fault here))

pub loop-triangle-preserved : goal.loop-triangle-preserved
loop-triangle-preserved c all h =
    let nodes = c.args.doc.now.nodes in let bytes = c.args.bytes.now in let i =
    c.loop-triangle.triangle in let numbers = c.args.numbers.now in
    let of_row = triangle_of c.args.columns (length numbers) in let rows =
    triangle_rows c.args.columns (length numbers) in
    let (done, are, read) = c.loop-triangle.invariant all h in
    let here = subst (λ rest. AreRead of_row rows done i rest (rows 0 all))
    (values_on nodes bytes c.args.rows.now all h i c.loop-triangle-test.true) read in
    let (face, is, corners) = placed_ok numbers c.in_ok-corners.corners (of_row i (get_or all i null))
    (c.in_ok-corners.ensures (get_or all i null)
    (there_at nodes bytes c.args.rows.now all i 0 null h c.loop-triangle-test.true)) in (
      done ++ face ∷ [],
      c.in_ok-push.ensures.items ∙ ap (λ ts. ts ++ c.in_ok-corners.corners ∷ []) are
          ∙ ap (λ t. map (face_corners numbers) done ++ t ∷ []) corners
          ∙ sym (map-append (face_corners numbers) done (face ∷ [])),
      row_read of_row rows ((λ n. refl), (λ n value values. refl)) done i (rows 0 all) (get_or all i null)
          (drop (i + 1) all) face here is,
    )

pub returns : goal.returns
returns c all h =
    let nodes = c.args.doc.now.nodes in let bytes = c.args.bytes.now in let i =
    c.loop-triangle.triangle in let numbers = c.args.numbers.now in
    let of_row = triangle_of c.args.columns (length numbers) in let rows =
    triangle_rows c.args.columns (length numbers) in
    let (done, are, read) = c.loop-triangle.invariant all h in
    let here = subst (λ rest. AreRead of_row rows done i rest (rows 0 all))
    (values_done nodes bytes c.args.rows.now all h i c.loop-triangle-test.false) read in
    rw (rows_end of_row rows ((λ n. refl), (λ n value values. refl)) done i (rows 0 all) here) are
