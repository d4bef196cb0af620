-- Answers to the goals of `read_rows` in src/tin_files.rt.
use Rattle.std.proofs.Common.{◌≡◌, List, ℕ, map, length, sym, ap, ◌∙◌, Vec, Global}
use Rattle.tin_file.specs.Keys.{and_then}
use Rattle.tin_file.specs.Vertices.{vertices}
use Rattle.tin_file.specs.Triangles.{triangles}
use Rattle.tin_file.specs.TinFiles.{rows_of, within_spans}
use Rattle.tin_file.specs.RowContents.{AreGathered, face_corners}
use Rattle.tin_file.proofs.DocumentValues.There.{members_there}
use Rattle.tin_file.proofs.DocumentValues.Sequels.{equals_is, fault_stays}
use Rattle.tin_file.proofs.FileRows.RowLists.{passed_on}
use Rattle.tin_file.proofs.CallerLemmas.RowsRead.{ok_of}
use Rattle.tin_file.proofs.CallerLemmas.Whole.{numbers_few, complete, rows_so}
use Rattle.tin_file.proofs.tin_files.read_rows.Goals as goal

pub find_triangles-requires-clause-few : goal.find_triangles-requires-clause-few
find_triangles-requires-clause-few c =
    let (members, h) = members_there c.args.doc.now c.args.bytes.now c.requires.read c.requires.object in
    let (rows, is, gathered) = ok_of AreGathered c.in_ok-vertices.vertices
    (vertices c.args.how c.args.columns.vertices members) (c.in_ok-vertices.ensures members h) in
    numbers_few c.args.how c.args.columns members c.in_ok-vertices.vertices rows is gathered c.deref.result.now
    c.deref.ensures.value

pub returns-in_err-triangles : goal.returns-in_err-triangles
returns-in_err-triangles c members h =
    let numbers = c.deref.result.now in
    let (rows, is, gathered) = ok_of AreGathered c.in_ok-vertices.vertices
    (vertices c.args.how c.args.columns.vertices members) (c.in_ok-vertices.ensures members h) in
    let Made : Vec (List ℕ) Global → List (List ℕ) → Type 0 = λ made faces. made.items ≡ map (face_corners numbers) faces in
    let fault = c.in_err-triangles.field-0.0 in
    rw (
      passed_on fault c.from_residual-in_err-triangles.result c.from_residual-in_err-triangles.ensures.1,
      rows_so c.args.how c.args.columns members c.in_ok-vertices.vertices rows is gathered numbers
          c.deref.ensures.value,
    )
    (fault_stays Made (λ one other. one ≡ other) (within_spans rows) fault
    (triangles c.args.columns.triangles (length numbers) members) (c.in_err-triangles.ensures members h))

pub finish-requires : goal.finish-requires
finish-requires c =
    let numbers = c.deref.result.now in
    let (members, h) = members_there c.args.doc.now c.args.bytes.now c.requires.read c.requires.object in
    let (rows, is, gathered) = ok_of AreGathered c.in_ok-vertices.vertices
    (vertices c.args.how c.args.columns.vertices members) (c.in_ok-vertices.ensures members h) in
    let Made : Vec (List ℕ) Global → List (List ℕ) → Type 0 = λ made faces. made.items ≡ map (face_corners numbers) faces in
    let (faces, found, placed_so) = ok_of Made c.in_ok-triangles.triangles
    (triangles c.args.columns.triangles (length numbers) members) (c.in_ok-triangles.ensures members h) in (
      rows,
      faces,
      complete c.args.how c.args.columns members c.in_ok-vertices.vertices rows is gathered numbers
          c.deref.ensures.value c.in_ok-triangles.triangles.items faces found placed_so,
    )

pub returns : goal.returns
returns c members h =
    let numbers = c.deref.result.now in
    let (rows, is, gathered) = ok_of AreGathered c.in_ok-vertices.vertices
    (vertices c.args.how c.args.columns.vertices members) (c.in_ok-vertices.ensures members h) in
    let Made : Vec (List ℕ) Global → List (List ℕ) → Type 0 = λ made faces. made.items ≡ map (face_corners numbers) faces in
    let (faces, found, placed_so) = ok_of Made c.in_ok-triangles.triangles
    (triangles c.args.columns.triangles (length numbers) members) (c.in_ok-triangles.ensures members h) in
    let done = complete c.args.how c.args.columns members c.in_ok-vertices.vertices rows is gathered numbers
    c.deref.ensures.value c.in_ok-triangles.triangles.items faces found placed_so in
    equals_is c.finish.result (rows_of c.args.how members c.args.columns)
    (c.finish.ensures rows faces done ∙ sym (ap (and_then (within_spans rows)) found)
    ∙ sym (rows_so c.args.how c.args.columns members c.in_ok-vertices.vertices rows is gathered numbers
    c.deref.ensures.value))
