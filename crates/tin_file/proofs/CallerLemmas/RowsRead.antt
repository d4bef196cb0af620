-- What all rows are that are read.
use Rattle.std.proofs.Common.{◌≡◌, ℕ, suc, ◌+◌, ◌≤◌, List, [], ◌∷◌, length, Bool, true, false, refl, sym, ap}
use Rattle.std.proofs.Common.{subst, arith}
use Rattle.std.specs.Prelude.{◌==◌, if◌then◌else◌, Result, Ok, Err, ℤ}
use Rattle.std.specs.Prelude.{unsigned_abs}
use Rattle.std.specs.List.{AllByRecursion}
use Rattle.jtext.specs.Values.{Json, null, numeral, array}
use Rattle.mm_decimal.specs.AnswerValues.{millimetres_of}
use Rattle.mm_decimal.specs.declared.numerals.MmRead.{MmRead}
use Rattle.mm_decimal.specs.declared.numerals.NumFault.{NumFault}
use Rattle.mm_decimal.proofs.MeasuredAnswers.{read_within}
use Rattle.sheet_base.specs.declared.flags.How.{How}
use Rattle.tin_base.specs.Limits.{IsInReach, IsCornerInReach}
use Rattle.tin_base.specs.declared.frames.Frame.TheVariants as frames
use Rattle.tin_file.specs.Keys.{values_in}
use Rattle.tin_file.specs.Vertices.{number_or_fault, number_in, number_at, vertex_from, vertex_of, vertex_rows, in_front}
use Rattle.tin_file.specs.Triangles.{triangle_rows}
use Rattle.tin_file.specs.RowContents.{corners_in, AreInReach, IsBelow}
use Rattle.tin_file.specs.InsideNodes.{Gives}
use Rattle.tin_file.specs.declared.columns.VertexColumns.{VertexColumns}
use Rattle.tin_file.specs.declared.columns.TriangleColumns.{TriangleColumns}
use Rattle.tin_file.specs.declared.vertices.VertexRow.{VertexRow}
use Rattle.tin_file.specs.declared.faults.TinFault.{TinFault}
use Rattle.tin_file.specs.declared.faults.TinFault.TheVariants.{Row}
use Rattle.tin_file.specs.declared.faults.Rows.TheVariants as lists

pub ok_of : {A B : Type 0} (R : A → B → Type 0) (one : A) (r : Result B TinFault) → Gives R (Ok one) r
    → (other : B) × (r ≡ Ok other) × R one other
ok_of R one r h = grind arith

pub same_ok : {A : Type 0} (x y : A) → ◌≡◌ {A = Result A TinFault} (Ok x) (Ok y) → x ≡ y
same_ok x y h = cc

-- ---- numbers are in reach
by_abs : (z : ℤ) → unsigned_abs z ≤ 1000000000000000 → IsInReach z
by_abs z h = grind arith

read_reach : (text : List ℕ) (read : MmRead) → millimetres_of text ≡ Ok read → IsInReach read.mm
read_reach text read is = by_abs read.mm (read_within text read is)

accepted_is : (how : How) (row : ℕ) (r : Result MmRead NumFault) (read : MmRead) → number_or_fault how row r ≡ Ok read
    → r ≡ Ok read
accepted_is how row r read h = grind (arith, same_ok)

pub number_reach : (how : How) (row : ℕ) (value : Json) (read : MmRead) → number_in how row value ≡ Ok read
    → IsInReach read.mm
number_reach how row (numeral text) read h = read_reach text read (accepted_is how row (millimetres_of text) read h)
number_reach how row _ read h = cc

abbrev pub ReachOk : Result MmRead TinFault → Type 0
ReachOk r = (read : MmRead) → r ≡ Ok read → IsInReach read.mm

abbrev pub VertexOk : VertexRow → Type 0
VertexOk vertex = IsCornerInReach frames.Source vertex.corner × IsCornerInReach frames.Target vertex.corner

pub from_reach : (a b c d : Result MmRead TinFault) → ReachOk a → ReachOk b → ReachOk c → ReachOk d → (vertex : VertexRow)
    → vertex_from a b c d ≡ Ok vertex → VertexOk vertex
from_reach a b c d h i j k vertex is = grind (arith, same_ok)

vertex_reach : (how : How) (columns : VertexColumns) (row : ℕ) (value : Json) (vertex : VertexRow)
    → vertex_of how columns row value ≡ Ok vertex → VertexOk vertex
vertex_reach how columns row (array blank elements) vertex h =
    by_test (length (values_in elements) == columns.count) h
  where
    by_test : (test : Bool) → (if test then vertex_from (number_at how row (values_in elements) columns.source_x)
        (number_at how row (values_in elements) columns.source_y)
        (number_at how row (values_in elements) columns.target_x) (number_at how row (values_in elements) columns.target_y)
        else Err (Row lists.Vertices row)) ≡ Ok vertex → VertexOk vertex
    by_test false h = cc
    by_test true h = from_reach _ _ _ _ (number_reach how row _) (number_reach how row _) (number_reach how row _)
        (number_reach how row _) vertex h
vertex_reach how columns row null vertex h = cc
vertex_reach how columns row _ vertex h = cc

-- the first of rows that are read, and the others
split_front : {A : Type 0} (one : Result A TinFault) (more : Result (List A) TinFault) (all : List A)
    → in_front one more ≡ Ok all
    → (x : A) × (xs : List A) × (one ≡ Ok x) × (more ≡ Ok xs) × (x ∷ xs ≡ all)
split_front (Ok x) (Ok xs) all h = (x, xs, refl, refl, same_ok (x ∷ xs) all h)
split_front _ more all h = cc

pub rows_reach : (how : How) (columns : VertexColumns) (row : ℕ) (values : List Json) (rows : List VertexRow)
    → vertex_rows how columns row values ≡ Ok rows → AreInReach (corners_in rows)
rows_reach how columns row [] rows h = subst (λ rs. AreInReach (corners_in rs)) (same_ok [] rows h) tt
rows_reach how columns row (value ∷ values) rows h =
    grind (arith, split_front, vertex_reach, rows_reach how columns (row + 1) values)

pub rows_long : (how : How) (columns : VertexColumns) (row : ℕ) (values : List Json) (rows : List VertexRow)
    → vertex_rows how columns row values ≡ Ok rows → length rows ≡ length values
rows_long how columns row [] rows h = ap length (sym (same_ok [] rows h))
rows_long how columns row (value ∷ values) rows h = grind (arith, split_front, rows_long how columns (row + 1) values)

-- ---- triangles of rows
pub faces_long : (columns : TriangleColumns) (count triangle : ℕ) (values : List Json) (faces : List (List ℕ))
    → triangle_rows columns count triangle values ≡ Ok faces → length faces ≡ length values
faces_long columns count triangle [] faces h = ap length (sym (same_ok [] faces h))
faces_long columns count triangle (value ∷ values) faces h =
    grind (arith, split_front, faces_long columns count (triangle + 1) values)

pub faces_below : (columns : TriangleColumns) (count triangle : ℕ) (values : List Json) (faces : List (List ℕ))
    → triangle_rows columns count triangle values ≡ Ok faces
    → AllByRecursion (IsBelow count) faces
faces_below columns count triangle [] faces h = subst (AllByRecursion (IsBelow count)) (same_ok [] faces h) tt
faces_below columns count triangle (value ∷ values) faces h =
    grind (arith, split_front, faces_below columns count (triangle + 1) values)
