-- The invariant of the loop of `read_triangles` in src/triangles.rt.
use Rattle.std.proofs.Common.{◌≡◌, ℕ, List, drop, length, map}
use Rattle.jtext.specs.Values.{Json}
use Rattle.tin_file.specs.Triangles.{triangle_of, triangle_rows}
use Rattle.tin_file.specs.InsideNodes.{AreThere}
use Rattle.tin_file.specs.RowContents.{face_corners}
use Rattle.tin_file.proofs.FileRows.RowLists.{AreRead}
use Rattle.tin_file.proofs.triangles.read_triangles.Given as goal

abbrev pub invariant-loop-triangle : goal.invariant-loop-triangle
invariant-loop-triangle l =
    (all : List Json) → AreThere l.doc.nodes l.bytes l.rows all
    → (done : List (List ℕ)) × (l.triangles.items ≡ map (face_corners l.numbers) done)
    × AreRead (triangle_of l.columns (length l.numbers)) (triangle_rows l.columns (length l.numbers)) done l.triangle
    (drop l.triangle all)
    (triangle_rows l.columns (length l.numbers) 0 all)
