-- The invariant of the loop of `add_rows` in src/vertices.rt.
use Rattle.std.proofs.Common.{◌*◌, ◌≤◌, List, drop}
use Rattle.indexmap.specs.IndexSet.{index_set_len}
use Rattle.jtext.specs.Values.{Json}
use Rattle.tin_file.specs.Vertices.{vertex_of, vertex_rows}
use Rattle.tin_file.specs.InsideNodes.{AreThere}
use Rattle.tin_file.specs.RowContents.{AreCollected}
use Rattle.tin_file.specs.declared.vertices.VertexRow.{VertexRow}
use Rattle.tin_file.proofs.FileRows.RowLists.{AreRead}
use Rattle.tin_file.proofs.vertices.add_rows.Given as goal

abbrev pub invariant-loop-row : goal.invariant-loop-row
invariant-loop-row l =
    (index_set_len l.seen ≤ l.row) × (l.vertices.inexact ≤ 4 * l.row)
    × ((all : List Json) → AreThere l.doc.nodes l.bytes l.rows all
    → (done : List VertexRow) × AreCollected l.vertices l.seen done
    × AreRead (vertex_of l.how l.columns) (vertex_rows l.how l.columns) done l.row (drop l.row all)
    (vertex_rows l.how l.columns 0 all))
