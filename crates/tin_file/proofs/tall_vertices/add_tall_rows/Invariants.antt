-- The invariant of the loop of `add_tall_rows` in src/tall_vertices.rt.
use Rattle.std.proofs.Common.{◌*◌, ◌≤◌, List, [], drop}
use Rattle.indexmap.specs.IndexSet.{index_set_len}
use Rattle.jtext.specs.Values.{Json}
use Rattle.tin_file.specs.InsideNodes.{AreThere}
use Rattle.tin_file.specs.TallVertices.{tall_rows}
use Rattle.tin_file.specs.declared.tall_vertices.TallVertex.{TallVertex}
use Rattle.tin_file.proofs.VerticalComponent.TallSteps.{AreTallRead}
use Rattle.tin_file.proofs.tall_vertices.add_tall_rows.Given as goal

abbrev pub invariant-loop-row : goal.invariant-loop-row
invariant-loop-row l =
    (index_set_len l.seen ≤ l.row) × (l.done.vertices.inexact ≤ 6 * l.row)
    × ((all : List Json) → AreThere l.doc.nodes l.bytes l.rows all
    → (talls : List TallVertex)
    × AreTallRead l.how l.columns l.done l.seen l.row (drop l.row all) (tall_rows l.how l.columns [] all) talls)
