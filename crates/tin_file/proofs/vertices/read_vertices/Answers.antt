-- Answers to the goals of `read_vertices` in src/vertices.rt.
use Rattle.std.proofs.Common.{List}
use Rattle.tin_file.specs.Vertices.{vertex_rows}
use Rattle.tin_file.specs.RowContents.{AreGathered}
use Rattle.tin_file.specs.declared.vertices.VertexRow.{VertexRow}
use Rattle.tin_file.proofs.FileRows.RowLists.{gives_same}
use Rattle.tin_file.proofs.vertices.read_vertices.Goals as goal

pub returns-in-Ok : goal.returns-in-Ok
returns-in-Ok c all h =
    gives_same (λ (done : Unit {0}) (rows : List VertexRow). AreGathered c.gather_rows.new.vertices rows) AreGathered
    (record {}) c.gather_rows.new.vertices (vertex_rows c.args.how c.args.columns 0 all) (λ rows are. are)
    (c.in-Ok.ensures all h)
