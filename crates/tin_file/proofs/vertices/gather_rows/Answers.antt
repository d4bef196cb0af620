-- Answers to the goals of `gather_rows` in src/vertices.rt.
use Rattle.std.proofs.Common.{List}
use Rattle.tin_file.specs.Vertices.{vertex_rows}
use Rattle.tin_file.specs.RowContents.{AreCollected, AreGathered}
use Rattle.tin_file.specs.declared.vertices.VertexRow.{VertexRow}
use Rattle.tin_file.proofs.FileRows.RowLists.{gives_weaker}
use Rattle.tin_file.proofs.vertices.gather_rows.Goals as goal

pub returns : goal.returns
returns c all h =
    gives_weaker (λ (done : Unit {0}) (rows : List VertexRow). AreCollected c.add_rows.new.vertices c.add_rows.new.seen rows)
    (λ (done : Unit {0}) (rows : List VertexRow). AreGathered c.add_rows.new.vertices rows) c.add_rows.result
    (vertex_rows c.args.how c.args.columns 0 all) (λ done rows are. are.gathered) (c.add_rows.ensures all h)
