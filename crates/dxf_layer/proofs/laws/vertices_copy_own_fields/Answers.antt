-- Answers to the goals of `vertices_copy_own_fields` in src/laws.rt.
use Rattle.dxf_layer.proofs.WrittenDrawings.WrittenCopies.{vertices_copy_own_fields}
use Rattle.dxf_layer.proofs.laws.vertices_copy_own_fields.Goals as goal

pub returns : goal.returns
returns c = vertices_copy_own_fields c.pairs_tile.ensures.tile c.pairs_are_in_lines.ensures.stand
