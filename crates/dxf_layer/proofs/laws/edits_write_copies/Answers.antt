-- Answers to the goals of `edits_write_copies` in src/laws.rt.
use Rattle.dxf_layer.proofs.WrittenDrawings.WrittenCopies.{edits_write_copies}
use Rattle.dxf_layer.proofs.laws.edits_write_copies.Goals as goal

pub returns : goal.returns
returns c = edits_write_copies c.pairs_tile.ensures.tile c.pairs_are_in_lines.ensures.stand
    c.pairs_are_in_lines.ensures.follow
