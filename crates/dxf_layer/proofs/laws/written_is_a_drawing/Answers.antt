-- Answers to the goals of `written_is_a_drawing` in src/laws.rt.
use Rattle.dxf_layer.proofs.WrittenDrawings.WrittenPairs.{written_is_a_drawing}
use Rattle.dxf_layer.proofs.laws.written_is_a_drawing.Goals as goal

pub returns : goal.returns
returns c = written_is_a_drawing c.pairs_tile.ensures.tile c.pairs_are_in_lines.ensures.stand
    c.pairs_are_in_lines.ensures.follow
