-- Answers to the goals of `written_pairs` in src/laws.rt.
use Rattle.dxf_layer.proofs.WrittenDrawings.WrittenPairs.{written}
use Rattle.dxf_layer.proofs.laws.written_pairs.Goals as goal

pub returns : goal.returns
returns c = written c.pairs_tile.ensures.tile c.pairs_are_in_lines.ensures.stand c.pairs_are_in_lines.ensures.follow
