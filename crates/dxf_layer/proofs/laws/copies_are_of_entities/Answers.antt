-- Answers to the goals of `copies_are_of_entities` in src/laws.rt.
use Rattle.dxf_layer.proofs.WrittenDrawings.WrittenCopies.{copies_are_of_entities}
use Rattle.dxf_layer.proofs.laws.copies_are_of_entities.Goals as goal

pub returns : goal.returns
returns c = copies_are_of_entities c.pairs_tile.ensures.tile c.pairs_are_in_lines.ensures.stand
    c.pairs_are_in_lines.ensures.follow
