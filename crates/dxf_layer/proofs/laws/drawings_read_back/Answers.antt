-- Answers to the goals of `drawings_read_back` in src/laws.rt.
use Rattle.dxf_layer.proofs.WrittenDrawings.DrawingsReadBack.{read_back}
use Rattle.dxf_layer.proofs.laws.drawings_read_back.Goals as goal

pub returns : goal.returns
returns c = read_back c.pairs_tile.ensures.tile c.pairs_are_in_lines.ensures.stand c.pairs_are_in_lines.ensures.follow
    c.pairs_are_the_groups.ensures
