-- Answers to the goals of `handles_are_new` in src/laws.rt.
use Rattle.dxf_layer.proofs.WrittenDrawings.GivenHandles.{handles_are_new}
use Rattle.dxf_layer.proofs.laws.handles_are_new.Goals as goal

pub returns : goal.returns
returns c = handles_are_new c.pairs_tile.ensures.tile
