-- Answers to the goals of `layer_end_exists` in src/laws.rt.
use Rattle.carry_map.proofs.LayerEnds.{layer_end}
use Rattle.carry_map.proofs.laws.layer_end_exists.Goals as goal

pub returns : goal.returns
returns g c =
    layer_end g.L.Layer.reads g.L.Layer.text g.L.Layer.reads_back g.L.Layer.reads_heights
    c.sheets_are_of_bytes.ensures.sheets c.sheets_are_of_bytes.ensures.back
