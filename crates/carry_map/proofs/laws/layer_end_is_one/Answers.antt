-- Answers to the goals of `layer_end_is_one` in src/laws.rt.
use Rattle.carry_map.proofs.OneEnd.{layer_end_one}
use Rattle.carry_map.proofs.laws.layer_end_is_one.Goals as goal

pub returns : goal.returns
returns g c = layer_end_one g.L.Layer.reads g.L.Layer.refuses g.L.Layer.text c.outcome_is_one.ensures
