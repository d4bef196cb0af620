-- Answers to the goals of `GeoJson::outcome_exists`, a law of the trait `Layer`, in src/layer.rt.
use Rattle.gj_layer.proofs.layer.GeoJsonLayer.outcome_exists.Goals as goal

pub returns : goal.returns
returns c = λ how bytes. c.text_outcome_exists.ensures how.exact bytes
