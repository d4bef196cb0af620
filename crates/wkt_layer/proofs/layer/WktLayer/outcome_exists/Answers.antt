-- Answers to the goals of `Wkt::outcome_exists`, a law of the trait `Layer`, in src/layer.rt.
use Rattle.wkt_layer.proofs.layer.WktLayer.outcome_exists.Goals as goal

pub returns : goal.returns
returns c = λ how bytes. c.text_outcome_exists.ensures how.exact bytes
