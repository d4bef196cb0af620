-- Answers to the goals of `Dxf::outcome_exists`, a law of the trait `Layer`, in src/layer.rt.
use Rattle.dxf_layer.specs.Drawings.{drawing_sheet}
use Rattle.dxf_layer.proofs.Outcomes.DrawingOutcomes.{some_result}
use Rattle.dxf_layer.proofs.layer.DxfLayer.outcome_exists.Goals as goal

pub returns : goal.returns
returns c = λ how bytes. some_result (drawing_sheet how bytes)
