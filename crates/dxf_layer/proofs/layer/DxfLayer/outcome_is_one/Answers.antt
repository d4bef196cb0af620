-- Answers to the goals of `Dxf::outcome_is_one`, a law of the trait `Layer`, in src/layer.rt.
use Rattle.dxf_layer.specs.Drawings.{drawing_sheet}
use Rattle.dxf_layer.proofs.Outcomes.DrawingOutcomes.{one_result}
use Rattle.dxf_layer.proofs.layer.DxfLayer.outcome_is_one.Goals as goal

pub returns : goal.returns
returns c = λ how bytes. one_result (drawing_sheet how bytes)
