-- Answers to the goals of `GeoJson::outcome_is_one`, a law of the trait `Layer`, in src/layer.rt.
use Rattle.gj_layer.proofs.layer.GeoJsonLayer.outcome_is_one.Goals as goal

pub returns : goal.returns
returns c = λ how bytes. record {
  one_sheet = c.sheet_is_one.ensures.one how.exact bytes;
  one_fault = c.sheet_is_one.ensures.first how.exact bytes;
  apart = c.sheet_is_one.ensures.apart how.exact bytes;
}
