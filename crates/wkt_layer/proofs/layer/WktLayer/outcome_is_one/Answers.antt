-- Answers to the goals of `Wkt::outcome_is_one`, a law of the trait `Layer`, in src/layer.rt.
use Rattle.wkt_layer.proofs.layer.WktLayer.outcome_is_one.Goals as goal

pub returns : goal.returns
returns c = λ how bytes. record {
  one_sheet = c.sheet_is_one.ensures.one how.exact bytes;
  one_fault = c.fault_is_one.ensures how.exact bytes;
  apart = c.sheet_is_one.ensures.apart how.exact bytes;
}
