-- Answers to the goals of `put_feature` in src/features.rt.
use Rattle.fault_runs.specs.FaultsText.{feature_text}
use Rattle.plain_laws.proofs.Parts.{seven}
use Rattle.fault_runs.proofs.features.put_feature.Goals as goal

pub returns : goal.returns
unfolding feature_text
returns c = seven _ _ _ _ _ _ _ _ _ _ _ _ _ _ _ c.in_ok-put.ensures c.in_ok-put_geometry.ensures c.in_ok-put-2.ensures c.in_ok-put_fault.ensures c.in_ok-put_first.ensures c.in_ok-put_other.ensures c.in_ok-put-3.ensures
