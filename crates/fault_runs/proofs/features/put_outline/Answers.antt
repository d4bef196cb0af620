-- Answers to the goals of `put_outline` in src/features.rt.
use Rattle.fault_runs.specs.FaultsText.{outline_text}
use Rattle.plain_laws.proofs.Parts.{five}
use Rattle.fault_runs.proofs.features.put_outline.Goals as goal

pub returns : goal.returns
unfolding outline_text
returns c = five _ _ _ _ _ _ _ _ _ _ _ c.in_ok-put.ensures c.in_ok-put_corners.ensures c.in_ok-put-2.ensures c.in_ok-put_position.ensures.text c.in_ok-put-3.ensures
