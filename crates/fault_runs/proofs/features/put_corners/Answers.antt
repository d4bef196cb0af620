-- Answers to the goals of `put_corners` in src/features.rt.
use Rattle.fault_runs.specs.FaultsText.{corners_text}
use Rattle.plain_laws.proofs.Parts.{five}
use Rattle.fault_runs.proofs.features.put_corners.Goals as goal

pub returns : goal.returns
unfolding corners_text
returns c = five _ _ _ _ _ _ _ _ _ _ _ c.in_ok-put_position.ensures.text c.in_ok-put.ensures c.in_ok-put_position-2.ensures.text c.in_ok-put-2.ensures c.in_ok-put_position-3.ensures.text
