-- Answers to the goals of `put_behind` in src/features.rt.
use Rattle.fault_runs.specs.FaultsText.{behind_text}
use Rattle.plain_laws.proofs.Parts.{two}
use Rattle.fault_runs.proofs.features.put_behind.Goals as goal

pub returns : goal.returns
unfolding behind_text
returns c = two _ _ _ _ _ c.in_ok-put.ensures c.in_ok-put_outline.ensures
