-- Answers to the goals of `put_lines` in src/features.rt.
use Rattle.fault_runs.specs.FaultsText.{lines_text}
use Rattle.plain_laws.proofs.Parts.{four}
use Rattle.fault_runs.proofs.features.put_lines.Goals as goal

pub returns : goal.returns
unfolding lines_text
returns c = four _ _ _ _ _ _ _ _ _ c.in_ok-put.ensures c.in_ok-put_outline.ensures c.in_ok-put_other_outline.ensures c.in_ok-put-2.ensures
