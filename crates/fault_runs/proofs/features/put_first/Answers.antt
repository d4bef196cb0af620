-- Answers to the goals of `put_first` in src/features.rt.
use Rattle.fault_runs.specs.FaultsText.{first_text}
use Rattle.plain_laws.proofs.Parts.{seven}
use Rattle.fault_runs.proofs.features.put_first.Goals as goal

pub returns : goal.returns
unfolding first_text
returns c = seven _ _ _ _ _ _ _ _ _ _ _ _ _ _ _ c.in_ok-put.ensures c.in_ok-put_own.ensures c.in_ok-put-2.ensures c.in_ok-put_numbers.ensures c.in_ok-put-3.ensures c.in_ok-put_corners.ensures c.in_ok-put-4.ensures
