-- Answers to the goals of `put_numbers` in src/features.rt.
use Rattle.fault_runs.specs.FaultsText.{numbers_text}
use Rattle.plain_laws.proofs.Parts.{seven}
use Rattle.fault_runs.proofs.features.put_numbers.Goals as goal

pub returns : goal.returns
unfolding numbers_text
returns c = seven _ _ _ _ _ _ _ _ _ _ _ _ _ _ _ c.in_ok-put.ensures c.in_ok-put_own.ensures c.in_ok-put-2.ensures c.in_ok-put_own-2.ensures c.in_ok-put-3.ensures c.in_ok-put_own-3.ensures c.in_ok-put-4.ensures
