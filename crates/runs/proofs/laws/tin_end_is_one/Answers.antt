-- Answers to the goals of `tin_end_is_one` in src/laws.rt.
use Rattle.runs.proofs.OneTin.{tin_end_is_one}
use Rattle.runs.proofs.laws.tin_end_is_one.Goals as goal

pub returns : goal.returns
returns c = tin_end_is_one
