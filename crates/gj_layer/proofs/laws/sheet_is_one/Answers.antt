-- The proof of the law `sheet_is_one` in src/laws.rt.
use Rattle.gj_layer.proofs.Outcomes.OneSheet.{sheet_one, sheet_apart, fault_one}
use Rattle.gj_layer.proofs.laws.sheet_is_one.Goals as goal

pub returns-clause-one : goal.returns-clause-one
returns-clause-one c = sheet_one

pub returns-clause-apart : goal.returns-clause-apart
returns-clause-apart c = sheet_apart

pub returns-clause-first : goal.returns-clause-first
returns-clause-first c = fault_one
