-- The proof of the law `sheet_is_one` in src/laws.rt.
use Rattle.wkt_layer.proofs.SheetLaws.OneSheet.{sheet_one, sheet_apart}
use Rattle.wkt_layer.proofs.laws.sheet_is_one.Goals as goal

pub returns-clause-one : goal.returns-clause-one
returns-clause-one c = sheet_one

pub returns-clause-apart : goal.returns-clause-apart
returns-clause-apart c = sheet_apart
