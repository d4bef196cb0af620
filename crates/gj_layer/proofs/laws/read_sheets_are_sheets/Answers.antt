-- Answers to the goals of `read_sheets_are_sheets` in src/laws.rt.
use Rattle.gj_layer.proofs.Outcomes.ReadSheets.{read_is_sheet}
use Rattle.gj_layer.proofs.laws.read_sheets_are_sheets.Goals as goal

pub returns : goal.returns
returns c = read_is_sheet
