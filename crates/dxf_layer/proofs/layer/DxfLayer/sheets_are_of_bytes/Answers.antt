-- Answers to the goals of `Dxf::sheets_are_of_bytes`, a law of the trait `Layer`, in src/layer.rt.
use Rattle.dxf_layer.proofs.layer.DxfLayer.sheets_are_of_bytes.Goals as goal

pub returns-clause-sheets : goal.returns-clause-sheets
returns-clause-sheets c = λ how bytes sheet read. c.read_sheets_are_sheets.ensures how bytes sheet read

pub returns-clause-back : goal.returns-clause-back
returns-clause-back c = λ how bytes sheet images read fit kept. c.drawings_read_back.ensures how bytes sheet images read
    fit kept
