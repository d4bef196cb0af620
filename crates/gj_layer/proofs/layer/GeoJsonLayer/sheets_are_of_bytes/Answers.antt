-- Answers to the goals of `GeoJson::sheets_are_of_bytes`, a law of the trait `Layer`, in src/layer.rt.
use Rattle.gj_layer.proofs.WrittenValues.ReadingBack.{reads_back}
use Rattle.gj_layer.proofs.layer.GeoJsonLayer.sheets_are_of_bytes.Goals as goal

pub returns-clause-sheets : goal.returns-clause-sheets
returns-clause-sheets c = λ how bytes sheet read. c.read_sheets_are_sheets.ensures how.exact bytes sheet read

pub returns-clause-back : goal.returns-clause-back
returns-clause-back c = λ how bytes sheet images read fit kept. reads_back how.exact bytes sheet images read fit
