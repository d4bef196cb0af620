-- Answers to the goals of `Wkt::sheets_are_of_bytes`, a law of the trait `Layer`, in src/layer.rt.
use Rattle.wkt_layer.proofs.WrittenLayers.ReadingBack.{reads_back}
use Rattle.wkt_layer.proofs.layer.WktLayer.sheets_are_of_bytes.Goals as goal

pub returns-clause-sheets : goal.returns-clause-sheets
returns-clause-sheets c = λ how bytes sheet read. c.read_sheets_are_sheets.ensures how.exact bytes sheet read

pub returns-clause-back : goal.returns-clause-back
returns-clause-back c = λ how bytes sheet images read fit kept. reads_back how.exact bytes sheet images read fit
