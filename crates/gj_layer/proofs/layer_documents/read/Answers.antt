-- Answers to the goals of `read` in src/layer_documents.rt.
use Rattle.gj_layer.proofs.OpenObjects.Documents.{order_given}
use Rattle.gj_layer.proofs.layer_documents.read.Goals as goal

pub returns-in-Ok-clause-edits : goal.returns-in-Ok-clause-edits
returns-in-Ok-clause-edits c =
    let (whole, reading) = c.in-Ok.ensures.ok in
    order_given c.args.exact c.args.bytes.now whole c.read_document.result reading.text
    (c.read_document.ensures whole reading)
