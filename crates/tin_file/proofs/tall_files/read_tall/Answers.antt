-- Answers to the goals of `read_tall` in src/tall_files.rt.
use Rattle.std.proofs.Common.{true}
use Rattle.tin_file.specs.TallFiles.{tall_reading}
use Rattle.tin_file.proofs.FirstFaults.ValueFaults.{answer_of}
use Rattle.tin_file.proofs.FirstFaults.TallFaults.{good_tall_reading}
use Rattle.tin_file.proofs.VerticalComponent.TallOffsets.{ok_each, ok_small}
use Rattle.tin_file.proofs.tall_files.read_tall.Goals as goal

pub returns-in-Ok-clause-answer : goal.returns-in-Ok-clause-answer
returns-in-Ok-clause-answer c =
    let (whole, read) = c.in-Ok.ensures.ok in
    answer_of true (tall_reading c.args.how) c.args.bytes.now whole c.read_tall_document.result read.text
    (good_tall_reading c.args.how whole.value) (c.read_tall_document.ensures whole read)

pub returns-in-Ok-clause-each : goal.returns-in-Ok-clause-each
returns-in-Ok-clause-each c =
    let (whole, read) = c.in-Ok.ensures.ok in
    ok_each c.args.how whole.value c.read_tall_document.result (c.read_tall_document.ensures whole read)

pub returns-in-Ok-clause-small : goal.returns-in-Ok-clause-small
returns-in-Ok-clause-small c =
    let (whole, read) = c.in-Ok.ensures.ok in
    ok_small c.args.how whole.value c.read_tall_document.result (c.read_tall_document.ensures whole read)
