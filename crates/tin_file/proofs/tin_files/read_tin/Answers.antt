-- Answers to the goals of `read_tin` in src/tin_files.rt.
use Rattle.std.proofs.Common.{false}
use Rattle.tin_file.specs.TinFiles.{reading}
use Rattle.tin_file.proofs.FirstFaults.ValueFaults.{good_reading, answer_of}
use Rattle.tin_file.proofs.tin_files.read_tin.Goals as goal

pub returns-in-Ok : goal.returns-in-Ok
returns-in-Ok c =
    let (whole, read) = c.in-Ok.ensures.ok in
    answer_of false (reading c.args.how) c.args.bytes.now whole c.read_document.result read.text
    (good_reading false c.args.how whole.value) (c.read_document.ensures whole read)
