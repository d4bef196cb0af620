-- Answers to the goals of `publish_layers` in src/outputs.rt.
use Rattle.shelf_io.proofs.Made.{on_err_always}
use Rattle.publication.proofs.Fronts.{lacks_next, front_next}
use Rattle.publication.proofs.outputs.publish_layers.Goals as goal

pub print-requires-clause-new : goal.print-requires-clause-new
print-requires-clause-new g c =
    rw c.as_str.ensures.value
    (lacks_next c.args.layers.now c.loop-file.file-index c.file-item.result (g.P.Press.made c.loop-file.press)
    c.requires.writable c.loop-file-test.true c.file-item.is c.loop-file.invariant.made)

pub returns-in_err-print-clause-front : goal.returns-in_err-print-clause-front
returns-in_err-print-clause-front g c =
    on_err_always _
    (front_next c.args.layers.now c.loop-file.file-index c.file-item.result (g.P.Press.made c.loop-file.press)
    (g.P.Press.made c.print.new.press) c.loop-file-test.true c.file-item.is c.loop-file.invariant.made
    (rw (c.as_str.ensures.value, c.items.ensures) at c.in_err-print.ensures.err))
