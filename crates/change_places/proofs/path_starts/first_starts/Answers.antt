-- Answers to the goals of `first_starts` in src/path_starts.rt.
use Rattle.change_places.proofs.Firsts.{firsts_at}
use Rattle.change_places.proofs.path_starts.first_starts.Goals as goal

pub loop-edit-preserved : goal.loop-edit-preserved
loop-edit-preserved c = firsts_at c.args.key c.args.edits.now c.loop-edit.edit-index c.args.count _ c.key_number.result
    _ _ c.loop-edit-test.true c.loop-edit.invariant c.key_number.ensures c.put_start.ensures
