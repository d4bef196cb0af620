-- Answers to the goals of `all_faults` in src/searches.rt.
use Rattle.tin_faults.proofs.OneList.{none_in_sound}
use Rattle.tin_faults.proofs.searches.all_faults.Goals as goal

pub returns-then-branch-clause-ok : goal.returns-then-branch-clause-ok
returns-then-branch-clause-ok c = rw c.new.ensures.items (none_in_sound c.args.tin.now (c.in_ok-is_sound.ensures c.if-branch.true))
