-- Answers to the goals of `lists_are_counted` in src/laws.rt.
use Rattle.tin_faults.proofs.OneList.{lists_counted}
use Rattle.tin_faults.proofs.laws.lists_are_counted.Goals as goal

pub returns : goal.returns
returns c = lists_counted
