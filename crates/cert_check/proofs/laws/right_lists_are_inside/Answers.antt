-- Answers to the goals of `right_lists_are_inside` in src/laws.rt.
use Rattle.cert_check.proofs.ListPoints.{right_inside}
use Rattle.cert_check.proofs.laws.right_lists_are_inside.Goals as goal

pub returns : goal.returns
returns c = right_inside
