-- Answers to the goals of `is_at_end` in src/parts.rt.
use Rattle.cert_check.specs.InsideSlices.{spot_behind}
use Rattle.cert_check.proofs.ListPasses.{at_last}
use Rattle.cert_check.proofs.parts.is_at_end.Goals as goal

pub returns : goal.returns
returns c = at_last c.end_of.result (spot_behind c.args.last) c.is_one.result c.end_of.ensures.spot c.is_one.ensures
