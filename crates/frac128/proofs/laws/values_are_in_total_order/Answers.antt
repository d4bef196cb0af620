-- The proof of the law `values_are_in_total_order` in src/laws.rt.
use Rattle.frac128.proofs.Values.{values_are_in_total_order}
use Rattle.frac128.proofs.laws.values_are_in_total_order.Goals as goal

pub returns : goal.returns
returns c = values_are_in_total_order
