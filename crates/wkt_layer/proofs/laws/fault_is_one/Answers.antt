-- The proof of the law `fault_is_one` in src/laws.rt.
use Rattle.wkt_layer.proofs.Faults.OneFault.{fault_one}
use Rattle.wkt_layer.proofs.laws.fault_is_one.Goals as goal

pub returns : goal.returns
returns c = fault_one
