-- The proof of the law `first_fault_is_one` in src/laws.rt.
use Rattle.tin_check.proofs.CallerLemmas.FirstFault.{one_first}
use Rattle.tin_check.proofs.laws.first_fault_is_one.Goals as goal

pub returns : goal.returns
returns c = one_first
