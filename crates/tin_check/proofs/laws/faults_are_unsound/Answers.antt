-- The proof of the law `faults_are_unsound` in src/laws.rt.
use Rattle.tin_check.proofs.CallerLemmas.FirstFault.{unsound}
use Rattle.tin_check.proofs.laws.faults_are_unsound.Goals as goal

pub returns : goal.returns
returns c = unsound
