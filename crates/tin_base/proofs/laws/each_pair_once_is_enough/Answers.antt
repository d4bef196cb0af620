-- The proof of the law `each_pair_once_is_enough` in src/laws.rt.
use Rattle.tin_base.proofs.TriangleLemmas.InOrder.{sound_of_pairs}
use Rattle.tin_base.proofs.laws.each_pair_once_is_enough.Goals as goal

pub returns : goal.returns
returns c = sound_of_pairs
