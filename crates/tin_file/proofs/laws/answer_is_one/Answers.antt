-- The proof of the law `answer_is_one` in src/laws.rt.
use Rattle.tin_file.proofs.CallerLemmas.OneAnswer.{answer_is_one}
use Rattle.tin_file.proofs.laws.answer_is_one.Goals as goal

pub returns : goal.returns
returns c = answer_is_one
