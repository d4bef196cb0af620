-- The proof of the law `tall_answer_is_one` in src/laws.rt.
use Rattle.tin_file.proofs.CallerLemmas.OneAnswer.{tall_answer_is_one}
use Rattle.tin_file.proofs.laws.tall_answer_is_one.Goals as goal

pub returns : goal.returns
returns c = tall_answer_is_one
