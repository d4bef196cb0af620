-- The proof of the law `words_have_one_answer` in src/laws.rt.
use Rattle.job_words.proofs.OneAnswer.{one-answer}
use Rattle.job_words.proofs.laws.words_have_one_answer.Goals as goal

pub returns : goal.returns
returns c = one-answer
