-- The proof of the law `places_have_answers` in src/laws.rt.
use Rattle.job_words.proofs.PlacesLaws.{have-answers}
use Rattle.job_words.proofs.laws.places_have_answers.Goals as goal

pub returns : goal.returns
returns c = have-answers
