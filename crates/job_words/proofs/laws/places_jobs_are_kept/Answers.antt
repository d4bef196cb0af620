-- The proof of the law `places_jobs_are_kept` in src/laws.rt.
use Rattle.job_words.proofs.PlacesLaws.{job-kept}
use Rattle.job_words.proofs.laws.places_jobs_are_kept.Goals as goal

pub returns : goal.returns
returns c = job-kept
