-- Answers to the goals of `jobs_are_kept` in src/laws.rt.
use Rattle.job_words.proofs.JobLaws.{job-kept}
use Rattle.job_words.proofs.laws.jobs_are_kept.Goals as goal

pub returns : goal.returns
returns c = job-kept
