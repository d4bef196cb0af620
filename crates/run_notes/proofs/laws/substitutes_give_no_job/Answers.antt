-- The proof of the law `substitutes_give_no_job` in src/laws.rt.
use Rattle.run_notes.proofs.RefusedSubstitutes.{no-job}
use Rattle.run_notes.proofs.laws.substitutes_give_no_job.Goals as goal

pub returns : goal.returns
returns c = no-job
