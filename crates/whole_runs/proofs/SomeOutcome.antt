-- A run has an outcome.
use Rattle.std.proofs.Common.{◌≢◌, ◌⊎◌, inl, inr, ℕ, List, Ok, Err, refl}
use Rattle.shelf_io.specs.Files.{Files}
use Rattle.job_words.specs.declared.jobs.Job.{Job}
use Rattle.job_words.specs.declared.jobs.Job.TheVariants.{Migrate, Check as CheckJob, Make, Verify, Heights}
use Rattle.job_words.specs.declared.faults.WordsFault.{WordsFault}
use Rattle.job_words.specs.declared.faults.WordsFault.TheVariants.{NoMemory}
use Rattle.job_words.specs.Jobs.{IsJobOf, IsWordsFault}
use Rattle.job_words.specs.JobFields.{IsPossibleJob}
use Rattle.job_words.specs.Laws.{JobsAreKept, WordsHaveOneAnswer}
use Rattle.runs.specs.declared.status.Status.{Status}
use Rattle.runs.specs.declared.refusal.Refusal.{Refusal}
use Rattle.runs.specs.declared.refusal.Refusal.TheVariants.{Words}
use Rattle.runs.specs.Refusals.{status_of, line_file}
use Rattle.check_mode.specs.Laws.{CheckEndExists}
use Rattle.migrate_mode.specs.Laws.{End, IsMigrationEnd, IsMakingEnd, MigrationExists, MakingExists}
use Rattle.verify_mode.specs.Laws.{IsVerificationEnd, VerificationExists}
use Rattle.height_mode.specs.Laws.{IsHeightsEnd, HeightsExist}
use Rattle.whole_runs.specs.Jobs.{migration_with, verification_with, heights_with}
use Rattle.whole_runs.specs.Outcome.{IsJobRefused, IsJobDone, HasOutcome, no_job, refused, done}
use Rattle.whole_runs.specs.Laws.{OutcomeExists}

abbrev IsJobEnd : Files → Job → End → Type 0
IsJobEnd files job (Ok end) = IsJobDone files job end.0 end.1
IsJobEnd files job (Err refusal) = IsJobRefused files job refusal

abbrev HasJobEnd : Files → Job → Type 0
HasJobEnd files job = (end : End) × IsJobEnd files job end

module _ (migrations : MigrationExists) (makings : MakingExists) (checks : CheckEndExists)
    (verifications : VerificationExists) (lists : HeightsExist) (files : Files) where
  job_end : (job : Job) → IsPossibleJob job → HasJobEnd files job
  job_end (Migrate tin out how inverse cert sides layers) kept =
      let formats = kept.formats in
      let (end, is) = migrations files (migration_with tin out how inverse cert sides layers) formats in by end is
    where
      by : (end : End) → IsMigrationEnd files (migration_with tin out how inverse cert sides layers) end
          → HasJobEnd files (Migrate tin out how inverse cert sides layers)
      by (Ok end) is = (Ok end, is)
      by (Err refusal) is = (Err refusal, is)
  job_end (CheckJob tin how) kept = by (checks files how tin)
    where
      by : ((status : Status) × (made : Files) × IsJobDone files (CheckJob tin how) status made)
          ⊎ ((refusal : Refusal) × IsJobRefused files (CheckJob tin how) refusal) → HasJobEnd files (CheckJob tin how)
      by (inl (status, made, is)) = (Ok (status, made), is)
      by (inr (refusal, is)) = (Err refusal, is)
  job_end (Make n) kept = let (end, is) = makings n in by end is
    where
      by : (end : End) → IsMakingEnd n end → HasJobEnd files (Make n)
      by (Ok end) is = (Ok end, is)
      by (Err refusal) is = (Err refusal, is)
  job_end (Verify tin source written cert how inverse) kept =
      let format = kept.format in
      let (end, is) = verifications files (verification_with tin source written cert how inverse) format in by end is
    where
      by : (end : End) → IsVerificationEnd files (verification_with tin source written cert how inverse) end
          → HasJobEnd files (Verify tin source written cert how inverse)
      by (Ok end) is = (Ok end, is)
      by (Err refusal) is = (Err refusal, is)
  job_end (Heights tin out how points) kept =
      let (end, is) = lists files (heights_with tin out how points) in by end is
    where
      by : (end : End) → IsHeightsEnd files (heights_with tin out how points) end
          → HasJobEnd files (Heights tin out how points)
      by (Ok end) is = (Ok end, is)
      by (Err refusal) is = (Err refusal, is)

  -- what becomes of words with a job, and of words without one
  with_job : (words : List (List ℕ)) (job : Job) → IsJobOf words job → (end : End) → IsJobEnd files job end
      → (status : Status) × (made : Files) × HasOutcome words files status made
  with_job words job given (Ok (status, made)) is = (status, made, done job given is)
  with_job words job given (Err refusal) is = (
    status_of refusal,
    line_file refusal,
    refused job given refusal is (record { status_is = refl; made_is = refl }),
  )

  by_answer : JobsAreKept → (words : List (List ℕ))
      → ((job : Job) × IsJobOf words job)
      ⊎ ((fault : WordsFault) × IsWordsFault words fault × (fault ≢ NoMemory))
      → (status : Status) × (made : Files) × HasOutcome words files status made
  by_answer kept words (inl (job, given)) =
      let (end, is) = job_end job (kept words job given) in with_job words job given end is
  by_answer kept words (inr (fault, lacks, other)) = (
    status_of (Words fault),
    line_file (Words fault),
    no_job fault lacks (record { status_is = refl; made_is = refl }),
  )

pub outcome_exists : WordsHaveOneAnswer → JobsAreKept → MigrationExists → MakingExists → CheckEndExists
    → VerificationExists → HeightsExist → OutcomeExists
outcome_exists answers kept migrations makings checks verifications lists words files =
    let answer = answers words in
    by_answer migrations makings checks verifications lists files kept words answer.some
