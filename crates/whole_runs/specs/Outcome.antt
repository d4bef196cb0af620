-- What a run makes, as a relation of the words, the shelf's files, the status and the made files.
use Rattle.std.specs.Prelude.{ℕ, List, Option, Some}
use Rattle.shelf_io.specs.Files.{Files}
use Rattle.job_words.specs.declared.jobs.Job.{Job}
use Rattle.job_words.specs.declared.jobs.Job.TheVariants.{Migrate, Check as CheckJob, Make, Verify, Heights}
use Rattle.job_words.specs.declared.faults.WordsFault.{WordsFault}
use Rattle.job_words.specs.Jobs.{IsJobOf, IsWordsFault}
use Rattle.runs.specs.declared.status.Status.{Status}
use Rattle.runs.specs.declared.refusal.Refusal.{Refusal}
use Rattle.runs.specs.declared.refusal.Refusal.TheVariants.{Words}
use Rattle.runs.specs.Triangulations.{IsTinRefusedOver}
use Rattle.runs.specs.Refusals.{Refuses}
use Rattle.check_mode.specs.Checks.{IsChecked}
use Rattle.migrate_mode.specs.Migrations.{IsMigrationRefused, IsMigrationRefusedOver, IsMigrationDone}
use Rattle.migrate_mode.specs.Maker.{made_files, made_migration, IsMakingDone}
use Rattle.verify_mode.specs.Verifications.{IsVerificationRefusedOver, IsVerified}
use Rattle.height_mode.specs.Heights.{IsHeightsRefusedOver, AreMoved}
use Rattle.whole_runs.specs.Jobs.{migration_with, verification_with, heights_with}

-- What the shelf states refuses the job so, or some bytes of its files where it states nothing; those of the maker are
-- the texts that it makes.
abbrev pub IsJobRefusedOver : Option Files → Job → Refusal → Type 0
IsJobRefusedOver told (Migrate tin out how inverse cert sides layers) =
    IsMigrationRefusedOver told (migration_with tin out how inverse cert sides layers)
IsJobRefusedOver told (CheckJob tin how) = IsTinRefusedOver told how tin
IsJobRefusedOver told (Make n) = IsMigrationRefused (made_files n) made_migration
IsJobRefusedOver told (Verify tin source written cert how inverse) =
    IsVerificationRefusedOver told (verification_with tin source written cert how inverse)
IsJobRefusedOver told (Heights tin out how points) = IsHeightsRefusedOver told (heights_with tin out how points)

abbrev pub IsJobRefused : Files → Job → Refusal → Type 0
IsJobRefused files job refusal = IsJobRefusedOver (Some files) job refusal

-- the job is done
abbrev pub IsJobDone : Files → Job → Status → Files → Type 0
IsJobDone files (Migrate tin out how inverse cert sides layers) status made =
    IsMigrationDone files (migration_with tin out how inverse cert sides layers) status made
IsJobDone files (CheckJob tin how) status made = IsChecked files how tin status made
IsJobDone files (Make n) status made = IsMakingDone n status made
IsJobDone files (Verify tin source written cert how inverse) status made =
    IsVerified files (verification_with tin source written cert how inverse) status made
IsJobDone files (Heights tin out how points) status made = AreMoved files (heights_with tin out how points) status made

-- The status and the made files of a run, where no call of the outside fails and memory does not run out.
-- Where the words give a job, the files refuse it or it is done.
pub data HasOutcome (words : List (List ℕ)) (files : Files) (status : Status) (made : Files) : Type 0 where
  no_job : (fault : WordsFault) → IsWordsFault words fault → Refuses (Words fault) status made
      → HasOutcome words files status made
  refused : (job : Job) → IsJobOf words job → (refusal : Refusal) → IsJobRefused files job refusal
      → Refuses refusal status made → HasOutcome words files status made
  done : (job : Job) → IsJobOf words job → IsJobDone files job status made → HasOutcome words files status made
