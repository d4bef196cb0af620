-- How a run ends: by its outcome, after a read fault, because memory ran out, or after a write fault.
use Rattle.std.specs.Prelude.{◌≡◌, ◌⊎◌, ℕ, List, [], ◌∷◌, ◌++◌, codes, Option, None, Some}
use Rattle.shelf_io.specs.Files.{Files}
use Rattle.shelf_io.specs.Load.{LacksName}
use Rattle.job_words.specs.declared.jobs.Job.{Job}
use Rattle.job_words.specs.declared.jobs.Job.TheVariants.{Migrate, Check, Make, Verify, Heights}
use Rattle.job_words.specs.Jobs.{IsJobOf}
use Rattle.runs.specs.declared.status.Status.{Status}
use Rattle.runs.specs.declared.status.Status.TheVariants.{Write}
use Rattle.runs.specs.declared.refusal.Refusal.{Refusal}
use Rattle.runs.specs.declared.refusal.Refusal.TheVariants.{TinUnread, NoMemory}
use Rattle.runs.specs.Refusals.{Refuses, written_front, cert_front}
use Rattle.runs.specs.Causes.{MayRefuse}
use Rattle.check_mode.specs.Checks.{IsCheckWritten, IsEndOfCheck}
use Rattle.migrate_mode.specs.Migrations.{IsReachedByOver, LacksWanted, IsMigrationWritten}
use Rattle.migrate_mode.specs.Maker.{IsMakingWritten}
use Rattle.verify_mode.specs.Files.{LacksCompared}
use Rattle.verify_mode.specs.Verifications.{IsComparedByOver, IsVerificationWritten, IsEndOfVerification}
use Rattle.height_mode.specs.Heights.{IsListReachedByOver, IsHeightsWritten, LacksListed, IsEndOfHeights}
use Rattle.publication.specs.Fronts.{IsFrontOf}
use Rattle.publication.specs.RunEnds.{EndsSo}
use Rattle.whole_runs.specs.Jobs.{migration_with, verification_with, heights_with}
use Rattle.whole_runs.specs.Outcome.{HasOutcome, IsJobRefusedOver}

-- the refusal is that of a file that could not be read, and nothing refuses the job before that file
abbrev pub IsReachedOver : Option Files → Job → Refusal → Type 0
IsReachedOver told (Migrate tin out how inverse cert sides layers) =
    IsReachedByOver told (migration_with tin out how inverse cert sides layers)
IsReachedOver told (Check tin how) = λ refusal. refusal ≡ TinUnread
IsReachedOver told (Make n) = λ refusal. ⊥
IsReachedOver told (Verify tin source written cert how inverse) =
    IsComparedByOver told (verification_with tin source written cert how inverse)
IsReachedOver told (Heights tin out how points) = IsListReachedByOver told (heights_with tin out how points)

abbrev pub IsReached : Files → Job → Refusal → Type 0
IsReached files job refusal = IsReachedOver (Some files) job refusal

-- why a job may be refused before anything is written
abbrev pub MayRefuseJobOver : Option Files → Job → Type 0 → Refusal → Type 0
MayRefuseJobOver told job shelf_rose refusal =
    MayRefuse (IsJobRefusedOver told job) (IsReachedOver told job) shelf_rose refusal

abbrev pub MayRefuseJob : Files → Job → Type 0 → Refusal → Type 0
MayRefuseJob files job shelf_rose refusal = MayRefuseJobOver (Some files) job shelf_rose refusal

-- what a run makes unless a write fails
pub data Makes (words : List (List ℕ)) (files : Files) (shelf_rose : Type 0) (status : Status) (made : Files) : Type 0
  where
    by_outcome : HasOutcome words files status made → Makes words files shelf_rose status made
    after_read_fault : shelf_rose → (job : Job) → IsJobOf words job → (refusal : Refusal) → IsReached files job refusal
        → Refuses refusal status made → Makes words files shelf_rose status made
    out_of_memory : Refuses NoMemory status made → Makes words files shelf_rose status made

-- how a run ends: it has made what `Makes` says, or after a write fault a first part of that
abbrev pub EndsTold : List (List ℕ) → Files → Type 0 → Type 0 → Status → Option Files → Type 0
EndsTold words files shelf_rose press_rose status made =
    EndsSo (Makes words files shelf_rose) press_rose status made

-- What is written of a job that is done, whatever files hold, and the status: the layers' files and the text on
-- standard output.
abbrev pub IsWrittenOf : Job → Files → List ℕ → Status → Type 0
IsWrittenOf (Migrate tin out how inverse cert sides layers) =
    IsMigrationWritten (migration_with tin out how inverse cert sides layers)
IsWrittenOf (Check tin how) = IsCheckWritten
IsWrittenOf (Make n) = IsMakingWritten
IsWrittenOf (Verify tin source written cert how inverse) = IsVerificationWritten
IsWrittenOf (Heights tin out how points) = IsHeightsWritten (heights_with tin out how points)

-- the files that a run with these words may be to make, whatever files hold, and its status: what is written of the
-- job, or `-` alone with the line of a refusal
pub data IsToBeMade (words : List (List ℕ)) (status : Status) (made : Files) : Type 0 where
  by_job : (job : Job) → IsJobOf words job → (layers : Files) → (said : List ℕ) → IsWrittenOf job layers said status
      → made ≡ layers ++ (codes "-", said) ∷ [] → IsToBeMade words status made
  by_refusal : (refusal : Refusal) → Refuses refusal status made → IsToBeMade words status made

-- after each status but `Write` all of it; after `Write` a first part of it
pub data HasMadeAfter (words : List (List ℕ)) (status : Status) (made : Files) : Type 0 where
  all_made : IsToBeMade words status made → HasMadeAfter words status made
  front_made : status ≡ Write → (wanted : Status) → (whole : Files) → IsToBeMade words wanted whole
      → IsFrontOf made whole → HasMadeAfter words status made

-- a file that the job wants is missing
abbrev pub LacksWantedFile : Job → Option Files → Type 0
LacksWantedFile (Migrate tin out how inverse cert sides layers) files =
    LacksWanted (migration_with tin out how inverse cert sides layers) files
LacksWantedFile (Check tin how) files = LacksName files tin
LacksWantedFile (Make n) files = ⊥
LacksWantedFile (Verify tin source written cert how inverse) files =
    LacksCompared (verification_with tin source written cert how inverse) files
LacksWantedFile (Heights tin out how points) files = LacksListed (heights_with tin out how points) files

-- a job that wants no file
abbrev pub IsWithoutFile : Job → Type 0
IsWithoutFile (Make n) = Unit {0}
IsWithoutFile job = ⊥

-- the words give a job, and a file that it wants is missing
abbrev pub LacksWantedOf : List (List ℕ) → Option Files → Type 0
LacksWantedOf words files = (job : Job) × IsJobOf words job × LacksWantedFile job files

-- the statuses of a job
abbrev pub MayEnd : Job → Status → Type 0
MayEnd (Migrate tin out how inverse cert sides layers) = λ status. Unit {0}
MayEnd (Check tin how) = IsEndOfCheck
MayEnd (Make n) = λ status. Unit {0}
MayEnd (Verify tin source written cert how inverse) = IsEndOfVerification
MayEnd (Heights tin out how points) = IsEndOfHeights

-- what is said alone is the line of a written layer, or of a certificate, with too many bytes, or a first part of it that
-- says which of the two
abbrev pub TellsVerifiedBytes : Files → Type 0
TellsVerifiedBytes made = (rest : List ℕ)
    × ((made ≡ (codes "-", written_front ++ rest) ∷ []) ⊎ (made ≡ (codes "-", cert_front ++ rest) ∷ []))
