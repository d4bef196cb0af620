-- A run has one outcome.
use Rattle.std.proofs.Common.{◌≡◌, ℕ, Bool, List, [], ◌∷◌, Result, Ok, Err, codes, refl, sym, ◌∙◌, ap, ap₂, subst}
use Rattle.shelf_io.specs.Files.{Files}
use Rattle.sheet_base.specs.declared.flags.How.{How}
use Rattle.tin_base.specs.Triangulation.{Triangulation}
use Rattle.job_words.specs.declared.jobs.Job.{Job}
use Rattle.job_words.specs.declared.jobs.Job.TheVariants.{Migrate, Check as CheckJob, Make, Verify, Heights}
use Rattle.job_words.specs.declared.faults.WordsFault.{WordsFault}
use Rattle.job_words.specs.Jobs.{IsJobOf, IsWordsFault}
use Rattle.runs.specs.declared.status.Status.{Status}
use Rattle.runs.specs.declared.status.Status.TheVariants.{Same}
use Rattle.runs.specs.declared.refusal.Refusal.{Refusal}
use Rattle.runs.specs.declared.refusal.Refusal.TheVariants.{Words}
use Rattle.runs.specs.Refusals.{status_of, line_of}
use Rattle.runs.specs.Laws.{IsTinEnd}
use Rattle.runs.proofs.OneTin.{tin_end_is_one}
use Rattle.check_mode.specs.Checks.{sound_text}
use Rattle.migrate_mode.specs.Laws.{End, IsMigrationEnd, IsMakingEnd, MigrationIsOne, MakingIsOne}
use Rattle.verify_mode.specs.Laws.{IsVerificationEnd, VerificationIsOne}
use Rattle.height_mode.specs.Laws.{IsHeightsEnd, HeightsAreOne}
use Rattle.whole_runs.specs.Jobs.{migration_with, verification_with, heights_with}
use Rattle.whole_runs.specs.Outcome.{IsJobRefused, IsJobDone, HasOutcome, no_job, refused, done}
use Rattle.whole_runs.specs.Laws.{OutcomeIsOne}

-- the words give one job, or one fault
pub job_one : (words : List (List ℕ)) (job other : Job) → IsJobOf words job → IsJobOf words other → job ≡ other
job_one words job other x y = let e = sym x ∙ y in cc

words_fault_one : (words : List (List ℕ)) (fault other : WordsFault) → IsWordsFault words fault
    → IsWordsFault words other → fault ≡ other
words_fault_one words fault other x y = let e = sym x ∙ y in cc

pub job_or_fault : (words : List (List ℕ)) (job : Job) (fault : WordsFault) → IsJobOf words job
    → IsWordsFault words fault → ⊥
job_or_fault words job fault x y = let e = sym x ∙ y in cc

-- ---- a check, by how its triangulation ends
abbrev said_of : Result Triangulation Refusal → End
said_of (Ok tin) = Ok (Same, (codes "-", sound_text tin) ∷ [])
said_of (Err refusal) = Err refusal

abbrev IsJobEnd : Files → Job → End → Type 0
IsJobEnd files job (Ok end) = IsJobDone files job end.0 end.1
IsJobEnd files job (Err refusal) = IsJobRefused files job refusal

check_end : (files : Files) (how : How) (name : List ℕ) (end : End) → IsJobEnd files (CheckJob name how) end
    → (tin : Result Triangulation Refusal) × IsTinEnd files how name tin × (end ≡ said_of tin)
check_end files how name (Ok (status, made)) is =
    (Ok is.tin, is.ready, ap Ok (ap₂ (λ (s : Status) (m : Files). (s, m)) is.status_is is.made_is))
check_end files how name (Err refusal) is = (Err refusal, is, refl)

migration_end : (files : Files) (tin out : List ℕ) (how : How) (inverse cert sides : Bool) (layers : List (List ℕ))
    (end : End) → IsJobEnd files (Migrate tin out how inverse cert sides layers) end
    → IsMigrationEnd files (migration_with tin out how inverse cert sides layers) end
migration_end files tin out how inverse cert sides layers (Ok (status, made)) is = is
migration_end files tin out how inverse cert sides layers (Err refusal) is = is

making_end : (files : Files) (n : ℕ) (end : End) → IsJobEnd files (Make n) end → IsMakingEnd n end
making_end files n (Ok (status, made)) is = is
making_end files n (Err refusal) is = is

verification_end : (files : Files) (tin source written cert : List ℕ) (how : How) (inverse : Bool) (end : End)
    → IsJobEnd files (Verify tin source written cert how inverse) end
    → IsVerificationEnd files (verification_with tin source written cert how inverse) end
verification_end files tin source written cert how inverse (Ok (status, made)) is = is
verification_end files tin source written cert how inverse (Err refusal) is = is

heights_end : (files : Files) (tin out : List ℕ) (how : How) (points : List ℕ) (end : End)
    → IsJobEnd files (Heights tin out how points) end → IsHeightsEnd files (heights_with tin out how points) end
heights_end files tin out how points (Ok (status, made)) is = is
heights_end files tin out how points (Err refusal) is = is

job_end_one : MigrationIsOne → MakingIsOne → VerificationIsOne → HeightsAreOne → (files : Files) (job : Job) (a b : End)
    → IsJobEnd files job a → IsJobEnd files job b → a ≡ b
job_end_one migrations makings verifications lists files (Migrate tin out how inverse cert sides layers) a b x y =
    migrations files (migration_with tin out how inverse cert sides layers) a b
    (migration_end files tin out how inverse cert sides layers a x)
    (migration_end files tin out how inverse cert sides layers b y)
job_end_one migrations makings verifications lists files (CheckJob name how) a b x y =
    let (tin, ready, is) = check_end files how name a x in
    let (other, also_ready, also) = check_end files how name b y in
    is ∙ (ap said_of (tin_end_is_one files how name tin other ready also_ready) ∙ sym also)
job_end_one migrations makings verifications lists files (Make n) a b x y =
    makings n a b (making_end files n a x) (making_end files n b y)
job_end_one migrations makings verifications lists files (Verify tin source written cert how inverse) a b x y =
    verifications files (verification_with tin source written cert how inverse) a b
    (verification_end files tin source written cert how inverse a x)
    (verification_end files tin source written cert how inverse b y)
job_end_one migrations makings verifications lists files (Heights tin out how points) a b x y =
    lists files (heights_with tin out how points) a b (heights_end files tin out how points a x)
    (heights_end files tin out how points b y)

-- ---- the run
-- what an end makes
abbrev status_at : End → Status
status_at (Ok end) = end.0
status_at (Err refusal) = status_of refusal

abbrev files_at : End → Files
files_at (Ok end) = end.1
files_at (Err refusal) = (codes "-", line_of refusal) ∷ []

data IsRunEnd (words : List (List ℕ)) (files : Files) (status : Status) (made : Files) : Type 0 where
  without_job : (fault : WordsFault) → IsWordsFault words fault → status ≡ status_of (Words fault)
      → made ≡ (codes "-", line_of (Words fault)) ∷ [] → IsRunEnd words files status made
  with_job : (job : Job) → IsJobOf words job → (end : End) → IsJobEnd files job end → status ≡ status_at end
      → made ≡ files_at end → IsRunEnd words files status made

run_end : (words : List (List ℕ)) (files : Files) (status : Status) (made : Files) → HasOutcome words files status made
    → IsRunEnd words files status made
run_end words files status made (no_job fault lacks is) = without_job fault lacks is.status_is is.made_is
run_end words files status made (refused job given refusal why is) =
    with_job job given (Err refusal) why is.status_is is.made_is
run_end words files status made (done job given what) = with_job job given (Ok (status, made)) what refl refl

run_end_one : MigrationIsOne → MakingIsOne → VerificationIsOne → HeightsAreOne
    → (words : List (List ℕ)) (files : Files) (status other : Status) (made others : Files)
    → IsRunEnd words files status made → IsRunEnd words files other others
    → (status ≡ other) × (made ≡ others)
run_end_one migrations makings verifications lists words files status other made others (without_job fault lacks s m)
    (without_job also lacks_too t n) =
    let same = words_fault_one words fault also lacks lacks_too in
    (s ∙ (ap (λ f. status_of (Words f)) same ∙ sym t), m ∙ (ap (λ f. (codes "-", line_of (Words f)) ∷ []) same ∙ sym n))
run_end_one migrations makings verifications lists words files status other made others (without_job fault lacks s m)
    (with_job job given end is t n) = absurd (job_or_fault words job fault given lacks)
run_end_one migrations makings verifications lists words files status other made others (with_job job given end is s m)
    (without_job fault lacks t n) = absurd (job_or_fault words job fault given lacks)
run_end_one migrations makings verifications lists words files status other made others (with_job job given end is s m)
    (with_job also given_too another is_too t n) =
    let same = job_one words job also given given_too in
    let ends = job_end_one migrations makings verifications lists files also end another
    (subst (λ j. IsJobEnd files j end) same is) is_too in
    (s ∙ (ap status_at ends ∙ sym t), m ∙ (ap files_at ends ∙ sym n))

-- where a migration of the same files ends in one way, and so does what is made
pub outcome_is_one : MigrationIsOne → MakingIsOne → VerificationIsOne → HeightsAreOne → OutcomeIsOne
outcome_is_one migrations makings verifications lists words files status other made others x y =
    run_end_one migrations makings verifications lists words files status other made others
    (run_end words files status made x) (run_end words files other others y)
