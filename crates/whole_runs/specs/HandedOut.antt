-- What a run hands out beside its status: the refusal that came, or where the job was done its report, or its
-- triangulation where it is a check.
use Rattle.std.specs.Prelude.{◌≡◌, ◌≢◌, ◌⊎◌, List, [], ◌∷◌, ◌++◌, ℕ, codes, Option, None, Some, IfSome, IfNone}
use Rattle.shelf_io.specs.Files.{Files}
use Rattle.job_words.specs.declared.jobs.Job.{Job}
use Rattle.job_words.specs.declared.jobs.Job.TheVariants.{Migrate, Check, Make}
use Rattle.job_words.specs.declared.faults.WordsFault.{WordsFault}
use Rattle.job_words.specs.declared.faults.WordsFault.TheVariants.{NoMemory as WordsMemory}
use Rattle.job_words.specs.Jobs.{IsJobOf, IsWordsFault}
use Rattle.tin_base.specs.Triangulation.{Triangulation}
use Rattle.check_mode.specs.Checks.{IsTinOfCheck}
use Rattle.report_text.specs.Reports.{ReportContents}
use Rattle.report_text.specs.ReportText.{report_text}
use Rattle.runs.specs.declared.status.Status.{Status}
use Rattle.runs.specs.declared.status.Status.TheVariants.{Same, Changed, Write}
use Rattle.runs.specs.declared.refusal.Refusal.{Refusal}
use Rattle.runs.specs.declared.refusal.Refusal.TheVariants.{Words}
use Rattle.runs.specs.Refusals.{status_of, line_file}
use Rattle.runs.specs.Counts.{ShelfCounts, HasFailed}
use Rattle.runs.specs.Causes.{HasCauses}
use Rattle.publication.specs.Fronts.{HasWritten}
use Rattle.publication.specs.RunEnds.{IsHandedOut}
use Rattle.whole_runs.specs.Outcome.{IsJobDone}
use Rattle.whole_runs.specs.Ends.{MayRefuseJobOver, MayEnd, LacksWantedFile, IsWrittenOf}

-- the words are refused for their fault; memory may run out while they are read
abbrev pub IsRefusalOfWords : List (List ℕ) → Refusal → Type 0
IsRefusalOfWords words refusal =
    (fault : WordsFault) × (refusal ≡ Words fault) × (fault ≢ WordsMemory → IsWordsFault words fault)

-- What the refusal of a job says, whether or not the shelf states its files.
pub record IsRefusalOfJob (told : Option Files) (counts : ShelfCounts) (job : Job) (refusal : Refusal) : Type 0 where
  -- what the shelf states gives it, or some bytes where it states nothing; or a read failed, or memory ran out
  pub refused : MayRefuseJobOver told job (HasFailed counts) refusal
  -- what the counts say of it
  pub counted : HasCauses (LacksWantedFile job told) (MayEnd job) counts refusal

-- why a run is refused: for its words, or as their job may be
abbrev pub IsRefusalOfRun : List (List ℕ) → Option Files → ShelfCounts → Refusal → Type 0
IsRefusalOfRun words told counts refusal =
    IsRefusalOfWords words refusal ⊎ ((job : Job) × IsJobOf words job × IsRefusalOfJob told counts job refusal)

-- ---- where nothing is refused
-- the text is that of the report
abbrev pub HasText : List ℕ → Option ReportContents → Type 0
HasText said None = ⊥
HasText said (Some report) = said ≡ report_text report

-- the report whose text a job prints; a check, a verification and a list of points have none
abbrev pub IsReportOf : Job → List ℕ → Option ReportContents → Type 0
IsReportOf (Migrate tin out how inverse cert sides layers) said report = HasText said report
IsReportOf (Make n) said report = HasText said report
IsReportOf job said report = report ≡ None

-- the triangulation whose line a check prints, which the shelf states; no other job has one
abbrev pub IsSoundOf : Option Files → Job → List ℕ → Option Triangulation → Type 0
IsSoundOf told (Check tin how) said None = ⊥
IsSoundOf told (Check tin how) said (Some sound) = IsTinOfCheck told how tin said sound
IsSoundOf told job said sound = sound ≡ None

-- What is known of a run that is not refused.
pub record IsRunDone (words : List (List ℕ)) (told : Option Files) (status : Status) (made : Option Files)
    (report : Option ReportContents) (sound : Option Triangulation) : Type 0 where
  -- the words give a job, and these layers' files and this text are written of it
  pub job : Job
  pub given : IsJobOf words job
  pub layers : Files
  pub said : List ℕ
  pub wanted : Status
  pub form : IsWrittenOf job layers said wanted
  -- the job is done over the files that the shelf states
  pub done : IfSome told (λ files. IsJobDone files job wanted (layers ++ (codes "-", said) ∷ []))
  -- all of it is made, or after a write fault a first part
  pub written : HasWritten (layers ++ (codes "-", said) ∷ []) wanted status made
  -- the report is the one whose text this is, also where only a first part of the text is made
  pub reported : IsReportOf job said report
  -- the triangulation is the one whose line this is, where the job is a check
  pub checked : IsSoundOf told job said sound

-- What is handed out: a refusal, or none, the report and the triangulation.
pub record HandsOut (words : List (List ℕ)) (told : Option Files) (counts : ShelfCounts) (status : Status)
    (made : Option Files) (handed : Option Refusal) (report : Option ReportContents) (sound : Option Triangulation) : Type 0
  where
    -- where there is a refusal it is the one that came, also where its line could not be printed whole
    pub refusal : IfSome handed (λ refusal. IsHandedOut (IsRefusalOfRun words told counts refusal) (status_of refusal)
        (line_file refusal) status made)
    -- then there is no report, and no triangulation
    pub no_report : IfSome handed (λ refusal. report ≡ None)
    pub no_sound : IfSome handed (λ refusal. sound ≡ None)
    -- where there is none nothing was refused: the job is done, and what is made is of that, as are the report and the
    -- triangulation
    pub done : IfNone handed (IsRunDone words told status made report sound)
    pub status_is : IfNone handed ((status ≡ Same) ⊎ ((status ≡ Changed) ⊎ (status ≡ Write)))
