-- A run has an outcome.
use Rattle.std.proofs.Common.{◌≡◌, ◌≢◌, inl, inr, ℕ, List, [], ◌∷◌, length, Option, None, Some, Result, Ok, Err, codes}
use Rattle.std.proofs.Common.{refl, ap}
use Rattle.std.proofs.lemmas.Bool.{cases_lt}
use Rattle.shelf_io.specs.Files.{Files, bytes_of}
use Rattle.tin_base.specs.Triangulation.{Triangulation}
use Rattle.tin_faults.specs.Laws.{FaultsExist, ListsAreCounted}
use Rattle.tin_file.specs.Laws.{OutcomeExists as AnswerExists}
use Rattle.tin_file.specs.TinFiles.{Answers}
use Rattle.tin_file.specs.declared.faults.TinFault.{TinFault}
use Rattle.tin_file.specs.declared.faults.TinFault.TheVariants.{NoMemory as TinMemory}
use Rattle.job_words.specs.declared.jobs.Job.{Job}
use Rattle.job_words.specs.declared.jobs.Job.TheVariants.{Migrate, Check as CheckJob, Make, Verify, Heights}
use Rattle.job_words.specs.declared.faults.WordsFault.{WordsFault}
use Rattle.job_words.specs.Jobs.{answer_of, IsJobOf}
use Rattle.runs.specs.declared.loads.TheConstants.{MOST_BYTES}
use Rattle.runs.specs.declared.status.Status.{Status}
use Rattle.runs.specs.declared.status.Status.TheVariants.{Limit}
use Rattle.runs.specs.declared.refusal.Refusal.{Refusal}
use Rattle.runs.specs.declared.refusal.Refusal.TheVariants.{Words, TinUnread, TinLong, Tin}
use Rattle.runs.specs.Status.{end_of}
use Rattle.runs.specs.Triangulations.{HasFile}
use Rattle.fault_runs.specs.declared.loads.TheConstants.{MOST_FAULTS}
use Rattle.fault_runs.specs.declared.refusals.FaultRefusal.{FaultRefusal}
use Rattle.fault_runs.specs.declared.refusals.FaultRefusal.TheVariants.{Run, TooManyFaults}
use Rattle.fault_runs.specs.declared.words.Wanted.{Wanted}
use Rattle.fault_runs.specs.FaultsText.{faults_text}
use Rattle.fault_runs.specs.Spots.{spots_of}
use Rattle.fault_runs.specs.Refusals.{status_of, line_of, Refuses}
use Rattle.fault_runs.specs.Words.{check_words, wants_lines, AsksFaults}
use Rattle.fault_runs.specs.Outcome.{HasRead, IsReadRefused, has_some, HasOutcome, no_job, refused, too_many, listed}
use Rattle.fault_runs.specs.Laws.{OutcomeExists}
use Rattle.fault_runs.proofs.WordsOfCheck.{IsSomeCheck, of_words}

abbrev HasSomeOutcome : List (List ℕ) → Files → Type 0
HasSomeOutcome words files = (status : Status) × (made : Files) × HasOutcome words files status made

refusing : (refusal : FaultRefusal) → Refuses refusal (status_of refusal) ((codes "-", line_of refusal) ∷ [])
refusing refusal = record { status_is = refl; made_is = refl }

module _ (answers : AnswerExists) (exist : FaultsExist) (counts : ListsAreCounted) (words : List (List ℕ))
    (files : Files) (wanted : Wanted) (asks : AsksFaults words wanted) where
  of_refusal : (refusal : Refusal) → IsReadRefused files wanted.how wanted.tin refusal → HasSomeOutcome words files
  of_refusal refusal is = (
    status_of (Run refusal),
    (codes "-", line_of (Run refusal)) ∷ [],
    refused wanted asks refusal is (refusing (Run refusal)),
  )

  of_tin : (tin : Triangulation) → HasRead files wanted.how wanted.tin tin → HasSomeOutcome words files
  of_tin tin read =
      let (faults, are) = exist tin in
      elim (cases_lt MOST_FAULTS (length faults)) [
        | inl more ↦ (
          Limit,
          (codes "-", line_of TooManyFaults) ∷ [],
          too_many wanted asks
              (record { tin = tin; read = read; more = (counts tin faults MOST_FAULTS are).1 more })
              (refusing TooManyFaults),
        )
        | inr few ↦ (
          end_of (has_some faults),
          (codes "-", faults_text wanted.lines (spots_of tin faults)) ∷ [],
          listed wanted asks (record {
            tin = tin;
            read = read;
            said = faults_text wanted.lines (spots_of tin faults);
            some = has_some faults;
            is_said = record { faults = faults; are = are; few = few; said_is = refl; some_is = refl };
            status_is = refl;
            made_is = refl;
          }),
        )
      ]

  of_answer : (text : List ℕ) → HasFile files wanted.tin text → (answer : Result Triangulation TinFault)
      → Answers wanted.how text answer → answer ≢ Err TinMemory → HasSomeOutcome words files
  of_answer text file (Ok tin) is other = of_tin tin (text, file, is)
  of_answer text file (Err fault) is other =
      of_refusal (Tin fault) (text, file, record { answers = is; of_text = λ e. other (ap Err e) })

  of_file : (found : Option (List ℕ)) → bytes_of files wanted.tin ≡ found → HasSomeOutcome words files
  of_file None is = of_refusal TinUnread is
  of_file (Some text) is =
      elim (cases_lt MOST_BYTES (length text)) [
        | inl more ↦ of_refusal TinLong (text, is, more)
        | inr few ↦
            let (answer, answered, other) = answers wanted.how text in
            of_answer text (record { found = is; within = few }) answer answered other
      ]

module _ (answers : AnswerExists) (exist : FaultsExist) (counts : ListsAreCounted) (words : List (List ℕ))
    (files : Files) where
  by_job : (job : Job) → IsSomeCheck job → IsJobOf (check_words words) job → HasSomeOutcome words files
  by_job (CheckJob tin how) check is =
      of_file answers exist counts words files (record { tin = tin; how = how; lines = wants_lines words })
      (record { job = is; lines = refl }) (bytes_of files tin) refl
  by_job (Migrate tin out how inverse cert sides layers) check is = absurd check
  by_job (Make n) check is = absurd check
  by_job (Verify tin source written cert how inverse) check is = absurd check
  by_job (Heights tin out how points) check is = absurd check

  by_answer : (answer : Result Job WordsFault) → answer_of (check_words words) ≡ answer → HasSomeOutcome words files
  by_answer (Ok job) is = by_job job (of_words words job is) is
  by_answer (Err fault) is = (
    status_of (Run (Words fault)),
    (codes "-", line_of (Run (Words fault))) ∷ [],
    no_job fault is (refusing (Run (Words fault))),
  )

pub outcome_exists : AnswerExists → FaultsExist → ListsAreCounted → OutcomeExists
outcome_exists answers exist counts words files =
    by_answer answers exist counts words files (answer_of (check_words words)) refl
