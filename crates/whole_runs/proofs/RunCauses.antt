-- What the job of a run says of its status, from why it is refused, or from what it was ready to write.
use Rattle.std.proofs.Common.{◌≢◌, ℕ, List, Option}
use Rattle.shelf_io.specs.Files.{Files}
use Rattle.job_words.specs.declared.faults.WordsFault.{WordsFault}
use Rattle.job_words.specs.declared.faults.WordsFault.TheVariants.{NoMemory as WordsMemory}
use Rattle.job_words.specs.declared.jobs.Job.{Job}
use Rattle.job_words.specs.Jobs.{IsJobOf, IsWordsFault}
use Rattle.runs.specs.declared.loads.TheConstants.{MOST_VERIFIED}
use Rattle.runs.specs.declared.output.RunOutput.{RunOutput}
use Rattle.runs.specs.declared.status.Status.{Status}
use Rattle.runs.specs.declared.status.Status.TheVariants.{Read}
use Rattle.runs.specs.declared.refusal.Refusal.{Refusal}
use Rattle.runs.specs.declared.refusal.Refusal.TheVariants.{Words}
use Rattle.runs.specs.Status.{end_of}
use Rattle.runs.specs.Refusals.{status_of, line_file}
use Rattle.runs.specs.Counts.{ShelfCounts, HasGivenMore}
use Rattle.runs.specs.Output.{files_of, HasForm}
use Rattle.publication.specs.Fronts.{HasWritten}
use Rattle.publication.specs.RunEnds.{HasStatusCauses}
use Rattle.publication.proofs.RunEnds.{not_so, words_unread, end_understood, end_unread, plain_causes, refusal_causes}
use Rattle.whole_runs.specs.Ends.{MayEnd, LacksWantedFile, LacksWantedOf, IsWrittenOf, IsWithoutFile}
use Rattle.whole_runs.specs.HandedOut.{IsRefusalOfJob}
use Rattle.whole_runs.specs.Jobs.{LacksJob}
use Rattle.whole_runs.specs.RunEnds.{HasJobCauses}
use Rattle.whole_runs.proofs.OneOutcome.{job_or_fault}
use Rattle.whole_runs.proofs.ReportLimits.{limit_done, verified_told, verified_done}
use Rattle.whole_runs.proofs.WordsEnd.{end_as, end_of_job, end_without, wants_none}

module _ (words : List (List ℕ)) (files : Option Files) (counts : ShelfCounts) (result : Status) (made : Option Files)
  where
    -- words that are not understood
    pub words_job : (fault : WordsFault) → (fault ≢ WordsMemory → IsWordsFault words fault)
        → HasWritten (line_file (Words fault)) (status_of (Words fault)) result made
        → HasJobCauses words counts result made
    words_job fault lacks written = record {
      unread = λ none. not_so Read (status_of (Words fault)) result (words_unread fault) (λ no. cc) written.status;
      verified_limit = verified_told (Words fault) result made (HasGivenMore MOST_VERIFIED counts) written (λ no. cc)
          (λ no. cc);
      may_end = λ job given. end_as job (status_of (Words fault)) result written.status
          (end_without words job fault given lacks);
    }

    -- a job that is refused
    pub refused_causes : (job : Job) (refusal : Refusal) → IsJobOf words job → IsRefusalOfJob files counts job refusal
        → HasWritten (line_file refusal) (status_of refusal) result made
        → HasStatusCauses (LacksJob words) (LacksWantedOf words files) counts result made
    refused_causes job refusal given why written =
        refusal_causes (LacksJob words) (LacksWantedOf words files) counts result made (LacksWantedFile job files)
        (MayEnd job) refusal (λ lacks. job_or_fault words job lacks.0 given lacks.1) (λ lacks. (job, given, lacks))
        why.counted written

    pub refused_job : (job : Job) (refusal : Refusal) → IsJobOf words job → IsRefusalOfJob files counts job refusal
        → (IsWithoutFile job → status_of refusal ≢ Read) → HasWritten (line_file refusal) (status_of refusal) result made
        → HasJobCauses words counts result made
    refused_job job refusal given is unread written =
        let why = is.counted in
        record {
          unread = λ none. not_so Read (status_of refusal) result (unread (wants_none words job given none)) (λ no. cc)
              written.status;
          verified_limit = verified_told refusal result made (HasGivenMore MOST_VERIFIED counts) written why.written_long
              why.cert_long;
          may_end = λ other also. end_as other (status_of refusal) result written.status
              (end_of_job words job other (status_of refusal) given also why.may_end);
        }

    -- a job that is done
    pub done_causes : (job : Job) (output : RunOutput) → IsJobOf words job → HasForm (IsWrittenOf job) output
        → HasWritten (files_of output) (end_of output.changed) result made
        → HasStatusCauses (LacksJob words) (LacksWantedOf words files) counts result made
    done_causes job output given form written =
        plain_causes (LacksJob words) (LacksWantedOf words files) counts result made (end_of output.changed)
        (end_understood output.changed) (end_unread output.changed)
        (λ lacks. job_or_fault words job lacks.0 given lacks.1) written.status
        (limit_done job output result made _ form written)

    pub done_job : (job : Job) (output : RunOutput) → IsJobOf words job → HasForm (IsWrittenOf job) output
        → MayEnd job (end_of output.changed) → HasWritten (files_of output) (end_of output.changed) result made
        → HasJobCauses words counts result made
    done_job job output given form may written = record {
      unread = λ none. not_so Read (end_of output.changed) result (end_unread output.changed) (λ no. cc) written.status;
      verified_limit = verified_done job output result made (HasGivenMore MOST_VERIFIED counts) form written;
      may_end = λ other also. end_as other (end_of output.changed) result written.status
          (end_of_job words job other (end_of output.changed) given also may);
    }
