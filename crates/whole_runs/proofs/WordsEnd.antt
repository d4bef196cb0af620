-- How a run ends by what its words ask for: a job, none, or what wants no file.
use Rattle.std.proofs.Common.{◌≡◌, ◌≢◌, ◌⊎◌, inl, inr, ℕ, List, subst}
use Rattle.job_words.specs.declared.faults.WordsFault.{WordsFault}
use Rattle.job_words.specs.declared.faults.WordsFault.TheVariants.{NoMemory as WordsMemory}
use Rattle.job_words.specs.declared.jobs.Job.{Job}
use Rattle.job_words.specs.declared.jobs.Job.TheVariants.{Migrate, Check as CheckJob, Make, Verify, Heights}
use Rattle.job_words.specs.Jobs.{IsJobOf, IsWordsFault}
use Rattle.runs.specs.declared.status.Status.{Status}
use Rattle.runs.specs.declared.status.Status.TheVariants.{Write, Memory}
use Rattle.whole_runs.specs.Jobs.{WantNoFile}
use Rattle.runs.specs.Refusals.{status_of_words}
use Rattle.runs.proofs.RunEnds.{by_memory}
use Rattle.whole_runs.specs.Ends.{MayEnd, IsWithoutFile}
use Rattle.whole_runs.proofs.OneOutcome.{job_one, job_or_fault}

-- each job may end with a write fault, or because memory ran out
write_end : (job : Job) → MayEnd job Write
write_end (Migrate tin out how inverse cert sides layers) = tt
write_end (CheckJob tin how) = tt
write_end (Make n) = tt
write_end (Verify tin source written cert how inverse) = tt
write_end (Heights tin out how points) = tt

memory_end : (job : Job) → MayEnd job Memory
memory_end (Migrate tin out how inverse cert sides layers) = tt
memory_end (CheckJob tin how) = tt
memory_end (Make n) = tt
memory_end (Verify tin source written cert how inverse) = tt
memory_end (Heights tin out how points) = tt

pub end_as : (job : Job) (status result : Status) → (result ≡ status) ⊎ (result ≡ Write) → MayEnd job status
    → MayEnd job result
end_as job status result (inl is) may = rw is may
end_as job status result (inr is) may = rw is (write_end job)

-- the words give no other job
pub end_of_job : (words : List (List ℕ)) (job other : Job) (status : Status) → IsJobOf words job → IsJobOf words other
    → MayEnd job status → MayEnd other status
end_of_job words job other status given also may =
    subst (λ (j : Job). MayEnd j status) (job_one words job other given also) may

-- words that give a job have no fault
pub end_without : (words : List (List ℕ)) (job : Job) (fault : WordsFault) → IsJobOf words job
    → (fault ≢ WordsMemory → IsWordsFault words fault) → MayEnd job (status_of_words fault)
end_without words job fault given lacks =
    by_memory (λ (f : WordsFault). (f ≢ WordsMemory → IsWordsFault words f) → MayEnd job (status_of_words f))
    (λ lacks. memory_end job) (λ f other lacks. absurd (job_or_fault words job f given (lacks other))) fault lacks

-- ---- words that want no file
-- the job that they give, where they give one, wants none
pub wants_none : (words : List (List ℕ)) (job : Job) → IsJobOf words job → WantNoFile words → IsWithoutFile job
wants_none words job given (inl (fault, lacks)) = absurd (job_or_fault words job fault given lacks)
wants_none words job given (inr (n, asks)) =
    subst (λ (j : Job). IsWithoutFile j) (job_one words (Make n) job asks given) tt
