-- What holds of the answers to words.
use Rattle.std.specs.Prelude.{◌≡◌, ◌≢◌, ◌⊎◌, List}
use Rattle.clap.specs.Walk.{Text}
use Rattle.job_words.specs.declared.jobs.Job.{Job}
use Rattle.job_words.specs.declared.faults.WordsFault.{WordsFault}
use Rattle.job_words.specs.declared.faults.WordsFault.TheVariants.{NoMemory}
use Rattle.job_words.specs.Jobs.{IsJobOf, IsWordsFault}
use Rattle.job_words.specs.JobFields.{IsPossibleJob}

-- words have a job or a fault of their own, not two jobs or faults, and not both
pub record HasOneAnswer (words : List Text) : Type 0 where
  pub some : ((wanted : Job) × IsJobOf words wanted)
      ⊎ ((fault : WordsFault) × IsWordsFault words fault × (fault ≢ NoMemory))
  pub one_job : (wanted other : Job) → IsJobOf words wanted → IsJobOf words other → wanted ≡ other
  pub one_fault : (fault other : WordsFault) → IsWordsFault words fault → IsWordsFault words other → fault ≡ other
  pub not_both : (wanted : Job) (fault : WordsFault) → IsJobOf words wanted → IsWordsFault words fault → ⊥

-- all words do
abbrev pub WordsHaveOneAnswer : Type 0
WordsHaveOneAnswer = (words : List Text) → HasOneAnswer words

-- each job of words keeps what jobs of its mode keep
abbrev pub JobsAreKept : Type 0
JobsAreKept = (words : List Text) (wanted : Job) → IsJobOf words wanted → IsPossibleJob wanted
