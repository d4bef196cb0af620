-- Words that begin with the mode of a check ask for one, or for nothing.
use Rattle.std.proofs.Common.{◌≡◌, ℕ, Bool, List, [], ◌∷◌, map, Option, None}
use Rattle.std.proofs.Common.{Some, Ok, Err, codes, ap, ◌||◌, refl}
use Rattle.std.specs.List.{list_any}
use Rattle.std.specs.Option.{option_map_or}
use Rattle.clap.specs.Walk.{Row}
use Rattle.job_words.specs.declared.jobs.Job.{Job}
use Rattle.job_words.specs.declared.jobs.Job.TheVariants.{Migrate, Check as CheckJob, Make, Verify, Heights}
use Rattle.job_words.specs.declared.faults.WordsFault.{WordsFault}
use Rattle.job_words.specs.declared.faults.WordsFault.TheVariants.{Parse}
use Rattle.job_words.specs.declared.faults.Which.TheVariants.{Tin}
use Rattle.job_words.specs.declared.modes.Mode.TheVariants as modes
use Rattle.job_words.specs.Readings.{reading_of, text_in}
use Rattle.job_words.specs.Jobs.{name_fault, how_in, unless, job_in, IsJobOf}
use Rattle.fault_runs.specs.Words.{check_words}

-- the job is a check
abbrev pub IsSomeCheck : Job → Type 0
IsSomeCheck (Migrate tin out how inverse cert sides layers) = ⊥
IsSomeCheck (CheckJob tin how) = Unit {0}
IsSomeCheck (Make n) = ⊥
IsSomeCheck (Verify tin source written cert how inverse) = ⊥
IsSomeCheck (Heights tin out how points) = ⊥

of_fault : (fault : Option WordsFault) (rows : List Row) (job : Job)
    → unless fault (CheckJob (text_in (codes "tin") rows) (how_in rows)) ≡ Ok job → IsSomeCheck job
of_fault (Some fault) rows job is = cc
of_fault None rows (Migrate tin out how inverse cert sides layers) is = cc
of_fault None rows (CheckJob tin how) is = tt
of_fault None rows (Make n) is = cc
of_fault None rows (Verify tin source written cert how inverse) is = cc
of_fault None rows (Heights tin out how points) is = cc

of_reading : (reading : Option (List Row)) (job : Job)
    → option_map_or (job_in modes.Check) reading (Err Parse) ≡ Ok job → IsSomeCheck job
of_reading None job is = cc
of_reading (Some rows) job is = of_fault (name_fault Tin (text_in (codes "tin") rows)) rows job is

pub of_words : (words : List (List ℕ)) (job : Job) → IsJobOf (check_words words) job → IsSomeCheck job
of_words words job is = of_reading (reading_of modes.Check (check_words words)) job is

-- ---- some word
pub any_word : {X : Type 0} (p : List ℕ → Bool) (f : X → List ℕ) (words : List X)
    → list_any (λ word. p (f word)) words ≡ list_any p (map f words)
any_word p f [] = refl
any_word p f (word ∷ words) = ap (λ (rest : Bool). p (f word) || rest) (any_word p f words)

-- ---- one word more
