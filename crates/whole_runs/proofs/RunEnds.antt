-- What a run may make, and what is made of it.
use Rattle.std.proofs.Common.{◌≡◌, ◌≢◌, inl, inr, ℕ, List, [], ◌∷◌, codes, Option, None}
use Rattle.std.proofs.Common.{Some, IfSome, refl, sym, ◌∙◌, ap, subst}
use Rattle.shelf_io.specs.Files.{Files}
use Rattle.job_words.specs.declared.faults.WordsFault.{WordsFault}
use Rattle.job_words.specs.declared.faults.WordsFault.TheVariants.{NoMemory as WordsMemory}
use Rattle.job_words.specs.declared.jobs.Job.{Job}
use Rattle.job_words.specs.declared.jobs.Job.TheVariants.{Make}
use Rattle.job_words.specs.Jobs.{IsJobOf, IsWordsFault}
use Rattle.runs.specs.declared.status.Status.{Status}
use Rattle.runs.specs.declared.status.Status.TheVariants.{Write}
use Rattle.runs.specs.declared.refusal.Refusal.{Refusal}
use Rattle.runs.specs.declared.refusal.Refusal.TheVariants.{Words}
use Rattle.runs.specs.Refusals.{status_of, line_file}
use Rattle.runs.specs.Causes.{by_the_files, unread, no_room}
use Rattle.runs.proofs.RefusalLines.{memory-line}
use Rattle.runs.proofs.RunEnds.{by_memory}
use Rattle.migrate_mode.specs.Maker.{MayNotBeMade}
use Rattle.whole_runs.specs.Outcome.{IsJobDone, no_job, refused, done}
use Rattle.publication.specs.Fronts.{HasWritten}
use Rattle.whole_runs.specs.Ends.{Makes, by_outcome, after_read_fault, out_of_memory, IsToBeMade, HasMadeAfter}
use Rattle.whole_runs.specs.Ends.{all_made, front_made, MayRefuseJob, MayRefuseJobOver}

-- a job's refusal is what a run may make
pub makes_refusal : (words : List (List ℕ)) (files : Files) (shelf_rose : Type 0) (job : Job) (refusal : Refusal)
    → IsJobOf words job → MayRefuseJob files job shelf_rose refusal
    → Makes words files shelf_rose (status_of refusal) (line_file refusal)
makes_refusal words files shelf_rose job refusal given (by_the_files is) =
    by_outcome (refused job given refusal is (record { status_is = refl; made_is = refl }))
makes_refusal words files shelf_rose job refusal given (unread rose reached) =
    after_read_fault rose job given refusal reached (record { status_is = refl; made_is = refl })
makes_refusal words files shelf_rose job refusal given (no_room is) =
    out_of_memory (record { status_is = is; made_is = ap (λ line. (codes "-", line) ∷ []) (memory-line refusal is) })

-- words that are refused, or memory ran out while they were read
pub makes_no_job : (words : List (List ℕ)) (files : Files) (shelf_rose : Type 0) (fault : WordsFault)
    → (fault ≢ WordsMemory → IsWordsFault words fault)
    → Makes words files shelf_rose (status_of (Words fault)) (line_file (Words fault))
makes_no_job words files shelf_rose fault lacks =
    by_memory
    (λ (f : WordsFault). (f ≢ WordsMemory → IsWordsFault words f)
    → Makes words files shelf_rose (status_of (Words f)) (line_file (Words f)))
    (λ lacks. out_of_memory (record { status_is = refl; made_is = refl }))
    (λ f other lacks. by_outcome (no_job f (lacks other) (record { status_is = refl; made_is = refl }))) fault lacks

pub makes_files : (words : List (List ℕ)) (files : Files) (shelf_rose : Type 0) (job : Job) (status : Status)
    (made : Files) → IsJobOf words job → IsJobDone files job status made → Makes words files shelf_rose status made
makes_files words files shelf_rose job status made given is = by_outcome (done job given is)

-- what a run was to make is made, or a first part of it after a fault
pub stands_so : (words : List (List ℕ)) (whole : Files) (wanted result : Status) (made : Option Files) → wanted ≢ Write
    → IsToBeMade words wanted whole → HasWritten whole wanted result made → IfSome made (HasMadeAfter words result)
stands_so words whole wanted result None other is_wanted written = tt
stands_so words whole wanted result (Some made) other is_wanted written =
    elim written.status [
      | inl is ↦
          let same : made ≡ whole = written.all (λ write. other (sym is ∙ write)) in
          all_made (subst (λ (m : Files). IsToBeMade words result m) (sym same)
          (subst (λ (s : Status). IsToBeMade words s whole) (sym is) is_wanted))
      | inr is ↦ front_made is wanted whole is_wanted (written.front is)
    ]

-- a job that makes is refused as what it makes is, whatever the shelf states
pub making_refused : (told : Option Files) (n : ℕ) (rose : Type 0) (refusal : Refusal) → MayNotBeMade n refusal
    → MayRefuseJobOver told (Make n) rose refusal
making_refused told n rose refusal (by_the_files is) = by_the_files is
making_refused told n rose refusal (unread none reached) = absurd none
making_refused told n rose refusal (no_room is) = no_room is

-- what refuses a job over what the shelf states refuses it over its files
pub refused_told : (told : Option Files) (job : Job) (rose : Type 0) (refusal : Refusal)
    → MayRefuseJobOver told job rose refusal → IfSome told (λ files. MayRefuseJob files job rose refusal)
refused_told None job rose refusal why = tt
refused_told (Some files) job rose refusal why = why
