-- What the matches of a list of points with heights ask for.
use Rattle.std.proofs.Common.{◌≡◌, ◌⊎◌, List, inl, inr, Some, None, Ok, Err, sym, ap, ◌∙◌, codes, refl}
use Rattle.clap.specs.Walk.{Row, Text}
use Rattle.sheet_base.specs.declared.flags.How.{How}
use Rattle.job_words.specs.declared.jobs.Job.{Job}
use Rattle.job_words.specs.declared.jobs.Job.TheVariants as job
use Rattle.job_words.specs.declared.modes.Mode.TheVariants.{Heights}
use Rattle.job_words.specs.declared.faults.WordsFault.{WordsFault}
use Rattle.job_words.specs.declared.faults.WordsFault.TheVariants.{NoMemory}
use Rattle.job_words.specs.Readings.{text_in}
use Rattle.job_words.specs.Faults.{IsAnswer}
use Rattle.job_words.specs.Jobs.{how_in, job_in, unless, heights_fault, heights_in}

-- names that are those of the matches
pub record AreNamed (rows : List Row) (tin_name out_name points_name : Text) : Type 0 where
  pub tin : tin_name ≡ text_in (codes "tin") rows
  pub out : out_name ≡ text_in (codes "out") rows
  pub points : points_name ≡ text_in (codes "points") rows

same-fault : (rows : List Row) (tin out points : Text) → AreNamed rows tin out points
    → job_in Heights rows ≡ unless (heights_fault tin out points) (heights_in rows)
same-fault rows tin out points named = rw (named.tin, named.out, named.points) refl

-- a fault of the names, or memory ran out
pub points-refused : (rows : List Row) (tin out points : Text) (fault : WordsFault) → AreNamed rows tin out points
    → (fault ≡ NoMemory) ⊎ (heights_fault tin out points ≡ Some fault) → IsAnswer (job_in Heights rows) (Err fault)
points-refused rows tin out points fault named is = elim is [
  | inl memory ↦ inl (ap (λ f. Err f) memory)
  | inr own ↦ inr (sym (same-fault rows tin out points named ∙ ap (λ f. unless f (heights_in rows)) own))
]

-- names without a fault
pub points-taken : (rows : List Row) (tin out points : Text) (wanted : Job) → AreNamed rows tin out points
    → heights_fault tin out points ≡ None → wanted ≡ heights_in rows → IsAnswer (job_in Heights rows) (Ok wanted)
points-taken rows tin out points wanted named none is =
    inr (ap (λ w. Ok w) is ∙ sym (same-fault rows tin out points named ∙ ap (λ f. unless f (heights_in rows)) none))

-- what is read of the matches
pub same-heights : (rows : List Row) (tin out points : Text) (how : How) → AreNamed rows tin out points
    → how ≡ how_in rows → job.Heights tin out how points ≡ heights_in rows
same-heights rows tin out points how named is = λ i. job.Heights (named.tin i) (named.out i) (is i) (named.points i)
