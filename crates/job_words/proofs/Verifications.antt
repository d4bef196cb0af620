-- What the matches of a verification ask for.
use Rattle.std.proofs.Common.{◌≡◌, ◌⊎◌, List, inl, inr, Some, None, Ok, Err, Bool, sym, ap, ◌∙◌, codes, refl}
use Rattle.clap.specs.Walk.{Row, Text}
use Rattle.sheet_base.specs.declared.flags.How.{How}
use Rattle.job_words.specs.declared.jobs.Job.{Job}
use Rattle.job_words.specs.declared.jobs.Job.TheVariants as job
use Rattle.job_words.specs.declared.modes.Mode.TheVariants.{Verify}
use Rattle.job_words.specs.declared.faults.WordsFault.{WordsFault}
use Rattle.job_words.specs.declared.faults.WordsFault.TheVariants.{NoMemory}
use Rattle.job_words.specs.Readings.{is_set, text_in}
use Rattle.job_words.specs.Faults.{IsAnswer}
use Rattle.job_words.specs.Jobs.{how_in, job_in, unless, verification_fault, verification_in}

-- names that are those of the matches
pub record AreFiles (rows : List Row) (tin_name source_name written_name cert_name : Text) : Type 0 where
  pub tin : tin_name ≡ text_in (codes "tin") rows
  pub source : source_name ≡ text_in (codes "source") rows
  pub written : written_name ≡ text_in (codes "written") rows
  pub cert : cert_name ≡ text_in (codes "cert") rows

same-fault : (rows : List Row) (tin source written cert : Text) → AreFiles rows tin source written cert
    → job_in Verify rows ≡ unless (verification_fault tin source written cert) (verification_in rows)
same-fault rows tin source written cert named = rw (named.tin, named.source, named.written, named.cert) refl

-- a fault of the names, or memory ran out
pub files-refused : (rows : List Row) (tin source written cert : Text) (fault : WordsFault)
    → AreFiles rows tin source written cert
    → (fault ≡ NoMemory) ⊎ (verification_fault tin source written cert ≡ Some fault)
    → IsAnswer (job_in Verify rows) (Err fault)
files-refused rows tin source written cert fault named is = elim is [
  | inl memory ↦ inl (ap (λ f. Err f) memory)
  | inr own ↦ inr (sym (same-fault rows tin source written cert named ∙ ap (λ f. unless f (verification_in rows)) own))
]

-- names without a fault
pub files-taken : (rows : List Row) (tin source written cert : Text) (wanted : Job)
    → AreFiles rows tin source written cert
    → verification_fault tin source written cert ≡ None → wanted ≡ verification_in rows
    → IsAnswer (job_in Verify rows) (Ok wanted)
files-taken rows tin source written cert wanted named none is =
    inr (ap (λ w. Ok w) is ∙ sym (same-fault rows tin source written cert named
    ∙ ap (λ f. unless f (verification_in rows)) none))

-- the verification of what is read of the matches
pub same-verification : (rows : List Row) (tin source written cert : Text) (how : How) (inverse : Bool)
    → AreFiles rows tin source written cert
    → how ≡ how_in rows → inverse ≡ is_set (codes "inverse") rows
    → job.Verify tin source written cert how inverse ≡ verification_in rows
same-verification rows tin source written cert how inverse named is turned =
    λ i. job.Verify (named.tin i) (named.source i) (named.written i) (named.cert i) (is i) (turned i)
