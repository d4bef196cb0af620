-- How a run ends: facts of the files that a shelf states, of faults of words, and of the status.
use Rattle.std.proofs.Common.{◌≡◌, ◌≢◌, ◌⊎◌, inl, inr, Bool, true, false, Option, None, Some, IfSome}
use Rattle.shelf_io.specs.Files.{Files}
use Rattle.job_words.specs.declared.faults.WordsFault.{WordsFault}
use Rattle.job_words.specs.declared.faults.WordsFault.TheVariants.{NoMode, Parse, Size, Many, Name, Suffix, SameName}
use Rattle.job_words.specs.declared.faults.WordsFault.TheVariants.{NoMemory}
use Rattle.runs.specs.declared.status.Status.{Status}
use Rattle.runs.specs.declared.status.Status.TheVariants.{Same, Changed, Write}
use Rattle.runs.specs.Status.{end_of}

-- ---- the files that a shelf states
-- a fact of the files follows from another
pub told : {P Q : Files → Type 0} (files : Option Files) → ((f : Files) → P f → Q f) → IfSome files P → IfSome files Q
told None f p = tt
told (Some files) f p = f files p

pub told_always : {Q : Files → Type 0} (files : Option Files) → ((f : Files) → Q f) → IfSome files Q
told_always None f = tt
told_always (Some files) f = f files

-- ---- words that are refused
-- memory ran out while words were read, or they have another fault
pub by_memory : (P : WordsFault → Type 0) → P NoMemory → ((fault : WordsFault) → fault ≢ NoMemory → P fault)
    → (fault : WordsFault) → P fault
by_memory P memory other NoMode = other NoMode (λ e. cc)
by_memory P memory other Parse = other Parse (λ e. cc)
by_memory P memory other Size = other Size (λ e. cc)
by_memory P memory other Many = other Many (λ e. cc)
by_memory P memory other (Name which) = other (Name which) (λ e. cc)
by_memory P memory other (Suffix layer) = other (Suffix layer) (λ e. cc)
by_memory P memory other (SameName layer) = other (SameName layer) (λ e. cc)
by_memory P memory other NoMemory = memory

-- ---- a run that is not refused
pub never-write-end : (changed : Bool) → end_of changed ≢ Write
never-write-end true = λ e. cc
never-write-end false = λ e. cc

pub done_end : (changed : Bool) (result : Status) → (result ≡ end_of changed) ⊎ (result ≡ Write)
    → (result ≡ Same) ⊎ ((result ≡ Changed) ⊎ (result ≡ Write))
done_end changed result (inr is) = inr (inr is)
done_end true result (inl is) = inr (inl is)
done_end false result (inl is) = inl is
