-- How the faults of words follow from what is found in them.
use Rattle.std.specs.Prelude.{◌≡◌, ◌⊎◌, List, [], ◌∷◌, Option, Some, None, Result, Err, MatchResult}
use Rattle.clap.specs.declared.error.kind.ErrorKind.{ErrorKind}
use Rattle.clap.specs.declared.error.kind.ErrorKind.TheVariants.{OutOfMemory}
use Rattle.job_words.specs.declared.faults.WordsFault.{WordsFault}
use Rattle.job_words.specs.declared.faults.WordsFault.TheVariants.{NoMemory, Parse}

-- the fault for a refusal of this kind by `clap`
abbrev pub fault_for : ErrorKind → WordsFault
fault_for OutOfMemory = NoMemory
fault_for _ = Parse

-- the first fault of those that are there
abbrev pub first_fault : List (Option WordsFault) → Option WordsFault
first_fault [] = None
first_fault (Some fault ∷ rest) = Some fault
first_fault (None ∷ rest) = first_fault rest

-- a check that passes where there is no fault, and else answers it, or that memory ran out
abbrev pub Checks : {T : Type 0} → Option WordsFault → Result T WordsFault → Type 0
Checks fault answer = MatchResult answer (λ _. fault ≡ None) (λ given. (given ≡ NoMemory) ⊎ (fault ≡ Some given))

-- an answer that is as wanted, or memory ran out
abbrev pub IsAnswer : {T : Type 0} → Result T WordsFault → Result T WordsFault → Type 0
IsAnswer wanted answer = (answer ≡ Err NoMemory) ⊎ (answer ≡ wanted)
