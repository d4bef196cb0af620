-- What is so of a run of `tinmove` or `tinplaces` that has ended: how it ends, what its status comes of, and what is
-- known of a refusal.
use Rattle.std.specs.Prelude.{◌≡◌, ◌≢◌, ◌⊎◌, ℕ, List, [], ◌∷◌, ◌++◌, codes, Option, None, Some, IfSome}
use Rattle.shelf_io.specs.Files.{Files}
use Rattle.runs.specs.declared.loads.TheConstants.{MOST_BYTES}
use Rattle.runs.specs.declared.status.Status.{Status}
use Rattle.runs.specs.declared.status.Status.TheVariants.{Words, Read, Write, Memory}
use Rattle.runs.specs.Counts.{ShelfCounts, HasFailed, HasGivenMore}
use Rattle.runs.specs.Refusals.{limit_front}
use Rattle.publication.specs.Fronts.{IsFrontOf}

-- ---- how it ends
-- a run that makes these files unless a write fails has made them, or after a write fault a first part of them
pub data Ends (makes : Status → Files → Type 0) (press_rose : Type 0) (status : Status) (made : Files) : Type 0 where
  made_whole : makes status made → Ends makes press_rose status made
  after_write_fault : status ≡ Write → press_rose → (wanted : Status) → (whole : Files) → makes wanted whole
      → IsFrontOf made whole → Ends makes press_rose status made

-- `Ends` of the files that the press states, or of some files where it states none
abbrev pub EndsSo : (Status → Files → Type 0) → Type 0 → Status → Option Files → Type 0
EndsSo makes press_rose status (Some made) = Ends makes press_rose status made
EndsSo makes press_rose status None = (made : Files) × Ends makes press_rose status made

-- ---- what its status comes of
-- what is said alone is a line that says that a limit on bytes is passed, or a first part of it that says as much
abbrev pub TellsBytes : Files → Type 0
TellsBytes made = (rest : List ℕ) × (made ≡ (codes "-", limit_front ++ rest) ∷ [])

-- What the status of a run comes of, whether or not its shelf states its files: the words may lack a job, and the shelf
-- a wanted file.
pub record HasStatusCauses (lacks_job lacks_file : Type 0) (counts : ShelfCounts) (status : Status)
    (made : Option Files) : Type 0 where
  -- the words are not understood
  pub words_are : status ≡ Words → lacks_job
  -- where they are not, the run ends so, or because memory ran out, or after a write fault
  pub no_job : lacks_job → (status ≡ Words) ⊎ ((status ≡ Memory) ⊎ (status ≡ Write))
  -- a read failed, or a wanted file is missing
  pub read : status ≡ Read → HasFailed counts ⊎ lacks_file
  -- a line on too many bytes is made only after that many
  pub limit : IfSome made (λ files. TellsBytes files → HasGivenMore MOST_BYTES counts)

-- ---- what is known of a refusal
-- What a refusal that is handed out says of the run: it has this cause, and the run is to end so and make these files.
pub record IsHandedOut (reason : Type 0) (wanted : Status) (whole : Files) (status : Status) (made : Option Files) :
    Type 0 where
  -- the words give it, or the files, or a fault
  pub cause : reason
  -- the run ends as it asks, or its line could not be printed whole
  pub status_is : (status ≡ wanted) ⊎ (status ≡ Write)
  -- its line is made, and no other file, or a first part of that
  pub printed : status ≢ Write → IfSome made (λ files. files ≡ whole)
  pub front : IfSome made (λ files. IsFrontOf files whole)
