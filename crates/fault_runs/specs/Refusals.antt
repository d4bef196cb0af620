-- What a refusal prints, and the status with which it ends.
use Rattle.std.specs.Prelude.{◌≡◌, ℕ, List, [], ◌∷◌, codes}
use Rattle.shelf_io.specs.Files.{Files}
use Rattle.runs.specs.declared.status.Status.{Status}
use Rattle.runs.specs.declared.status.Status.TheVariants.{Limit}
use Rattle.runs.specs.Refusals as runs
use Rattle.fault_runs.specs.declared.refusals.FaultRefusal.{FaultRefusal}
use Rattle.fault_runs.specs.declared.refusals.FaultRefusal.TheVariants.{Run, TooManyFaults}

abbrev pub status_of : FaultRefusal → Status
status_of (Run refusal) = runs.status_of refusal
status_of TooManyFaults = Limit

abbrev pub line_of : FaultRefusal → List ℕ
line_of (Run refusal) = runs.line_of refusal
line_of TooManyFaults = codes "limit: faults\n"

-- a refusal makes one file, standard output, with its line
abbrev pub line_file : FaultRefusal → Files
line_file refusal = (codes "-", line_of refusal) ∷ []

pub record Refuses (refusal : FaultRefusal) (status : Status) (made : Files) : Type 0 where
  pub status_is : status ≡ status_of refusal
  pub made_is : made ≡ line_file refusal
