-- Moving a list of points ends, in one way.
use Rattle.std.specs.Prelude.{◌≡◌, Result, Ok, Err}
use Rattle.shelf_io.specs.Files.{Files}
use Rattle.runs.specs.declared.status.Status.{Status}
use Rattle.runs.specs.declared.refusal.Refusal.{Refusal}
use Rattle.height_mode.specs.declared.heights.HeightJob.{HeightJob}
use Rattle.height_mode.specs.Heights.{AreMoved, IsHeightsRefused}

-- how moving ends where no call of the outside fails and memory does not run out: with a status and its made files, or
-- with its refusal
abbrev pub IsHeightsEnd : Files → HeightJob → Result (Status × Files) Refusal → Type 0
IsHeightsEnd files heights (Ok end) = AreMoved files heights end.0 end.1
IsHeightsEnd files heights (Err refusal) = IsHeightsRefused files heights refusal

-- the same files and names give one end
abbrev pub HeightsAreOne : Type 0
HeightsAreOne = (files : Files) (heights : HeightJob) (end other : Result (Status × Files) Refusal)
    → IsHeightsEnd files heights end → IsHeightsEnd files heights other → end ≡ other

-- and there is one, whatever the files are
abbrev pub HeightsExist : Type 0
HeightsExist = (files : Files) (heights : HeightJob)
    → (end : Result (Status × Files) Refusal) × IsHeightsEnd files heights end
