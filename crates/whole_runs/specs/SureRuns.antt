-- What a press in memory states after a run over a shelf and a press that never fail.
use Rattle.std.specs.Prelude.{◌≡◌, ℕ, List, Option, Some}
use Rattle.shelf_io.specs.Files.{Files}
use Rattle.shelf_io.specs.FileStore.{FileStore}
use Rattle.runs.specs.declared.status.Status.{Status}
use Rattle.publication.specs.Rooms.{DoFit}
use Rattle.whole_runs.specs.Ends.{Makes}

-- The run makes these files: those of its outcome, or the line that memory ran out. Where they fit the room that the
-- press had, it states them and no others.
pub record IsStatedWhereItFits (words : List (List ℕ)) (files : Files) (status : Status) (stated : Option Files)
    (room : FileStore) : Type 0 where
  pub made : Files
  pub makes : Makes words files ⊥ status made
  pub is_stated : DoFit made room → stated ≡ Some made
