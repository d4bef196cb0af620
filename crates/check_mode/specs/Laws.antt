-- A check ends in one way at least: the triangulation is sound, or the file refuses it.
use Rattle.std.specs.Prelude.{◌⊎◌, ℕ, List}
use Rattle.shelf_io.specs.Files.{Files}
use Rattle.sheet_base.specs.declared.flags.How.{How}
use Rattle.runs.specs.declared.status.Status.{Status}
use Rattle.runs.specs.declared.refusal.Refusal.{Refusal}
use Rattle.runs.specs.Triangulations.{IsTinRefused}
use Rattle.check_mode.specs.Checks.{IsChecked}

-- whatever the files are
abbrev pub CheckEndExists : Type 0
CheckEndExists = (files : Files) (how : How) (name : List ℕ)
    → ((status : Status) × (made : Files) × IsChecked files how name status made)
    ⊎ ((refusal : Refusal) × IsTinRefused files how name refusal)
