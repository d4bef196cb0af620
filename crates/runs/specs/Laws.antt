-- The file of a name gives one sound triangulation or one refusal, and always one of the two.
use Rattle.std.specs.Prelude.{◌≡◌, ℕ, List, Result, Ok, Err}
use Rattle.shelf_io.specs.Files.{Files}
use Rattle.sheet_base.specs.declared.flags.How.{How}
use Rattle.tin_base.specs.Triangulation.{Triangulation}
use Rattle.tin_base.specs.Limits.{IsWithinLimits}
use Rattle.runs.specs.declared.refusal.Refusal.{Refusal}
use Rattle.runs.specs.Triangulations.{IsRead, HasTin, IsTinRefused}

-- how the loading of a triangulation ends, where no call of the outside fails and memory does not run out
abbrev pub IsTinEnd : Files → How → List ℕ → Result Triangulation Refusal → Type 0
IsTinEnd files how name (Ok tin) = HasTin files how name tin
IsTinEnd files how name (Err refusal) = IsTinRefused files how name refusal

abbrev pub TinEndIsOne : Type 0
TinEndIsOne = (files : Files) (how : How) (name : List ℕ) (end other : Result Triangulation Refusal)
    → IsTinEnd files how name end → IsTinEnd files how name other → end ≡ other

-- whatever the files are
abbrev pub TinEndExists : Type 0
TinEndExists = (files : Files) (how : How) (name : List ℕ)
    → (end : Result Triangulation Refusal) × IsTinEnd files how name end

-- what is read of a text is within the limits of triangulations
abbrev pub ReadTinsAreWithinLimits : Type 0
ReadTinsAreWithinLimits = (how : How) (text : List ℕ) (tin : Triangulation) → IsRead how text tin → IsWithinLimits tin
