-- Which rings have another direction as written than in the source, and which points are on another side of a ring,
-- among the layers of a run.
use Rattle.std.specs.Prelude.{ℕ, Bool, true, false, List, Option, None, Some}
use Rattle.sheet_base.specs.ImageFits.{Runs}
use Rattle.sheet_base.specs.Sheets.{Contents}
use Rattle.ring_side.specs.declared.kinds.SideChange.{SideChange}
use Rattle.ring_side.specs.ListedSides.{KeepSides, AreAllSideChanges}
use Rattle.migrate_mode.specs.LayerRuns.{Setting}
use Rattle.migrate_mode.specs.SideLists.{AreKept}

-- the layers of these names keep directions and sides
abbrev pub KeepTheirSides : Setting → List (List ℕ) → Type 0
KeepTheirSides setting names = (sheets : List Contents) × (images : List Runs) × AreKept setting names sheets images
    × KeepSides sheets images

-- these are all changes of directions and sides among the layers of these names, and no others
abbrev pub AreTheirSides : Setting → List (List ℕ) → List SideChange → Type 0
AreTheirSides setting names sides = (sheets : List Contents) × (images : List Runs)
    × AreKept setting names sheets images × AreAllSideChanges sheets images sides

-- the layers of these names keep directions and sides, where sides are asked for
abbrev pub KeepAskedSides : Bool → Setting → List (List ℕ) → Type 0
KeepAskedSides false setting names = Unit {0}
KeepAskedSides true setting names = KeepTheirSides setting names

abbrev pub AreAskedSides : Bool → Setting → List (List ℕ) → Option (List SideChange) → Type 0
AreAskedSides false setting names None = Unit {0}
AreAskedSides false setting names (Some sides) = ⊥
AreAskedSides true setting names None = ⊥
AreAskedSides true setting names (Some sides) = AreTheirSides setting names sides
