-- Places of cells.
use Rattle.std.proofs.Common.{ℕ, arith}
use Rattle.std.proofs.lemmas.Nat.{and_le_r}
use Rattle.plane_base.specs.declared.shapes.Pt.{Pt}
use Rattle.cell_grid.specs.Cells.{place_of, cell_of, IsPlaceOf}
use Rattle.cell_grid.specs.declared.levels.Level.{Level}

place_within : (level : Level) (column row : ℕ) → IsPlaceOf level (place_of level column row)
unfolding place_of
place_within level column row = (omega arith, omega (arith, and_le_r))

pub cell_within : (level : Level) (p : Pt) → IsPlaceOf level (cell_of level p)
cell_within level p = place_within level _ _
