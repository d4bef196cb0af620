-- Where boxes begin that are reported at one cell. Only private functions speak of it.
use Rattle.std.specs.Prelude.{◌≡◌, ◌↔◌, ℕ, ◌+◌, ◌/◌, ◌%◌, ◌^◌, ◌≤◌, max}
use Rattle.cell_grid.specs.declared.level_partners.PartnerSearch.{PartnerSearch}
use Rattle.cell_grid.specs.declared.level_partners.Bounds.{Bounds}
use Rattle.cell_grid.specs.declared.level_partners.Window.{Window}

-- one of the numbers from the first to the last one
abbrev pub IsBetween : Bounds → ℕ → Type 0
IsBetween bounds n = (bounds.first ≤ n) × (n ≤ bounds.last)

-- just the numbers up to `last` for which the greater of the number and `first` is in a stripe, where stripes of two
-- to the power of `shift` begin at 0
abbrev pub AreBoundsOf : ℕ → ℕ → ℕ → ℕ → Bounds → Type 0
AreBoundsOf shift stripe first last bounds = (n : ℕ)
    → IsBetween bounds n ↔ ((n ≤ last) × (max n first / 2 ^ shift ≡ stripe))

-- on each axis the bounds are those of the cell, for the box that asks
pub record IsWindow (asked : PartnerSearch) (window : Window) : Type 0 where
  pub x : AreBoundsOf asked.level.shift (asked.block.column + window.index % asked.block.columns) asked.own.x0
      asked.own.x1 window.x
  pub y : AreBoundsOf asked.level.shift (asked.block.row + window.index / asked.block.columns) asked.own.y0 asked.own.y1
      window.y
