-- A grid as contracts see it.
use Rattle.std.specs.Prelude.{ℕ, List, slice_index}
use Rattle.plane_base.specs.declared.shapes.Rect.{Rect}

-- the boxes in order of their numbers, the level that each of them is on, and how many levels there are
pub record Boxes : Type 0 where
  pub boxes : List Rect
  pub box_levels : List ℕ
  pub levels : ℕ

-- the level of the box of this number, counted from 0
abbrev pub level_at : Boxes → ℕ → ℕ
level_at grid number = slice_index grid.box_levels number
