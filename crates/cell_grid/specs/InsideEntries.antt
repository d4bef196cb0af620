-- How boxes are entered under the places of their cells. Only private functions speak of it.
use Rattle.std.specs.Prelude.{◌≡◌, ◌⊎◌, ℕ, ◌+◌, ◌*◌, ◌<◌, ◌≤◌, List, length, Contains, All, nat_eq, slice_index_or}
use Rattle.std.specs.List.{IsDistinct}
use Rattle.std.specs.List.Sorted.{IsStrictlyIncreasing}
use Rattle.plane_base.specs.declared.shapes.Pt.{Pt}
use Rattle.plane_base.specs.declared.shapes.Rect.{Rect}
use Rattle.number_groups.specs.declared.groups.Entry.{Entry}
use Rattle.number_groups.specs.Groups.{numbers_under}
use Rattle.plane_base.specs.Boxes.{HasPoint}
use Rattle.cell_grid.specs.Boxes.{box_at}
use Rattle.cell_grid.specs.Cells.{cell_of, IsPlaceOf, IsOnLevel}
use Rattle.cell_grid.specs.declared.levels.Level.{Level}

-- the number under a place
abbrev pub entry_of : ℕ → ℕ → Entry
entry_of number place = record { key = place; number = number }

-- the places of the cells that the box meets, at most four, each once
pub record ArePlacesOf (level : Level) (rect : Rect) (places : List ℕ) : Type 0 where
  pub few : length places ≤ 4
  pub once : IsDistinct nat_eq places
  pub of_level : (place : ℕ) → Contains places place → IsPlaceOf level place
  pub all : (p : Pt) → HasPoint rect p → Contains places (cell_of level p)

-- the place is among the others, and is put after them where it was not before
pub record DoesKeep (place : ℕ) (before now : List ℕ) : Type 0 where
  pub some : Contains now place
  pub kept : (other : ℕ) → Contains before other → Contains now other
  pub only : (other : ℕ) → Contains now other → Contains before other ⊎ (place ≡ other)
  pub once : IsDistinct nat_eq before → IsDistinct nat_eq now
  pub few : length now ≤ length before + 1

-- each box with a number below `done` is entered under the places of the cells that share a point with it, and under
-- no place of another level
pub record AreEntered (boxes : List Rect) (done : ℕ) (levels : List Level) (entries : List Entry) : Type 0 where
  pub few : length entries ≤ 4 * done
  pub ascending : (place : ℕ) → IsStrictlyIncreasing (numbers_under place entries)
  pub earlier : (place k : ℕ) → Contains (numbers_under place entries) k → k < done
  pub of_level : (place k l : ℕ) (d : Level) → l < length levels → IsPlaceOf (slice_index_or levels l d) place
      → Contains (numbers_under place entries) k → IsOnLevel boxes l k
  pub held : (k l : ℕ) (d : Level) (p : Pt) → l < length levels → k < done → IsOnLevel boxes l k
      → HasPoint (box_at boxes k) p → Contains (numbers_under (cell_of (slice_index_or levels l d) p) entries) k
  pub within : (end : ℕ) → All (λ level. level.base + level.mask < end) levels → All (λ entry. entry.key < end) entries
