-- How a list of numbers grows while partners are reported. Only private functions speak of it.
use Rattle.std.specs.Prelude.{◌≡◌, ◌⊎◌, ℕ, ◌<◌, ◌≤◌, List, length, Contains, slice_index, nat_eq}
use Rattle.std.specs.Int.{int_max}
use Rattle.std.specs.List.{IsDistinct}
use Rattle.plane_base.specs.declared.shapes.Pt.{Pt}
use Rattle.plane_base.specs.declared.shapes.Rect.{Rect}
use Rattle.plane_base.specs.Boxes.{ShareAPoint}
use Rattle.cell_grid.specs.Boxes.{IsBoxAt, box_at}
use Rattle.cell_grid.specs.Grids.{Boxes, level_at}
use Rattle.cell_grid.specs.InsideSizes.{level_of}
use Rattle.cell_grid.specs.Partners.{IsPartner}
use Rattle.cell_grid.specs.Stripes.{IsPastCorner}
use Rattle.cell_grid.specs.InsideOffsets.{rect_of}
use Rattle.cell_grid.specs.Cells.{IsOnLevel}
use Rattle.cell_grid.specs.InsideBlocks.{IsBlockOf, index_of}
use Rattle.cell_grid.specs.declared.level_partners.PartnerSearch.{PartnerSearch}

-- what was reported before, and the numbers that are meant, each once
pub record DoesTell (IsMeant : ℕ → Type 0) (before now : List ℕ) : Type 0 where
  pub kept : (number : ℕ) → Contains before number → Contains now number
  pub told : (number : ℕ) → IsMeant number → Contains now number
  pub only : (number : ℕ) → Contains now number → Contains before number ⊎ IsMeant number
  pub once : IsDistinct nat_eq before → ((number : ℕ) → IsMeant number → Contains before number → ⊥)
      → IsDistinct nat_eq now

-- the box that asks is past the low corner of the level, and the block is of its cells
pub record IsAsked (asked : PartnerSearch) : Type 0 where
  pub past : IsPastCorner asked.level.low asked.rect
  pub own : rect_of asked.level.low asked.own ≡ asked.rect
  pub block : IsBlockOf asked.level asked.rect asked.block

-- the least point of two boxes, on each axis the greater of where they begin
abbrev pub least : Rect → Rect → Pt
least p q = record { x = int_max p.x0 q.x0; y = int_max p.y0 q.y0 }

-- which of the cells has the least point
abbrev pub index_with : PartnerSearch → Rect → ℕ
index_with asked rect = index_of asked.level asked.block (least rect asked.rect)

-- a box that may be reported at the cell of this index
pub record IsTold (asked : PartnerSearch) (index : ℕ) (rect : Rect) : Type 0 where
  pub shared : ShareAPoint rect asked.rect
  pub here : index_with asked rect ≡ index

-- a number that may be reported, in a list of numbers
pub record IsTellable (asked : PartnerSearch) (boxes : List Rect) (index number : ℕ) : Type 0 where
  pub from : asked.from ≤ number
  pub told : IsTold asked index (box_at boxes number)

-- on the level, from the first number that is asked for, with a common point in a cell before the one of this index
pub record IsToldBefore (asked : PartnerSearch) (boxes : List Rect) (index number : ℕ) : Type 0 where
  pub on_level : IsOnLevel boxes asked.level.number number
  pub from : asked.from ≤ number
  pub shared : ShareAPoint (box_at boxes number) asked.rect
  pub before : index_with asked (box_at boxes number) < index

-- one of the numbers of a list from a place on, and it may be reported
abbrev pub IsToldFrom : PartnerSearch → List Rect → ℕ → List ℕ → ℕ → ℕ → Type 0
IsToldFrom asked boxes index numbers first number =
    ((k : ℕ) × (first ≤ k) × (k < length numbers) × (slice_index numbers k ≡ number))
    × IsTellable asked boxes index number

-- in the order by level of sizes, and on one level by number, `other` comes after `number`
abbrev pub IsBehindBySize : List Rect → ℕ → ℕ → Type 0
IsBehindBySize boxes number other = (level_of (box_at boxes number) < level_of (box_at boxes other))
    ⊎ ((level_of (box_at boxes other) ≡ level_of (box_at boxes number)) × (number < other))

-- a partner in this order, on this level of sizes
abbrev pub IsPartnerOn : List Rect → ℕ → ℕ → ℕ → Type 0
IsPartnerOn boxes number level other = (IsBoxAt boxes (box_at boxes number) other × IsBehindBySize boxes number other)
    × (level_of (box_at boxes other) ≡ level)

-- a partner on this level of the grid
abbrev pub IsPartnerAt : Boxes → ℕ → ℕ → ℕ → Type 0
IsPartnerAt grid number level other = IsPartner grid number other × (level_at grid other ≡ level)

-- a partner on one of its first levels
abbrev pub IsPartnerOnFirst : Boxes → ℕ → ℕ → ℕ → Type 0
IsPartnerOnFirst grid number count other = IsPartner grid number other × (level_at grid other < count)
