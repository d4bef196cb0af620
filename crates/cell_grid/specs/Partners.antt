-- Pairs of boxes that share a point, each reported for one of the two.
use Rattle.std.specs.Prelude.{◌≡◌, ◌≢◌, ◌⊎◌, ◌↔◌, ℕ, ◌<◌, List, length, Contains, nat_eq}
use Rattle.std.specs.List.{IsDistinct}
use Rattle.plane_base.specs.Boxes.{ShareAPoint}
use Rattle.cell_grid.specs.Boxes.{IsBoxAt, box_at}
use Rattle.cell_grid.specs.Grids.{Boxes, level_at}

-- in the order by level, and on one level by number, `other` comes after `number`
abbrev pub IsBehind : Boxes → ℕ → ℕ → Type 0
IsBehind grid number other = (level_at grid number < level_at grid other)
    ⊎ ((level_at grid other ≡ level_at grid number) × (number < other))

-- its box shares a point with the box of `number`, and it comes after `number`
abbrev pub IsPartner : Boxes → ℕ → ℕ → Type 0
IsPartner grid number other = IsBoxAt grid.boxes (box_at grid.boxes number) other × IsBehind grid number other

-- the numbers of all partners, and no other numbers, each once
pub record ArePartners (grid : Boxes) (number : ℕ) (found : List ℕ) : Type 0 where
  pub once : IsDistinct nat_eq found
  pub exact : (other : ℕ) → Contains found other ↔ IsPartner grid number other

-- the one is a partner of the other
abbrev pub IsToldFor : Boxes → ℕ → ℕ → Type 0
IsToldFor grid a b = IsPartner grid a b × (¬ IsPartner grid b a)

-- of two different boxes that share a point exactly one is a partner of the other
abbrev pub EachPairIsToldOnce : Type 0
EachPairIsToldOnce = (grid : Boxes) (a b : ℕ) → a < length grid.boxes → b < length grid.boxes → a ≢ b
    → ShareAPoint (box_at grid.boxes a) (box_at grid.boxes b) → IsToldFor grid a b ⊎ IsToldFor grid b a
