-- Levels one after another. Only private functions speak of it.
use Rattle.std.specs.Prelude.{◌≡◌, ℕ, ◌+◌, ◌<◌, ◌≤◌, List, length, slice_index_or}
use Rattle.cell_grid.specs.declared.levels.Level.{Level}

-- each level is of boxes of its number, and has its places after those of the levels before it
pub record AreLaid (levels : List Level) : Type 0 where
  pub few : length levels ≤ 32
  pub number : (k : ℕ) (d : Level) → k < length levels → (slice_index_or levels k d).number ≡ k
  pub apart : (i j : ℕ) (d : Level) → i < j → j < length levels
      → (slice_index_or levels i d).base + (slice_index_or levels i d).mask < (slice_index_or levels j d).base

-- the two have the same boxes, the same low corner and the same places
pub record HasSamePlaces (before now : Level) : Type 0 where
  pub low : now.low ≡ before.low
  pub number : now.number ≡ before.number
  pub base : now.base ≡ before.base
  pub mask : now.mask ≡ before.mask

-- the same holds of two lists of levels, one by one
pub record HaveSamePlaces (before now : List Level) : Type 0 where
  pub count : length now ≡ length before
  pub each : (k : ℕ) (d : Level) → k < length before
      → HasSamePlaces (slice_index_or before k d) (slice_index_or now k d)
