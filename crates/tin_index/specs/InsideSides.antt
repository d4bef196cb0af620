-- What private functions say of the triangles at a side.
use Rattle.std.specs.Prelude.{◌≢◌, ℕ, ◌<◌, length}
use Rattle.tin_base.specs.Triangulation.{Triangulation}
use Rattle.tin_index.specs.Sides.{HasCorner}

-- another triangle than t that has both corners
pub record IsOtherWith (tin : Triangulation) (t c d other : ℕ) : Type 0 where
  pub in_range : other < length tin.triangles
  pub differs : other ≢ t
  pub first : HasCorner tin other c
  pub second : HasCorner tin other d
