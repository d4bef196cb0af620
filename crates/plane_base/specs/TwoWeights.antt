-- The weights of two points in a mix of them.
use Rattle.std.specs.Prelude.{ℤ, pos, ◌+ℤ◌, ◌≤ℤ◌, ◌<ℤ◌}

-- none is negative, and not both are zero
pub record AreWeights (k l : ℤ) : Type 0 where
  pub first : pos 0 ≤ℤ k
  pub second : pos 0 ≤ℤ l
  pub some : pos 0 <ℤ (k +ℤ l)
