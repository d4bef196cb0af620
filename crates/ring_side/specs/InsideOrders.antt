-- Orders of numbers. Only private functions speak of them.
use Rattle.std.specs.Prelude.{ℕ, ◌<◌, List, All, Contains}

-- each number below the count, and no other number
pub record IsOrder (count : ℕ) (order : List ℕ) : Type 0 where
  pub each : All (λ number. number < count) order
  pub all : (number : ℕ) → number < count → Contains order number
