-- Rounding half up, towards plus infinity.
use Rattle.std.specs.Prelude.{◌≡◌, ◌↔◌, ◌≤◌, ℤ, pos, ◌+ℤ◌, ◌-ℤ◌, ◌*ℤ◌, ◌≤ℤ◌, ◌<ℤ◌, unsigned_abs}
use Rattle.std.specs.Int.{int_div_euclid}

-- the floor of (2 num + den) / (2 den), for a positive den
abbrev pub half_up_of : ℤ → ℤ → ℤ
half_up_of num den = int_div_euclid (pos 2 *ℤ num +ℤ den) (pos 2 *ℤ den)

-- ---- laws
-- r - 1/2 ≤ num/den < r + 1/2
pub record IsWithinHalf (num den r : ℤ) : Type 0 where
  pub low : ((pos 2 *ℤ r -ℤ pos 1) *ℤ den) ≤ℤ (pos 2 *ℤ num)
  pub high : (pos 2 *ℤ num) <ℤ ((pos 2 *ℤ r +ℤ pos 1) *ℤ den)

abbrev pub HalfUpIsWithinHalf : Type 0
HalfUpIsWithinHalf = (num den r : ℤ) → pos 0 <ℤ den → IsWithinHalf num den r ↔ (r ≡ half_up_of num den)

-- no whole number is nearer to num/den than r, and none as near is greater
pub record IsNearest (num den r : ℤ) : Type 0 where
  pub nearest : (z : ℤ) → unsigned_abs (num -ℤ r *ℤ den) ≤ unsigned_abs (num -ℤ z *ℤ den)
  pub greatest : (z : ℤ) → unsigned_abs (num -ℤ z *ℤ den) ≡ unsigned_abs (num -ℤ r *ℤ den) → z ≤ℤ r

abbrev pub HalfUpIsNearest : Type 0
HalfUpIsNearest = (num den : ℤ) → pos 0 <ℤ den → IsNearest num den (half_up_of num den)
