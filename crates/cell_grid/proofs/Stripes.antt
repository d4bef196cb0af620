-- Stripes ascend with the points that they have.
use Rattle.std.proofs.Common.{ℕ, ◌+◌, ◌/◌, ◌^◌, ◌<◌, ◌≤◌, ℤ, ◌-ℤ◌, ◌≤ℤ◌, unsigned_abs, arith}
use Rattle.std.proofs.lemmas.Int.{ints}
use Rattle.std.proofs.lemmas.Nat.{le-div, div-add-mod', pow_pos, mod_below, div_below}
use Rattle.cell_grid.specs.Stripes.{stripe_of}

div_up : (a b m : ℕ) → 0 < m → a ≤ b → a / m ≤ b / m
div_up a b m some h = le-div (a / m) b m some (omega (arith, div-add-mod' a m))

-- a number that is less than the divisor greater has the next quotient at most
div_next : (a b m : ℕ) → 0 < m → b < a + m → b / m ≤ a / m + 1
div_next a b m some h = omega (
  arith,
  div_below b m (a / m + 2) some
      (omega (arith, div-add-mod' a m, mod_below a m some)),
)

way_up : (low x y : ℤ) → low ≤ℤ x → x ≤ℤ y → unsigned_abs (x -ℤ low) ≤ unsigned_abs (y -ℤ low)
way_up low x y a h = omega (arith, ints)

way_next : (low x y : ℤ) (n : ℕ) → low ≤ℤ x → x ≤ℤ y → unsigned_abs (y -ℤ x) < n
    → unsigned_abs (y -ℤ low) < unsigned_abs (x -ℤ low) + n
way_next low x y n a h k = omega (arith, ints)

pub stripe_up : (low : ℤ) (shift : ℕ) (x y : ℤ) → low ≤ℤ x → x ≤ℤ y → stripe_of low shift x ≤ stripe_of low shift y
unfolding stripe_of
stripe_up low shift x y a h = div_up (unsigned_abs (x -ℤ low)) (unsigned_abs (y -ℤ low)) (2 ^ shift) (pow_pos shift)
    (way_up low x y a h)

-- a span that is less than a stripe wide is in two at most
pub stripe_next : (low : ℤ) (shift : ℕ) (x y : ℤ) → low ≤ℤ x → x ≤ℤ y → unsigned_abs (y -ℤ x) < 2 ^ shift
    → stripe_of low shift y ≤ stripe_of low shift x + 1
unfolding stripe_of
stripe_next low shift x y a h near = div_next (unsigned_abs (x -ℤ low)) (unsigned_abs (y -ℤ low)) (2 ^ shift)
    (pow_pos shift) (way_next low x y (2 ^ shift) a h near)
