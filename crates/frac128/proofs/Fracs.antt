-- Fractions by cross multiplication.
use Rattle.std.proofs.Common.{◌↔◌, ◌≤◌, ◌<◌, ◌-◌, ◌^◌, ℤ, pos, ◌*ℤ◌, ◌<ℤ◌, unsigned_abs, SFits, arith, mul-le-mul}
use Rattle.std.proofs.lemmas.Int.{ints, fits_signed_mul, unsigned_abs-mul}
use mir.Syntax.{w128}
use Rattle.integer_ring.proofs.Order.{not-<-to-≤, ≤_of_<}
use Rattle.integer_ring.proofs.Signs.{frac-≤_trans}
use Rattle.frac128.specs.Sizes.{IsSmall}
use Rattle.frac128.specs.Fractions.{IsAtMost, IsBelow, IsFrom, IsUpTo, ComparedProductsAreSmall}
use Rattle.frac128.specs.declared.frac.TheConstants.{TURN}
use Rattle.frac128.specs.declared.frac.Frac.{Frac}

pub product_fits : (a b : ℤ) → IsSmall a → IsSmall b → SFits w128 (a *ℤ b)
product_fits a b h k = fits_signed_mul w128 a b (unsigned_abs TURN) (unsigned_abs TURN) (omega (arith, ints))
    (omega (arith, ints)) (omega arith)

product_small : (a b : ℤ) → IsSmall a → IsSmall b → unsigned_abs (a *ℤ b) < 2 ^ 126
product_small a b h k =
    let m : unsigned_abs a ≤ unsigned_abs TURN - 1 = omega (arith, ints) in
    let n : unsigned_abs b ≤ unsigned_abs TURN - 1 = omega (arith, ints) in
    omega (arith, ints, unsigned_abs-mul a b, mul-le-mul m n)

pub compared_products_are_small : ComparedProductsAreSmall
compared_products_are_small a b = (
  product_small a.num b.den a.num_small b.den_small,
  product_small b.num a.den
      b.num_small a.den_small,
)

pub at_most_of_below : (a b : Frac) → IsBelow a b → IsAtMost a b
at_most_of_below a b h = ≤_of_< (a.num *ℤ b.den) (b.num *ℤ a.den) h

pub not_at_most_of_below : (a b : Frac) → IsBelow a b → ¬ IsAtMost b a
not_at_most_of_below a b h k = omega (arith, ints)

pub at_most_of_not_below : (a b : Frac) → ¬ IsBelow a b → IsAtMost b a
at_most_of_not_below a b n = not-<-to-≤ (b.num *ℤ a.den) (a.num *ℤ b.den) n

pub from_less : (a b : Frac) → IsAtMost a b → (n d : ℤ) → pos 0 <ℤ d → IsFrom b n d ↔ (IsFrom a n d × IsFrom b n d)
from_less a b h n d p = (λ k. (frac-≤_trans a.num a.den b.num b.den n d a.positive b.positive p h k, k), λ k. k.1)

pub up_to_less : (a b : Frac) → IsAtMost a b → (n d : ℤ) → pos 0 <ℤ d → IsUpTo a n d ↔ (IsUpTo a n d × IsUpTo b n d)
up_to_less a b h n d p = (λ k. (k, frac-≤_trans n d a.num a.den b.num b.den p a.positive b.positive k h), λ k. k.0)

pub swap_right : {A B C : Type 0} → A ↔ (B × C) → A ↔ (C × B)
swap_right e = (λ a. ((e.0 a).1, (e.0 a).0), λ p. e.1 (p.1, p.0))
