-- How large the numbers of a turn are, and the turn by differences of coordinates.
use Rattle.std.proofs.Common.{◌≡◌, ◌-◌, ◌<ℤ◌, ℤ, pos, ◌-ℤ◌, ◌*ℤ◌, unsigned_abs, SFits, arith, mul-le-mul}
use Rattle.std.proofs.lemmas.Int.{ints, unsigned_abs-mul}
use mir.Syntax.{w64, w128}
use Rattle.integer_ring.proofs.Ring.{num, neg, ◌⊖◌, ◌⊗◌}
use Rattle.integer_ring.proofs.Claims.{◌≐◌, ◌⇒◌, ◌because◌, ◌⊞◌, eqn, follows}
use Rattle.frac128.specs.Sizes.{IsSmall}
use Rattle.frac128.specs.declared.frac.TheConstants.{TURN}
use Rattle.plane_base.specs.Plane.{turn_of, IsShort}
use Rattle.plane_base.proofs.MixLaws.Points.{turn}

-- two such numbers make a small one
abbrev pub IsHalfSmall : ℤ → Type 0
IsHalfSmall z = (pos 2 *ℤ pos (unsigned_abs z)) <ℤ TURN

pub product_size : (a b : ℤ) → IsShort a → IsShort b → IsHalfSmall (a *ℤ b)
product_size a b h k = grind (arith, unsigned_abs, unsigned_abs-mul, mul-le-mul)

pub difference_size : (p q : ℤ) → IsHalfSmall p → IsHalfSmall q → IsSmall (p -ℤ q)
difference_size p q h k = omega (arith, ints)

pub cross_size : (a b c d : ℤ) → IsShort a → IsShort b → IsShort c → IsShort d → IsSmall (a *ℤ b -ℤ c *ℤ d)
cross_size a b c d h k l m = difference_size (a *ℤ b) (c *ℤ d) (product_size a b h k) (product_size c d l m)

pub product_fits : (z : ℤ) → IsHalfSmall z → SFits w64 z
product_fits z h = omega (arith, ints)

pub cross_fits : (z : ℤ) → IsSmall z → SFits w64 z
cross_fits z h = omega (arith, ints)

pub small_fits : (z : ℤ) → IsSmall z → SFits w128 z
small_fits z h = omega (arith, ints)

pub small_back : (u v : ℤ) → IsSmall (u -ℤ v) → IsSmall (v -ℤ u)
small_back u v h = omega (arith, ints)

pub small_minus : (u : ℤ) → IsSmall u → IsSmall (pos 0 -ℤ u)
small_minus u h = omega (arith, ints)

-- the turn of whole points, as the cross product of two differences
pub turn_whole : (ax ay bx by cx cy u v s t z : ℤ) → u ≡ bx -ℤ ax → v ≡ by -ℤ ay → s ≡ cx -ℤ ax → t ≡ cy -ℤ ay
    → z ≡ u *ℤ t -ℤ v *ℤ s → z ≡ turn_of (record { x = ax; y = ay; w = pos 1 }) (record { x = bx; y = by; w = pos 1 })
    (record { x = cx; y = cy; w = pos 1 })
turn_whole =
    follows 11 (λ ax ay bx by cx cy u v s t z.
    u ≐ bx ⊖ ax ⇒ v ≐ by ⊖ ay ⇒ s ≐ cx ⊖ ax ⇒ t ≐ cy ⊖ ay ⇒ z ≐ u ⊗ t ⊖ v ⊗ s
    ⇒ z ≐ turn (record { x = ax; y = ay; w = num (pos 1) }) (record { x = bx; y = by; w = num (pos 1) })
    (record { x = cx; y = cy; w = num (pos 1) })
    because eqn 4 (num (pos 1)) ⊞ eqn 0 (cy ⊖ ay) ⊞ eqn 3 u ⊞ eqn 1 (neg (cx ⊖ ax)) ⊞ eqn 2 (neg v)) tt
