-- A segment crosses the ray of a point by its turn with the point.
use Rattle.std.proofs.Common.{◌≡◌, Bool, true, false, ◌&&◌, ℤ, pos, ◌-ℤ◌, ◌*ℤ◌, arith, sym, ◌∙◌}
use Rattle.std.proofs.lemmas.Int.{ints}
use lib.Signed.{lt_z}
use Rattle.integer_ring.proofs.Ring.{num, ◌⊕◌, ◌⊖◌, ◌⊗◌}
use Rattle.integer_ring.proofs.Claims.{solve, ◌≐◌}
use Rattle.plane_base.specs.declared.shapes.Pt.{Pt}
use Rattle.plane_base.specs.Plane.{whole, turn_of}
use Rattle.ring_side.specs.Sides.{at_height, is_above, is_beyond, does_cross}

positive_gap : (a b t : ℤ) → t ≡ b -ℤ a → lt_z (pos 0) t ≡ lt_z a b
positive_gap a b t e = grind (arith, ints)

negative_gap : (a b t : ℤ) → t ≡ a -ℤ b → lt_z t (pos 0) ≡ lt_z a b
negative_gap a b t e = grind (arith, ints)

-- the turn of a rising segment and the point, by the segment's point at its height
rising : (p low high : Pt)
    → turn_of (whole low) (whole high) (whole p) ≡ (at_height p low high).x -ℤ p.x *ℤ (at_height p low high).w
rising p low high = solve 6 (λ px py lx ly hx hy.
    lx ⊗ (hy ⊗ num (pos 1) ⊖ py ⊗ num (pos 1)) ⊖ ly ⊗ (hx ⊗ num (pos 1) ⊖ px ⊗ num (pos 1))
    ⊕ num (pos 1) ⊗ (hx ⊗ py ⊖ px ⊗ hy)
    ≐ (((hy ⊖ ly) ⊖ (py ⊖ ly)) ⊗ lx ⊕ (py ⊖ ly) ⊗ hx)
    ⊖ px ⊗ (((hy ⊖ ly) ⊖ (py ⊖ ly)) ⊗ num (pos 1) ⊕ (py ⊖ ly) ⊗ num (pos 1))) tt p.x p.y low.x low.y high.x high.y

falling : (p low high : Pt)
    → turn_of (whole high) (whole low) (whole p) ≡ p.x *ℤ (at_height p low high).w -ℤ (at_height p low high).x
falling p low high = solve 6 (λ px py lx ly hx hy.
    hx ⊗ (ly ⊗ num (pos 1) ⊖ py ⊗ num (pos 1)) ⊖ hy ⊗ (lx ⊗ num (pos 1) ⊖ px ⊗ num (pos 1))
    ⊕ num (pos 1) ⊗ (lx ⊗ py ⊖ px ⊗ ly)
    ≐ px ⊗ (((hy ⊖ ly) ⊖ (py ⊖ ly)) ⊗ num (pos 1) ⊕ (py ⊖ ly) ⊗ num (pos 1))
    ⊖ (((hy ⊖ ly) ⊖ (py ⊖ ly)) ⊗ lx ⊕ (py ⊖ ly) ⊗ hx)) tt p.x p.y low.x low.y high.x high.y

beyond_rising : (p low high : Pt) (t : ℤ) → t ≡ turn_of (whole low) (whole high) (whole p)
    → lt_z (pos 0) t ≡ is_beyond p low high
beyond_rising p low high t e =
    positive_gap (p.x *ℤ (at_height p low high).w) ((at_height p low high).x) t (e ∙ rising p low high)

beyond_falling : (p low high : Pt) (t : ℤ) → t ≡ turn_of (whole high) (whole low) (whole p)
    → lt_z t (pos 0) ≡ is_beyond p low high
beyond_falling p low high t e =
    negative_gap (p.x *ℤ (at_height p low high).w) ((at_height p low high).x) t (e ∙ falling p low high)

-- by the turn of the segment's ends and the point
pub crosses_rising : (p a b : Pt) (t : ℤ) → t ≡ turn_of (whole a) (whole b) (whole p) → is_above p a ≡ false
    → is_above p b ≡ true → lt_z (pos 0) t ≡ does_cross p (record { from = a; to = b })
crosses_rising p a b t e low high = rw (low, high) (beyond_rising p a b t e)

pub crosses_falling : (p a b : Pt) (t : ℤ) → t ≡ turn_of (whole a) (whole b) (whole p) → is_above p a ≡ true
    → is_above p b ≡ false → lt_z t (pos 0) ≡ does_cross p (record { from = a; to = b })
crosses_falling p a b t e high low = rw (high, low) (beyond_falling p b a t e)

-- where the first of two tests holds, both do where the second does
pub second_test : (x y r s : Bool) → x ≡ r → x ≡ true → y ≡ s → y ≡ (r && s)
second_test x y r s e t f = let g : r ≡ true = sym e ∙ t in rw g f
