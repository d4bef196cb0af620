-- Shares of a way in whole parts, rounded down and up.
use Rattle.std.proofs.Common.{◌≡◌, ◌⊎◌, inl, inr, ℤ, pos, ◌+ℤ◌, ◌*ℤ◌, ◌≤ℤ◌, ◌<ℤ◌, ◌-◌, ◌≤◌, unsigned_abs, SFits, arith}
use Rattle.std.proofs.Common.{mul-le-mul}
use Rattle.std.proofs.lemmas.Int.{ints, unsigned_abs-mul}
use Rattle.std.specs.Int.{int_div_euclid}
use mir.Syntax.{w64, w128}
use Rattle.integer_ring.proofs.Ring.{num, ◌⊕◌, ◌⊗◌}
use Rattle.integer_ring.proofs.Claims.{◌≼◌, ◌≺◌, gap, over, ◌⊞◌, ◌⊠◌, ◌because◌, ◌otherwise◌, ◌⇒◌, follows}
use Rattle.integer_ring.proofs.Floor.{floor-≤, floor-<}
use Rattle.frac128.specs.Sizes.{IsSmall}
use Rattle.plane_base.specs.Plane.{IsShort}
use Rattle.plane_base.specs.Slices.{IsParam}
use Rattle.topo_check.specs.declared.parts.TheConstants.{PARTS}
use Rattle.topo_check.proofs.Tight.{floor_low, floor_high}

-- ---- products that fit
pub wide_fits : (n : ℤ) → IsSmall n → SFits w128 (n *ℤ PARTS)
wide_fits n h = grind (arith, unsigned_abs, unsigned_abs-mul, mul-le-mul)

pub part_fits : (n z : ℤ) → pos 0 ≤ℤ n → n ≤ℤ PARTS → IsShort z → SFits w64 (n *ℤ z)
part_fits n z l h k = grind (arith, unsigned_abs, unsigned_abs-mul, mul-le-mul)

-- ---- how many parts
pub parts_some : (n d : ℤ) → IsParam n d → pos 0 ≤ℤ int_div_euclid (n *ℤ PARTS) d
parts_some n d p = floor_low n d PARTS (pos 0) p (omega (arith, ints)) (omega (arith, ints))

pub parts_most : (n d : ℤ) → IsParam n d → int_div_euclid (n *ℤ PARTS) d ≤ℤ PARTS
parts_most n d p = floor_high n d PARTS PARTS p (omega (arith, ints)) (omega (arith, ints))

pub parts_fit : (n d : ℤ) → IsParam n d → SFits w64 (int_div_euclid (n *ℤ PARTS) d)
parts_fit n d p = grind (arith, parts_some, parts_most)

next_up : (a d q : ℤ) → a <ℤ (q *ℤ d +ℤ d) → a ≤ℤ ((q +ℤ pos 1) *ℤ d)
next_up = follows 3 (λ a d q. a ≺ q ⊗ d ⊕ d ⇒ a ≼ (q ⊕ num (pos 1)) ⊗ d because gap 0) tt

up_next : (n d : ℤ) → pos 0 <ℤ d → (n *ℤ PARTS) ≤ℤ ((int_div_euclid (n *ℤ PARTS) d +ℤ pos 1) *ℤ d)
up_next n d h = next_up (n *ℤ PARTS) d (int_div_euclid (n *ℤ PARTS) d) (floor-< (n *ℤ PARTS) d h)

all_up : (n d p : ℤ) → n ≤ℤ d → pos 0 ≤ℤ p → (n *ℤ p) ≤ℤ (p *ℤ d)
all_up = follows 3 (λ n d p. n ≼ d ⇒ num (pos 0) ≼ p ⇒ n ⊗ p ≼ p ⊗ d because gap 0 ⊠ gap 1) tt

up_all : (n d : ℤ) → IsParam n d → (n *ℤ PARTS) ≤ℤ (PARTS *ℤ d)
up_all n d p = all_up n d PARTS p.2 (omega (arith, ints))

pub parts_up : (n d up : ℤ) → IsParam n d → (up ≡ int_div_euclid (n *ℤ PARTS) d +ℤ pos 1) ⊎ (up ≡ PARTS)
    → (n *ℤ PARTS) ≤ℤ (up *ℤ d)
parts_up n d up p (inl e) = rw e (up_next n d p.0)
parts_up n d up p (inr e) = rw e (up_all n d p)

-- ---- this many parts of a way
on_front : (p d z q n m : ℤ) → pos 0 <ℤ p → pos 0 <ℤ d → pos 0 ≤ℤ z → (q *ℤ p) ≤ℤ (n *ℤ z) → (n *ℤ d) ≤ℤ (m *ℤ p)
    → (q *ℤ d) ≤ℤ (m *ℤ z)
on_front =
    follows 6 (λ p d z q n m. num (pos 0) ≺ p ⇒ num (pos 0) ≺ d ⇒ num (pos 0) ≼ z ⇒ q ⊗ p ≼ n ⊗ z ⇒ n ⊗ d ≼ m ⊗ p ⇒ q
    ⊗ d ≼ m ⊗ z
    otherwise over 5 ⊠ gap 0 ⊞ gap 3 ⊠ gap 1 ⊞ gap 4 ⊠ gap 2 ⊞ over 0) tt

on_back : (p d z q n m : ℤ) → pos 0 <ℤ p → pos 0 <ℤ d → z ≤ℤ pos 0 → (q *ℤ p) ≤ℤ (n *ℤ z) → (m *ℤ p) ≤ℤ (n *ℤ d)
    → (q *ℤ d) ≤ℤ (m *ℤ z)
on_back =
    follows 6 (λ p d z q n m. num (pos 0) ≺ p ⇒ num (pos 0) ≺ d ⇒ z ≼ num (pos 0) ⇒ q ⊗ p ≼ n ⊗ z ⇒ m ⊗ p ≼ n ⊗ d ⇒ q
    ⊗ d ≼ m ⊗ z
    otherwise over 5 ⊠ gap 0 ⊞ gap 3 ⊠ gap 1 ⊞ gap 4 ⊠ gap 2 ⊞ over 0) tt

pub below_on : (n d m z : ℤ) → pos 0 <ℤ d → pos 0 ≤ℤ z → (n *ℤ d) ≤ℤ (m *ℤ PARTS)
    → (int_div_euclid (n *ℤ z) PARTS *ℤ d) ≤ℤ (m *ℤ z)
below_on n d m z hd hz h = on_front PARTS d z (int_div_euclid (n *ℤ z) PARTS) n m (omega (arith, ints)) hd hz
    (floor-≤ (n *ℤ z) PARTS (omega (arith, ints))) h

pub below_back : (n d m z : ℤ) → pos 0 <ℤ d → z ≤ℤ pos 0 → (m *ℤ PARTS) ≤ℤ (n *ℤ d)
    → (int_div_euclid (n *ℤ z) PARTS *ℤ d) ≤ℤ (m *ℤ z)
below_back n d m z hd hz h = on_back PARTS d z (int_div_euclid (n *ℤ z) PARTS) n m (omega (arith, ints)) hd hz
    (floor-≤ (n *ℤ z) PARTS (omega (arith, ints))) h
