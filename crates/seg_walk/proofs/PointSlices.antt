-- The slice of a triangle that contains a point, along the segment from the point to itself: the whole way.
use Rattle.std.proofs.Common.{◌≡◌, ℕ, ℤ, pos, ◌+ℤ◌, ◌-ℤ◌, ◌*ℤ◌, ◌≤ℤ◌, List, arith}
use Rattle.integer_ring.proofs.Ring.{num, ◌⊕◌, ◌⊖◌, ◌⊗◌}
use Rattle.integer_ring.proofs.Claims.{◌≐◌, ◌≼◌, gap, ◌because◌, ◌⇒◌, follows, solve}
use lib.Signed.{lt_z_yes}
use Rattle.plane_base.specs.Plane.{Point, whole, along, IsMix}
use Rattle.plane_base.specs.Slices.{IsParam, IsBetween}
use Rattle.plane_base.specs.declared.shapes.Pt.{Pt}
use Rattle.plane_base.specs.declared.stretches.Stretch.{Stretch}
use Rattle.plane_base.proofs.MixLaws.Mixes.{mix_moved}
use Rattle.tin_base.specs.declared.frames.Frame.TheVariants.{Source}
use Rattle.tin_base.specs.Triangulation.{Triangulation, IsInTriangle}
use Rattle.tin_base.specs.Slices.{IsSliceIn}
use Rattle.seg_walk.specs.InsidePointWays.{IsFromZeroToOne}

at_point : (x n d : ℤ) → ((d -ℤ n) *ℤ x +ℤ n *ℤ x) *ℤ pos 1 ≡ x *ℤ ((d -ℤ n) *ℤ pos 1 +ℤ n *ℤ pos 1)
at_point = solve 3 (λ x n d. ((d ⊖ n) ⊗ x ⊕ n ⊗ x) ⊗ num (pos 1) ≐ x ⊗ ((d ⊖ n) ⊗ num (pos 1) ⊕ n ⊗ num (pos 1))) tt

-- each parameter of the way from a point to itself is that point
stays : (p : Pt) (ps : List Point) (n d : ℤ) → IsMix (whole p) ps → IsMix (along (whole p) (whole p) n d) ps
stays p ps n d = mix_moved (whole p) (along (whole p) (whole p) n d) ps (lt_z_yes tt)
    (at_point p.x n d, at_point p.y n d)

from_zero : (n d : ℤ) → pos 0 ≤ℤ n → (pos 0 *ℤ d) ≤ℤ (n *ℤ pos 1)
from_zero = follows 2 (λ n d. num (pos 0) ≼ n ⇒ num (pos 0) ⊗ d ≼ n ⊗ num (pos 1) because gap 0) tt

to_one : (n d : ℤ) → n ≤ℤ d → (n *ℤ pos 1) ≤ℤ (pos 1 *ℤ d)
to_one = follows 2 (λ n d. n ≼ d ⇒ n ⊗ num (pos 1) ≼ num (pos 1) ⊗ d because gap 0) tt

between : (s : Stretch) (n d : ℤ) → IsFromZeroToOne s → IsParam n d → IsBetween s n d
between s n d is param = grind (arith, from_zero, to_one)

first_is_one : (s : Stretch) → IsFromZeroToOne s → IsParam s.lo.num s.lo.den
first_is_one s is = grind arith

last_is_one : (s : Stretch) → IsFromZeroToOne s → IsParam s.hi.num s.hi.den
last_is_one s is = grind arith

pub point_slice : (tin : Triangulation) (p : Pt) (t : ℕ) (s : Stretch) → IsInTriangle tin Source t (whole p)
    → IsFromZeroToOne s → IsSliceIn tin p p t s
point_slice tin p t s has is = grind (arith, first_is_one, stays, last_is_one, between)
