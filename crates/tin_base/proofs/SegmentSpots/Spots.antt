-- The points of a segment by their spots: each has a positive weight, and the first and the last are its ends.
use Rattle.std.proofs.Common.{◌≡◌, ℤ, pos, ◌+ℤ◌, ◌*ℤ◌, ◌<ℤ◌, sym, ap, arith}
use lib.Signed.{lt_z_yes}
use Rattle.integer_ring.proofs.Ring.{num, ◌⊕◌, ◌⊖◌, ◌⊗◌}
use Rattle.integer_ring.proofs.Claims.{◌≐◌, eqn, ◌because◌, ◌⇒◌, follows, solve}
use Rattle.plain_laws.proofs.Weights.{same_axis}
use Rattle.plane_base.specs.Plane.{Same, whole}
use Rattle.plane_base.specs.declared.shapes.Pt.{Pt}
use Rattle.plane_base.proofs.MixLaws.Mixes.{same_refl, same_trans, mix_moved, between-w, between_weights, weights_between}
use Rattle.tin_base.specs.declared.frames.Frame.TheVariants.{Source}
use Rattle.tin_base.specs.Triangulation.{Triangulation, numbers_of, places}
use Rattle.tin_base.specs.Images.{IsInSome}
use Rattle.tin_base.specs.Segments.{Spot, spot_at, at_a, at_b, IsSameSpot, IsInside}
use Rattle.tin_base.proofs.SegmentSpots.Ends.{IsSpot}

pub one : pos 0 <ℤ pos 1
one = lt_z_yes tt

pub spot-w : (a b : Pt) (s : Spot) → IsSpot s → pos 0 <ℤ (spot_at a b s).w
spot-w a b s some = between-w (whole a) (whole b) (spot_at a b s)
    (record { k = s.of_a; l = s.of_b; some = some; same = same_refl (spot_at a b s) }) one one

pub first_axis : (a b : ℤ) → (pos 1 *ℤ a +ℤ (pos 0 *ℤ b +ℤ pos 0)) *ℤ pos 1 ≡ a
    *ℤ (pos 1 *ℤ pos 1 +ℤ (pos 0 *ℤ pos 1 +ℤ pos 0))
first_axis = solve 2 (λ a b. (num (pos 1) ⊗ a ⊕ (num (pos 0) ⊗ b ⊕ num (pos 0))) ⊗ num (pos 1) ≐ a
    ⊗ (num (pos 1) ⊗ num (pos 1) ⊕ (num (pos 0) ⊗ num (pos 1) ⊕ num (pos 0)))) tt

last_axis : (a b : ℤ) → (pos 0 *ℤ a +ℤ (pos 1 *ℤ b +ℤ pos 0)) *ℤ pos 1 ≡ b
    *ℤ (pos 0 *ℤ pos 1 +ℤ (pos 1 *ℤ pos 1 +ℤ pos 0))
last_axis = solve 2 (λ a b. (num (pos 0) ⊗ a ⊕ (num (pos 1) ⊗ b ⊕ num (pos 0))) ⊗ num (pos 1) ≐ b
    ⊗ (num (pos 0) ⊗ num (pos 1) ⊕ (num (pos 1) ⊗ num (pos 1) ⊕ num (pos 0)))) tt

pub spot_first : (a b : Pt) → Same (spot_at a b at_a) (whole a)
spot_first a b = (first_axis a.x b.x, first_axis a.y b.y)

pub spot_last : (a b : Pt) → Same (spot_at a b at_b) (whole b)
spot_last a b = (last_axis a.x b.x, last_axis a.y b.y)

-- all spots of a segment from a point to itself are this point
pub spot_of_point : (a : Pt) (s : Spot) → Same (spot_at a a s) (whole a)
spot_of_point a s = (same_axis (pos s.of_a) (pos s.of_b) a.x, same_axis (pos s.of_a) (pos s.of_b) a.y)

-- spots that are the same are at the same place
spot_axis : (k l m n a b c d : ℤ) → l *ℤ m ≡ n *ℤ k
    → (k *ℤ a +ℤ (l *ℤ b +ℤ pos 0)) *ℤ (m *ℤ c +ℤ (n *ℤ d +ℤ pos 0)) ≡ (m *ℤ a +ℤ (n *ℤ b +ℤ pos 0))
    *ℤ (k *ℤ c +ℤ (l *ℤ d +ℤ pos 0))
spot_axis = follows 8
    (λ k l m n a b c d. l ⊗ m ≐ n ⊗ k ⇒ (k ⊗ a ⊕ (l ⊗ b ⊕ num (pos 0))) ⊗ (m ⊗ c ⊕ (n ⊗ d ⊕ num (pos 0)))
    ≐ (m ⊗ a ⊕ (n ⊗ b ⊕ num (pos 0))) ⊗ (k ⊗ c ⊕ (l ⊗ d ⊕ num (pos 0)))
    because eqn 0 (b ⊗ c ⊖ a ⊗ d)) tt

pub same_of_spots : (a b : Pt) (s t : Spot) → IsSameSpot s t → Same (spot_at a b s) (spot_at a b t)
same_of_spots a b s t e =
    let k = pos s.of_a in let l = pos s.of_b in let m = pos t.of_a in let n = pos t.of_b in
    (spot_axis k l m n a.x b.x (pos 1) (pos 1) (ap pos e), spot_axis k l m n a.y b.y (pos 1) (pos 1) (ap pos e))

-- the ends of a segment that is inside are in triangles
pub first_inside : (tin : Triangulation) (a b : Pt) → IsInside tin a b → IsInSome tin Source (whole a)
first_inside tin a b inside = inside (whole a) one
    (weights_between (whole a) (whole b) (whole a)
    (record { k = 1; l = 0; some = omega arith; same = let e = spot_first a b in (sym e.0, sym e.1) }))

pub last_inside : (tin : Triangulation) (a b : Pt) → IsInside tin a b → IsInSome tin Source (whole b)
last_inside tin a b inside = inside (whole b) one
    (weights_between (whole a) (whole b) (whole b)
    (record { k = 0; l = 1; some = omega arith; same = let e = spot_last a b in (sym e.0, sym e.1) }))

pub point_inside : (tin : Triangulation) (p : Pt) → IsInSome tin Source (whole p) → IsInside tin p p
point_inside tin p has q hq m =
    let i = between_weights (whole p) (whole p) q m in
    let s : Spot = record { of_a = i.k; of_b = i.l } in
    let same = same_trans q (spot_at p p s) (whole p) (spot-w p p s i.some) i.same (spot_of_point p s) in
    (has.0, has.1, mix_moved (whole p) q (places tin Source (numbers_of tin has.0)) one same has.2)
