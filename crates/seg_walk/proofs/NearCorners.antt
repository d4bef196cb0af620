-- A point that some triangle has is near each corner of the triangulation, and near each other such point.
use Rattle.std.proofs.Common.{◌≡◌, ℕ, ◌<◌, ℤ, pos, ◌+ℤ◌, ◌-ℤ◌, ◌*ℤ◌, ◌≤ℤ◌, ◌<ℤ◌, List, [], ◌∷◌, length, sum, All}
use Rattle.std.proofs.Common.{get_or, ap, arith}
use Rattle.std.proofs.lemmas.Int.{ints}
use Rattle.integer_ring.proofs.Order.{nonneg_pos}
use Rattle.plane_base.specs.Plane.{Point, Same, weighted_sum, IsMix, whole, corners_of, IsNear, IsNearTri}
use Rattle.plane_base.specs.declared.shapes.Pt.{Pt}
use Rattle.plane_base.specs.declared.shapes.Tri.{Tri}
use Rattle.plane_base.specs.declared.shapes.TheConstants.{SPAN}
use Rattle.tin_index.proofs.InBox.{not_below, not_above}
use Rattle.tin_base.specs.declared.frames.Frame.TheVariants.{Source}
use Rattle.tin_base.specs.Triangulation.{Triangulation, place, corner_at, numbers_of, places, IsInTriangle}
use Rattle.tin_base.specs.Images.{IsInSome}
use Rattle.tin_base.specs.Limits.{IsWithinLimits}
use Rattle.tin_base.proofs.TriangleLemmas.TrianglePlaces.{source_at}
use Rattle.tin_index.specs.Boxes.{IsNearCorners}
use Rattle.plain_laws.proofs.Weights.{three_positive}

-- what is near three numbers is near their mix
near_mix : (q a b c z : ℤ) (i j k : ℕ) → 0 < sum (i ∷ j ∷ k ∷ []) → ((q -ℤ a) <ℤ SPAN) × ((a -ℤ q) <ℤ SPAN)
    → ((q -ℤ b) <ℤ SPAN) × ((b -ℤ q) <ℤ SPAN) → ((q -ℤ c) <ℤ SPAN) × ((c -ℤ q) <ℤ SPAN)
    → z *ℤ (pos i *ℤ pos 1 +ℤ (pos j *ℤ pos 1 +ℤ (pos k *ℤ pos 1 +ℤ pos 0)))
    ≡ (pos i *ℤ a +ℤ (pos j *ℤ b +ℤ (pos k *ℤ c +ℤ pos 0))) *ℤ pos 1 → ((q -ℤ z) <ℤ SPAN) × ((z -ℤ q) <ℤ SPAN)
near_mix q a b c z i j k some ha hb hc e =
    let low = not_below (q -ℤ SPAN +ℤ pos 1) a b c z (pos i) (pos j) (pos k) (up a ha.0) (up b hb.0) (up c hc.0)
    (nonneg_pos i) (nonneg_pos j) (nonneg_pos k) (three_positive i j k some) e in
    let high = not_above (q +ℤ SPAN -ℤ pos 1) a b c z (pos i) (pos j) (pos k) (down a ha.1) (down b hb.1) (down c hc.1)
    (nonneg_pos i) (nonneg_pos j) (nonneg_pos k) (three_positive i j k some) e in
    (omega (arith, ints), omega (arith, ints))
  where
    up : (r : ℤ) → (q -ℤ r) <ℤ SPAN → (q -ℤ SPAN +ℤ pos 1) ≤ℤ r
    up r h = omega (arith, ints)

    down : (r : ℤ) → (r -ℤ q) <ℤ SPAN → r ≤ℤ (q +ℤ SPAN -ℤ pos 1)
    down r h = omega (arith, ints)

-- a point near each corner is near each point that some triangle has
near_all : (tin : Triangulation) (t : ℕ) (p q : Pt) → IsWithinLimits tin → t < length tin.triangles
    → IsInTriangle tin Source t (whole p) → ((n : ℕ) → n < length tin.corners → IsNear q (source_at tin n)) → IsNear q p
near_all tin t p q limits ht m near = go (numbers_of tin t) (limits.three t ht) (limits.in_range t ht) m
  where
    mix : (i j k : ℕ) (ks : List ℕ) → length ks ≡ 3 → 0 < sum ks
        → Same (whole p) (weighted_sum ks (places tin Source (i ∷ j ∷ k ∷ []))) → IsNear q (source_at tin i)
        → IsNear q (source_at tin j) → IsNear q (source_at tin k) → IsNear q p
    mix i j k (f ∷ g ∷ h ∷ []) e some same hi hj hk =
        let x = near_mix q.x (corner_at tin i).sx (corner_at tin j).sx (corner_at tin k).sx p.x f g h some (hi.0, hi.1)
        (hj.0, hj.1) (hk.0, hk.1) same.0 in
        let y = near_mix q.y (corner_at tin i).sy (corner_at tin j).sy (corner_at tin k).sy p.y f g h some (hi.2, hi.3)
        (hj.2, hj.3) (hk.2, hk.3) same.1 in
        (x.0, x.1, y.0, y.1)
    mix i j k ks e some same hi hj hk = absurd (omega arith)

    go : (ns : List ℕ) → length ns ≡ 3 → All (λ n. n < length tin.corners) ns → IsMix (whole p) (places tin Source ns)
        → IsNear q p
    go (i ∷ j ∷ k ∷ []) e below m = mix i j k m.0 m.1 m.2 m.3 (near i (below 0 0 (omega arith)))
        (near j (below 1 0 (omega arith))) (near k (below 2 0 (omega arith)))
    go ns e below m = absurd (omega arith)

turned : (p q : Pt) → IsNear p q → IsNear q p
turned p q h = (h.1, h.0, h.3, h.2)

corner_near : (tin : Triangulation) (m n : ℕ) → IsWithinLimits tin → m < length tin.corners → n < length tin.corners
    → IsNear (source_at tin m) (source_at tin n)
corner_near tin m n limits hm hn = let there = limits.near Source m n hm hn in let back =
    limits.near Source n m hn hm in (there.0, back.0, there.1, back.1)

near_corner : (tin : Triangulation) (n : ℕ) (p : Pt) → IsWithinLimits tin → n < length tin.corners
    → IsInSome tin Source (whole p) → IsNear (source_at tin n) p
near_corner tin n p limits hn has = near_all tin has.0 p (source_at tin n) limits has.1 has.2
    (λ m hm. corner_near tin n m limits hn hm)

near_by : (p q a : Pt) → p.x ≡ q.x → p.y ≡ q.y → IsNear q a → IsNear p a
near_by p q a e f h = (omega (arith, ints), omega (arith, ints), omega (arith, ints), omega (arith, ints))

abbrev nowhere : Point
nowhere = record { x = pos 0; y = pos 0; w = pos 0 }

-- ---- a point that is near each corner, in some triangle or not
pub near_each : (tin : Triangulation) (p : Pt) → IsWithinLimits tin → IsInSome tin Source (whole p)
    → IsNearCorners tin p
near_each tin p limits has n hn = near_corner tin n p limits hn has

pub near_both : (tin : Triangulation) (a b : Pt) → IsWithinLimits tin → IsInSome tin Source (whole a)
    → IsNearCorners tin b → IsNear a b
near_both tin a b limits has_a near = turned b a
    (near_all tin has_a.0 a b limits has_a.1 has_a.2 (λ n hn. turned (source_at tin n) b (near n hn)))

pub near_triangle : (tin : Triangulation) (t : ℕ) (r : Tri) (p : Pt) → IsWithinLimits tin → t < length tin.triangles
    → corners_of r ≡ places tin Source (numbers_of tin t) → IsNearCorners tin p → IsNearTri r p
near_triangle tin t r p limits ht is near = go (numbers_of tin t) (limits.three t ht) (limits.in_range t ht) is
  where
    go : (ns : List ℕ) → length ns ≡ 3 → All (λ n. n < length tin.corners) ns → corners_of r ≡ places tin Source ns
        → IsNearTri r p
    go (i ∷ j ∷ k ∷ []) e below is = (
      near_by r.a (source_at tin i) p (ap (λ (ps : List Point). (get_or ps 0 nowhere).x) is)
          (ap (λ (ps : List Point). (get_or ps 0 nowhere).y) is) (near i (below 0 0 (omega arith))),
      near_by r.b (source_at tin j) p (ap (λ (ps : List Point). (get_or ps 1 nowhere).x) is)
          (ap (λ (ps : List Point). (get_or ps 1 nowhere).y) is) (near j (below 1 0 (omega arith))),
      near_by r.c (source_at tin k) p (ap (λ (ps : List Point). (get_or ps 2 nowhere).x) is)
          (ap (λ (ps : List Point). (get_or ps 2 nowhere).y) is) (near k (below 2 0 (omega arith))),
    )
    go ns e below is = absurd (omega arith)

-- ---- such a point is near a corner, wherever that is
pub near_place : (tin : Triangulation) (n : ℕ) (p q : Pt) → n < length tin.corners
    → whole q ≡ place Source (corner_at tin n) → IsNearCorners tin p → IsNear p q
near_place tin n p q hn is near = turned q p
    (near_by q (source_at tin n) p (ap (λ (r : Point). r.x) is) (ap (λ (r : Point). r.y) is) (near n hn))
