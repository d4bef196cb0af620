-- The points that a segment and a triangle have in common, by the turns of the three sides.
use Rattle.std.proofs.Common.{◌≡◌, ◌↔◌, ℤ, pos, ◌+ℤ◌, ◌-ℤ◌, ◌*ℤ◌, ◌≤ℤ◌, ◌<ℤ◌, sym, subst, refl, arith}
use Rattle.std.proofs.lemmas.Int.{ints}
use lib.Signed.{lt_z_yes}
use Rattle.integer_ring.proofs.Ring.{num, ◌⊖◌, ◌⊗◌}
use Rattle.integer_ring.proofs.Order.{≤_of_≡}
use Rattle.integer_ring.proofs.Signs.{frac-≤_trans}
use Rattle.integer_ring.proofs.Claims.{◌≐◌, ◌≼◌, ◌≺◌, never, gap, over, ◌⊞◌, ◌because◌, ◌⇒◌, follows, solve}
use Rattle.frac128.specs.Sizes.{IsSmall}
use Rattle.frac128.specs.Fractions.{IsAtMost, IsBelow}
use Rattle.frac128.specs.declared.frac.Frac.{Frac}
use Rattle.plane_base.specs.Plane.{turn_of, whole, along, IsShort, IsNear}
use Rattle.plane_base.specs.declared.shapes.TheConstants.{SPAN}
use Rattle.plane_base.specs.declared.shapes.Pt.{Pt}
use Rattle.plane_base.specs.declared.shapes.Tri.{Tri}
use Rattle.plane_base.proofs.MixLaws.Points.{turn}
use Rattle.plane_base.proofs.MixLaws.Along.{turn_along, along-w}
use Rattle.plane_base.proofs.TriangleLaws.InTriangle.{turns_of_mix, mix_of_turns}
use Rattle.plane_base.proofs.Bounds.Sizes.{cross_size}
use Rattle.plane_base.specs.Slices.{IsParam, IsWithin, IsIn}
use Rattle.plane_base.specs.InsideCourses.{value_at}
use Rattle.plane_base.specs.InsideSides.{AreOfSides, IsLeftOfAll}
use Rattle.plane_base.specs.declared.stretches.Courses.{Courses}
use Rattle.plane_base.specs.declared.ranges.Range.{Range}

-- ---- sizes
near_size : (x y : ℤ) → (x -ℤ y) <ℤ SPAN → (y -ℤ x) <ℤ SPAN → IsShort (x -ℤ y)
near_size x y h k = omega (arith, ints)

apart_is : (px py qx qy ax ay bx by : ℤ) → (px -ℤ qx) *ℤ (by -ℤ ay) -ℤ (py -ℤ qy) *ℤ (bx -ℤ ax)
    ≡ turn_of (record { x = px; y = py; w = pos 1 }) (record { x = qx; y = qy; w = pos 1 })
    (record { x = ax; y = ay; w = pos 1 }) -ℤ turn_of (record { x = px; y = py; w = pos 1 })
    (record { x = qx; y = qy; w = pos 1 }) (record { x = bx; y = by; w = pos 1 })
apart_is =
    solve 8 (λ px py qx qy ax ay bx by. (px ⊖ qx) ⊗ (by ⊖ ay) ⊖ (py ⊖ qy) ⊗ (bx ⊖ ax)
    ≐ turn (record { x = px; y = py; w = num (pos 1) }) (record { x = qx; y = qy; w = num (pos 1) })
    (record { x = ax; y = ay; w = num (pos 1) })
    ⊖ turn (record { x = px; y = py; w = num (pos 1) }) (record { x = qx; y = qy; w = num (pos 1) })
    (record { x = bx; y = by; w = num (pos 1) })) tt

pub apart_size : (p q a b : Pt) (u v : ℤ) → IsNear p q → IsNear a b → u ≡ turn_of (whole p) (whole q) (whole a)
    → v ≡ turn_of (whole p) (whole q) (whole b) → IsSmall (u -ℤ v)
apart_size p q a b u v n m eu ev =
    subst (λ (z : ℤ). IsSmall (u -ℤ z)) (sym ev)
    (subst (λ (z : ℤ). IsSmall (z -ℤ turn_of (whole p) (whole q) (whole b))) (sym eu)
    (subst (λ (z : ℤ). IsSmall z) (apart_is p.x p.y q.x q.y a.x a.y b.x b.y)
    (cross_size (p.x -ℤ q.x) (b.y -ℤ a.y) (p.y -ℤ q.y) (b.x -ℤ a.x)
    (near_size p.x q.x n.0 n.1) (near_size b.y a.y m.3 m.2) (near_size p.y q.y n.2 n.3) (near_size b.x a.x m.1 m.0))))

-- ---- one side
abbrev NonNeg : ℤ → Type 0
NonNeg z = pos 0 ≤ℤ z

pub along_is : (p q a b : Pt) (u v n d : ℤ) → u ≡ turn_of (whole p) (whole q) (whole a)
    → v ≡ turn_of (whole p) (whole q) (whole b)
    → turn_of (whole p) (whole q) (along (whole a) (whole b) n d) ≡ (d -ℤ n) *ℤ u +ℤ n *ℤ v
along_is p q a b u v n d eu ev = rw (eu, ev) (turn_along (whole p) (whole q) (whole a) (whole b) n d)

-- ---- all sides
-- a point of the segment is in the triangle exactly where no side has it on its right
pub in_iff : (a b : Pt) (t : Tri) (c : Courses) (n d : ℤ) → pos 0 <ℤ turn_of (whole t.a) (whole t.b) (whole t.c)
    → AreOfSides a b t c → IsIn a b t n d ↔ IsLeftOfAll c n d
in_iff a b t c n d positive e = (there, back)
  where
    one : pos 0 <ℤ pos 1
    one = lt_z_yes tt

    e0 : turn_of (whole t.a) (whole t.b) (along (whole a) (whole b) n d) ≡ value_at c.ab.start c.ab.end n d
    e0 = along_is t.a t.b a b c.ab.start c.ab.end n d e.ab_start e.ab_end

    e1 : turn_of (whole t.b) (whole t.c) (along (whole a) (whole b) n d) ≡ value_at c.bc.start c.bc.end n d
    e1 = along_is t.b t.c a b c.bc.start c.bc.end n d e.bc_start e.bc_end

    e2 : turn_of (whole t.c) (whole t.a) (along (whole a) (whole b) n d) ≡ value_at c.ca.start c.ca.end n d
    e2 = along_is t.c t.a a b c.ca.start c.ca.end n d e.ca_start e.ca_end

    there : IsIn a b t n d → IsLeftOfAll c n d
    there i =
        let r = turns_of_mix (whole t.a) (whole t.b) (whole t.c) (along (whole a) (whole b) n d) one one one
        (along-w n d i.0.0) positive i.1 in
        (i.0, subst NonNeg e0 r.0, subst NonNeg e1 r.1, subst NonNeg e2 r.2)

    back : IsLeftOfAll c n d → IsIn a b t n d
    back l = (
      l.0,
      mix_of_turns (whole t.a) (whole t.b) (whole t.c) (along (whole a) (whole b) n d) one one one
          (along-w n d l.0.0) positive (subst NonNeg (sym e0) l.1) (subst NonNeg (sym e1) l.2)
          (subst NonNeg (sym e2) l.3),
    )

-- the range of each side, and three uses of `both`
pub all_of : (c : Courses) (w x y z yz xyz s : Range)
    → ((n d : ℤ) → pos 0 <ℤ d → (IsWithin w.lo w.hi n d ↔ ((pos 0 ≤ℤ n) × (n ≤ℤ d))))
    → ((n d : ℤ) → IsParam n d → (pos 0 ≤ℤ value_at c.ab.start c.ab.end n d) ↔ IsWithin x.lo x.hi n d)
    → ((n d : ℤ) → IsParam n d → (pos 0 ≤ℤ value_at c.bc.start c.bc.end n d) ↔ IsWithin y.lo y.hi n d)
    → ((n d : ℤ) → IsParam n d → (pos 0 ≤ℤ value_at c.ca.start c.ca.end n d) ↔ IsWithin z.lo z.hi n d)
    → ((n d : ℤ) → pos 0 <ℤ d → (IsWithin yz.lo yz.hi n d ↔ (IsWithin y.lo y.hi n d × IsWithin z.lo z.hi n d)))
    → ((n d : ℤ) → pos 0 <ℤ d → (IsWithin xyz.lo xyz.hi n d ↔ (IsWithin x.lo x.hi n d × IsWithin yz.lo yz.hi n d)))
    → ((n d : ℤ) → pos 0 <ℤ d → (IsWithin s.lo s.hi n d ↔ (IsWithin w.lo w.hi n d × IsWithin xyz.lo xyz.hi n d)))
    → (n d : ℤ) → pos 0 <ℤ d → IsWithin s.lo s.hi n d ↔ IsLeftOfAll c n d
all_of c w x y z yz xyz s hw hx hy hz f g h n d k = (
  λ i.
      let p = (h n d k).0 i in let q = (g n d k).0 p.1 in let r = (f n d k).0 q.1 in
      let m = (hw n d k).0 p.0 in let l : IsParam n d = (k, m.0, m.1) in
      (l, (hx n d l).1 q.0, (hy n d l).1 r.0, (hz n d l).1 r.1),
  λ i. (h n d k).1 (
    (hw n d k).1 (i.0.1, i.0.2),
    (g n d k).1
        ((hx n d i.0).0 i.1, (f n d k).1 ((hy n d i.0).0 i.2, (hz n d i.0).0 i.3)),
  ),
)

-- ---- the two answers
pub none_common : (a b : Pt) (t : Tri) (lo hi : Frac) → ((n d : ℤ) → pos 0 <ℤ d → IsIn a b t n d ↔ IsWithin lo hi n d)
    → IsBelow hi lo → (n d : ℤ) → IsIn a b t n d → ⊥
none_common a b t lo hi h lt n d i =
    let m = (h n d i.0.0).0 i in
    follows 2 (λ x y. x ≺ y ⇒ y ≼ x ⇒ never because over 0 ⊞ gap 1) tt (hi.num *ℤ lo.den) (lo.num *ℤ hi.den) lt
    (frac-≤_trans lo.num lo.den n d hi.num hi.den lo.positive i.0.0 hi.positive m.0 m.1)

pub at_lo : (lo hi : Frac) → IsAtMost lo hi → IsWithin lo hi lo.num lo.den
at_lo lo hi le = (≤_of_≡ (lo.num *ℤ lo.den) (lo.num *ℤ lo.den) refl, le)

pub at_hi : (lo hi : Frac) → IsAtMost lo hi → IsWithin lo hi hi.num hi.den
at_hi lo hi le = (le, ≤_of_≡ (hi.num *ℤ hi.den) (hi.num *ℤ hi.den) refl)

pub some_common : (a b : Pt) (t : Tri) (lo hi : Frac) → ((n d : ℤ) → pos 0 <ℤ d → IsIn a b t n d ↔ IsWithin lo hi n d)
    → IsAtMost lo hi → IsIn a b t lo.num lo.den × IsIn a b t hi.num hi.den
    × ((n d : ℤ) → IsIn a b t n d → IsWithin lo hi n d)
some_common a b t lo hi h le = grind (arith, at_lo, at_hi)

pub both_ways : {A B C : Type 0} → A ↔ B → C ↔ B → A ↔ C
both_ways e f = (λ a. f.1 (e.0 a), λ c. e.1 (f.0 c))
