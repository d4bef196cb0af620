-- The least square of the distance of a point and a segment, as a fraction, and the places of the segment.
use Rattle.std.proofs.Common.{◌≡◌, ℕ, ◌*◌, ◌<◌, ◌≤◌, ℤ, pos, negsuc, ◌+ℤ◌, ◌-ℤ◌, ◌*ℤ◌, ◌≤ℤ◌, ◌<ℤ◌, unsigned_abs, arith}
use Rattle.std.proofs.lemmas.Int.{ints}
use Rattle.integer_ring.proofs.Ring.{Expr, num, neg, ◌⊕◌, ◌⊖◌, ◌⊗◌}
use Rattle.integer_ring.proofs.Order.{≤_of_<, nonneg_square, nonneg-+}
use Rattle.integer_ring.proofs.Signs.{≤_of_mul, <_of_mul, mul-positive}
use Rattle.integer_ring.proofs.Claims.{◌≐◌, ◌≼◌, ◌≺◌, gap, over, eqn, nat, square, ◌⊞◌, ◌⊠◌, ◌because◌, ◌⇒◌, follows}
use Rattle.plane_base.specs.Plane.{Point, whole}
use Rattle.plane_base.specs.declared.shapes.Pt.{Pt}
use Rattle.plane_base.proofs.MixLaws.Mixes.{between_weights}
use Rattle.plane_base.proofs.MixLaws.TwoWeights.{weights_of}
use Rattle.seg_gap.specs.Gaps.{IsOfSegment, square_between}
use Rattle.seg_gap.specs.Ends.{IsAsNearTo, IsNearerTo}
use Rattle.seg_gap.specs.InsideEnds.{dot_of}
use Rattle.seg_gap.specs.InsideSquares.{mix_square, IsLeastSquare}
use Rattle.seg_gap.proofs.Steps.{way_toE, whole_turn, whole_turnE}
use Rattle.seg_gap.proofs.Sides.{weights_swapped}
use Rattle.seg_gap.proofs.Feet.{dotE, at_first, sum_some}
use Rattle.seg_gap.proofs.Places.{betweenE, mix_at, of_weights}

abbrev mix_squareE : Expr → Expr → Expr → Expr → Expr → Expr → Expr → Expr → Expr
mix_squareE px py cx cy dx dy k l = way_toE px cx dx k l ⊗ way_toE px cx dx k l ⊕ way_toE py cy dy k l ⊗ way_toE py cy dy k l

-- ---- magnitudes
pub own_magnitude : (z : ℤ) → pos 0 ≤ℤ z → pos (unsigned_abs z) ≡ z
own_magnitude z h = grind arith

pub magnitude_squared : (t : ℤ) → pos (unsigned_abs t * unsigned_abs t) ≡ t *ℤ t
magnitude_squared t = grind arith

pub dot_nonneg : (c p : Pt) → pos 0 ≤ℤ dot_of c p p
dot_nonneg c p = nonneg-+ _ _ (nonneg_square _) (nonneg_square _)

-- ---- the end c is nearest where p is not on the side of d
end_low : (n : ℤ) (p c d : Pt) (k l : ℤ) → n ≡ dot_of c p p → dot_of c p d ≤ℤ pos 0 → pos 0 ≤ℤ l
    → pos 0 <ℤ (k +ℤ l)
    → (n *ℤ ((k +ℤ l) *ℤ (k +ℤ l))) ≤ℤ (mix_square p c d k l *ℤ pos 1)
end_low n p c d k l =
    follows 9 (λ n px py cx cy dx dy k l. n ≐ dotE cx cy px py px py
    ⇒ dotE cx cy px py dx dy ≼ num (pos 0) ⇒ num (pos 0) ≼ l ⇒ num (pos 0) ≺ k ⊕ l
    ⇒ n ⊗ ((k ⊕ l) ⊗ (k ⊕ l)) ≼ mix_squareE px py cx cy dx dy k l ⊗ num (pos 1)
    because eqn 0 ((k ⊕ l) ⊗ (k ⊕ l)) ⊞ square l ⊠ (square (dx ⊖ cx) ⊞ square (dy ⊖ cy))
    ⊞ nat 2 ⊠ gap 2 ⊠ gap 3 ⊠ gap 1) tt
    n p.x p.y c.x c.y d.x d.y k l

end_at : (n : ℤ) (p c d : Pt) → n ≡ dot_of c p p
    → mix_square p c d (pos 1) (pos 0) *ℤ pos 1 ≡ n *ℤ ((pos 1 +ℤ pos 0) *ℤ (pos 1 +ℤ pos 0))
end_at n p c d =
    follows 7 (λ n px py cx cy dx dy. n ≐ dotE cx cy px py px py
    ⇒ mix_squareE px py cx cy dx dy (num (pos 1)) (num (pos 0)) ⊗ num (pos 1)
    ≐ n ⊗ ((num (pos 1) ⊕ num (pos 0)) ⊗ (num (pos 1) ⊕ num (pos 0)))
    because eqn 0 (num (negsuc 0))) tt n p.x p.y c.x c.y d.x d.y

pub square_of_end : (p c d : Pt) (n m : ℕ) → dot_of c p d ≤ℤ pos 0 → pos n ≡ dot_of c p p → m ≡ 1
    → IsLeastSquare p c d n m
square_of_end p c d n m h e one =
    rw one (record {
      some = omega arith;
      low = λ k l w. end_low (pos n) p c d k l e h w.second w.some;
      k = pos 1;
      l = pos 0;
      weights = at_first;
      at = end_at (pos n) p c d e;
    })

-- ---- from the other end
pub square_swapped : (p c d : Pt) (n m : ℕ) → IsLeastSquare p d c n m → IsLeastSquare p c d n m
square_swapped p c d n m h =
    record {
      some = h.some;
      low = λ k l w.
          follows 10 (λ n m px py cx cy dx dy k l. n ⊗ ((l ⊕ k) ⊗ (l ⊕ k)) ≼ mix_squareE px py dx dy cx cy l k ⊗ m
          ⇒ n ⊗ ((k ⊕ l) ⊗ (k ⊕ l)) ≼ mix_squareE px py cx cy dx dy k l ⊗ m because gap 0) tt
          (pos n) (pos m) p.x p.y c.x c.y d.x d.y k l (h.low l k (weights_swapped k l w));
      k = h.l;
      l = h.k;
      weights = weights_swapped h.k h.l h.weights;
      at =
          follows 10 (λ n m px py cx cy dx dy k l. mix_squareE px py dx dy cx cy k l ⊗ m ≐ n ⊗ ((k ⊕ l) ⊗ (k ⊕ l))
          ⇒ mix_squareE px py cx cy dx dy l k ⊗ m ≐ n ⊗ ((l ⊕ k) ⊗ (l ⊕ k)) because eqn 0 (num (pos 1))) tt
          (pos n) (pos m) p.x p.y c.x c.y d.x d.y h.k h.l h.at;
    }

-- ---- the foot is between the ends: the height is the turn over the length
foot_low : (t n m : ℤ) (p c d : Pt) (k l : ℤ) → t ≡ whole_turn c d p → n ≡ t *ℤ t → m ≡ dot_of c p d +ℤ dot_of d p c
    → (n *ℤ ((k +ℤ l) *ℤ (k +ℤ l))) ≤ℤ (mix_square p c d k l *ℤ m)
foot_low t n m p c d k l =
    follows 11 (λ t n m px py cx cy dx dy k l. t ≐ whole_turnE cx cy dx dy px py ⇒ n ≐ t ⊗ t
    ⇒ m ≐ dotE cx cy px py dx dy ⊕ dotE dx dy px py cx cy
    ⇒ n ⊗ ((k ⊕ l) ⊗ (k ⊕ l)) ≼ mix_squareE px py cx cy dx dy k l ⊗ m
    because eqn 2 (neg (mix_squareE px py cx cy dx dy k l)) ⊞ eqn 1 ((k ⊕ l) ⊗ (k ⊕ l))
    ⊞ eqn 0 ((k ⊕ l) ⊗ (k ⊕ l) ⊗ (whole_turnE cx cy dx dy px py ⊕ t))
    ⊞ square (way_toE px cx dx k l ⊗ (dx ⊖ cx) ⊕ way_toE py cy dy k l ⊗ (dy ⊖ cy))) tt
    t n m p.x p.y c.x c.y d.x d.y k l

foot_at : (t n m : ℤ) (p c d : Pt) → t ≡ whole_turn c d p → n ≡ t *ℤ t → m ≡ dot_of c p d +ℤ dot_of d p c
    → mix_square p c d (dot_of d p c) (dot_of c p d) *ℤ m
    ≡ n *ℤ ((dot_of d p c +ℤ dot_of c p d) *ℤ (dot_of d p c +ℤ dot_of c p d))
foot_at t n m p c d =
    follows 9 (λ t n m px py cx cy dx dy. t ≐ whole_turnE cx cy dx dy px py ⇒ n ≐ t ⊗ t
    ⇒ m ≐ dotE cx cy px py dx dy ⊕ dotE dx dy px py cx cy
    ⇒ mix_squareE px py cx cy dx dy (dotE dx dy px py cx cy) (dotE cx cy px py dx dy) ⊗ m
    ≐ n ⊗ ((dotE dx dy px py cx cy ⊕ dotE cx cy px py dx dy) ⊗ (dotE dx dy px py cx cy ⊕ dotE cx cy px py dx dy))
    because eqn 2 (mix_squareE px py cx cy dx dy (dotE dx dy px py cx cy) (dotE cx cy px py dx dy))
    ⊞ eqn 1 (neg ((dotE dx dy px py cx cy ⊕ dotE cx cy px py dx dy)
    ⊗ (dotE dx dy px py cx cy ⊕ dotE cx cy px py dx dy)))
    ⊞ eqn 0 (neg ((dotE dx dy px py cx cy ⊕ dotE cx cy px py dx dy)
    ⊗ (dotE dx dy px py cx cy ⊕ dotE cx cy px py dx dy) ⊗ (whole_turnE cx cy dx dy px py ⊕ t)))) tt
    t n m p.x p.y c.x c.y d.x d.y

pub square_of_foot : (p c d : Pt) (t : ℤ) (n m : ℕ) → pos 0 <ℤ dot_of c p d → pos 0 <ℤ dot_of d p c
    → t ≡ whole_turn c d p → pos n ≡ t *ℤ t → pos m ≡ dot_of c p d +ℤ dot_of d p c → IsLeastSquare p c d n m
square_of_foot p c d t n m from to is square_is sum_is =
    let sum : pos 0 <ℤ (dot_of c p d +ℤ dot_of d p c) = sum_some (dot_of c p d) (dot_of d p c) from to in
    record {
      some = positive m (rw sum_is sum);
      low = λ k l w. foot_low t (pos n) (pos m) p c d k l is square_is sum_is;
      k = dot_of d p c;
      l = dot_of c p d;
      weights = record {
        first = ≤_of_< (pos 0) (dot_of d p c) to;
        second = ≤_of_< (pos 0) (dot_of c p d) from;
        some = sum_some (dot_of d p c) (dot_of c p d) to from;
      };
      at = foot_at t (pos n) (pos m) p c d is square_is sum_is;
    }
  where
    positive : (m : ℕ) → pos 0 <ℤ pos m → 0 < m
    positive m h = omega (arith, ints)

-- ---- places of the segment
-- r is in the place of s
low_moved : (n m px py cx cy dx dy k l sx sy sw : ℤ)
    → (n *ℤ ((k +ℤ l) *ℤ (k +ℤ l))) ≤ℤ (((k *ℤ cx +ℤ l *ℤ dx -ℤ (k +ℤ l) *ℤ px) *ℤ (k *ℤ cx +ℤ l *ℤ dx -ℤ (k +ℤ l) *ℤ px)
    +ℤ (k *ℤ cy +ℤ l *ℤ dy -ℤ (k +ℤ l) *ℤ py) *ℤ (k *ℤ cy +ℤ l *ℤ dy -ℤ (k +ℤ l) *ℤ py)) *ℤ m)
    → sx *ℤ (k *ℤ pos 1 +ℤ (l *ℤ pos 1 +ℤ pos 0)) ≡ (k *ℤ cx +ℤ (l *ℤ dx +ℤ pos 0)) *ℤ sw
    → sy *ℤ (k *ℤ pos 1 +ℤ (l *ℤ pos 1 +ℤ pos 0)) ≡ (k *ℤ cy +ℤ (l *ℤ dy +ℤ pos 0)) *ℤ sw
    → ((n *ℤ (sw *ℤ sw)) *ℤ ((k +ℤ l) *ℤ (k +ℤ l)))
    ≤ℤ (((((px *ℤ sw -ℤ sx *ℤ pos 1) *ℤ (px *ℤ sw -ℤ sx *ℤ pos 1)) +ℤ ((py *ℤ sw -ℤ sy *ℤ pos 1) *ℤ (py *ℤ sw -ℤ sy *ℤ pos 1)))
    *ℤ m) *ℤ ((k +ℤ l) *ℤ (k +ℤ l)))
low_moved =
    follows 13 (λ n m px py cx cy dx dy k l sx sy sw. n ⊗ ((k ⊕ l) ⊗ (k ⊕ l)) ≼ mix_squareE px py cx cy dx dy k l ⊗ m
    ⇒ sx ⊗ (k ⊗ num (pos 1) ⊕ (l ⊗ num (pos 1) ⊕ num (pos 0))) ≐ (k ⊗ cx ⊕ (l ⊗ dx ⊕ num (pos 0))) ⊗ sw
    ⇒ sy ⊗ (k ⊗ num (pos 1) ⊕ (l ⊗ num (pos 1) ⊕ num (pos 0))) ≐ (k ⊗ cy ⊕ (l ⊗ dy ⊕ num (pos 0))) ⊗ sw
    ⇒ (n ⊗ (sw ⊗ sw)) ⊗ ((k ⊕ l) ⊗ (k ⊕ l))
    ≼ (betweenE px py (num (pos 1)) sx sy sw ⊗ m) ⊗ ((k ⊕ l) ⊗ (k ⊕ l))
    because square sw ⊠ gap 0
    ⊞ eqn 1 (m ⊗ ((px ⊗ sw ⊖ sx) ⊗ (k ⊕ l) ⊖ sw ⊗ way_toE px cx dx k l))
    ⊞ eqn 2 (m ⊗ ((py ⊗ sw ⊖ sy) ⊗ (k ⊕ l) ⊖ sw ⊗ way_toE py cy dy k l))) tt

low_place : (p c d : Pt) (n m : ℕ) → IsLeastSquare p c d n m → (s : Point) → IsOfSegment c d s
    → (pos n *ℤ (s.w *ℤ s.w)) ≤ℤ (square_between (whole p) s *ℤ pos m)
low_place p c d n m h s of =
    let u = between_weights (whole c) (whole d) s of.mix in
    let weights = weights_of u.k u.l u.some in
    ≤_of_mul (pos n *ℤ (s.w *ℤ s.w)) (square_between (whole p) s *ℤ pos m)
    ((pos u.k +ℤ pos u.l) *ℤ (pos u.k +ℤ pos u.l))
    (mul-positive (pos u.k +ℤ pos u.l) (pos u.k +ℤ pos u.l) weights.some weights.some)
    (low_moved (pos n) (pos m) p.x p.y c.x c.y d.x d.y (pos u.k) (pos u.l) s.x s.y s.w (h.low (pos u.k) (pos u.l) weights)
    u.same.0 u.same.1)

at_place : (p c d : Pt) (n m : ℕ) (h : IsLeastSquare p c d n m)
    → square_between (whole p) (mix_at c d h.k h.l) *ℤ pos m ≡ pos n *ℤ ((h.k +ℤ h.l) *ℤ (h.k +ℤ h.l))
at_place p c d n m h =
    follows 10 (λ n m px py cx cy dx dy k l. mix_squareE px py cx cy dx dy k l ⊗ m ≐ n ⊗ ((k ⊕ l) ⊗ (k ⊕ l))
    ⇒ betweenE px py (num (pos 1)) (k ⊗ cx ⊕ l ⊗ dx) (k ⊗ cy ⊕ l ⊗ dy) (k ⊕ l) ⊗ m ≐ n ⊗ ((k ⊕ l) ⊗ (k ⊕ l))
    because eqn 0 (num (pos 1))) tt
    (pos n) (pos m) p.x p.y c.x c.y d.x d.y h.k h.l h.at

-- ---- two ends
at_most_of : (i j : ℕ) → i ≤ j → pos i ≤ℤ pos j
at_most_of i j h = omega (arith, ints)

below_of : (i j : ℕ) → i < j → pos i <ℤ pos j
below_of i j h = omega (arith, ints)

as_near : (i j n m sr ss rw sw : ℤ) → sr *ℤ j ≡ i *ℤ (rw *ℤ rw) → (n *ℤ (sw *ℤ sw)) ≤ℤ (ss *ℤ m)
    → (i *ℤ m) ≤ℤ (n *ℤ j) → pos 0 <ℤ j
    → ((sr *ℤ ((pos 1 *ℤ sw) *ℤ (pos 1 *ℤ sw))) *ℤ (j *ℤ m)) ≤ℤ ((ss *ℤ ((pos 1 *ℤ rw) *ℤ (pos 1 *ℤ rw))) *ℤ (j *ℤ m))
as_near =
    follows 8 (λ i j n m sr ss rw sw. sr ⊗ j ≐ i ⊗ (rw ⊗ rw) ⇒ n ⊗ (sw ⊗ sw) ≼ ss ⊗ m ⇒ i ⊗ m ≼ n ⊗ j
    ⇒ num (pos 0) ≺ j
    ⇒ (sr ⊗ ((num (pos 1) ⊗ sw) ⊗ (num (pos 1) ⊗ sw))) ⊗ (j ⊗ m)
    ≼ (ss ⊗ ((num (pos 1) ⊗ rw) ⊗ (num (pos 1) ⊗ rw))) ⊗ (j ⊗ m)
    because gap 3 ⊠ square rw ⊠ gap 1 ⊞ eqn 0 (sw ⊗ sw ⊗ m) ⊞ square rw ⊠ square sw ⊠ gap 2) tt

nearer : (i j n m sr ss rw sw : ℤ) → sr *ℤ j ≡ i *ℤ (rw *ℤ rw) → (n *ℤ (sw *ℤ sw)) ≤ℤ (ss *ℤ m)
    → (i *ℤ m) <ℤ (n *ℤ j) → pos 0 <ℤ j → pos 0 <ℤ (rw *ℤ sw)
    → ((sr *ℤ ((pos 1 *ℤ sw) *ℤ (pos 1 *ℤ sw))) *ℤ (j *ℤ m)) <ℤ ((ss *ℤ ((pos 1 *ℤ rw) *ℤ (pos 1 *ℤ rw))) *ℤ (j *ℤ m))
nearer =
    follows 8 (λ i j n m sr ss rw sw. sr ⊗ j ≐ i ⊗ (rw ⊗ rw) ⇒ n ⊗ (sw ⊗ sw) ≼ ss ⊗ m ⇒ i ⊗ m ≺ n ⊗ j
    ⇒ num (pos 0) ≺ j ⇒ num (pos 0) ≺ rw ⊗ sw
    ⇒ (sr ⊗ ((num (pos 1) ⊗ sw) ⊗ (num (pos 1) ⊗ sw))) ⊗ (j ⊗ m)
    ≺ (ss ⊗ ((num (pos 1) ⊗ rw) ⊗ (num (pos 1) ⊗ rw))) ⊗ (j ⊗ m)
    because gap 3 ⊠ square rw ⊠ gap 1 ⊞ eqn 0 (sw ⊗ sw ⊗ m) ⊞ square rw ⊠ square sw ⊠ over 2
    ⊞ over 4 ⊠ over 4 ⊞ nat 2 ⊠ over 4) tt

pub near_to : (p c d q e f : Pt) (i j n m : ℕ) → IsLeastSquare p c d i j → IsLeastSquare q e f n m → i * m ≤ n * j
    → IsAsNearTo p c d q e f
near_to p c d q e f i j n m one other order s of =
    let r = mix_at c d one.k one.l in
    let j_some = below_of 0 j one.some in
    let m_some = below_of 0 m other.some in (
      r,
      of_weights c d one.k one.l one.weights,
      ≤_of_mul (square_between (whole p) r *ℤ ((pos 1 *ℤ s.w) *ℤ (pos 1 *ℤ s.w)))
          (square_between (whole q) s *ℤ ((pos 1 *ℤ r.w) *ℤ (pos 1 *ℤ r.w))) (pos j *ℤ pos m)
          (mul-positive (pos j) (pos m) j_some m_some)
          (as_near (pos i) (pos j) (pos n) (pos m) (square_between (whole p) r) (square_between (whole q) s) r.w s.w
          (at_place p c d i j one) (low_place q e f n m other s of) (at_most_of (i * m) (n * j) order) j_some),
    )

pub nearer_to : (p c d q e f : Pt) (i j n m : ℕ) → IsLeastSquare p c d i j → IsLeastSquare q e f n m → i * m < n * j
    → IsNearerTo p c d q e f
nearer_to p c d q e f i j n m one other order =
    let r = mix_at c d one.k one.l in
    let own = of_weights c d one.k one.l one.weights in
    let j_some = below_of 0 j one.some in
    let m_some = below_of 0 m other.some in (
      r,
      own,
      λ s of.
          <_of_mul (square_between (whole p) r *ℤ ((pos 1 *ℤ s.w) *ℤ (pos 1 *ℤ s.w)))
          (square_between (whole q) s *ℤ ((pos 1 *ℤ r.w) *ℤ (pos 1 *ℤ r.w))) (pos j *ℤ pos m)
          (mul-positive (pos j) (pos m) j_some m_some)
          (nearer (pos i) (pos j) (pos n) (pos m) (square_between (whole p) r) (square_between (whole q) s) r.w s.w
          (at_place p c d i j one) (low_place q e f n m other s of) (below_of (i * m) (n * j) order) j_some
          (mul-positive r.w s.w own.place of.place)),
    )

-- where an end is nearer than another one, this is not as near as that
pub not_both : (p c d q e f : Pt) → IsNearerTo p c d q e f → IsAsNearTo q e f p c d → ⊥
not_both p c d q e f (r, of, less) most =
    let (s, own, order) = most r of in
    absurd_order (square_between (whole p) r *ℤ ((pos 1 *ℤ s.w) *ℤ (pos 1 *ℤ s.w)))
    (square_between (whole q) s *ℤ ((pos 1 *ℤ r.w) *ℤ (pos 1 *ℤ r.w))) (less s own) order
  where
    absurd_order : (x y : ℤ) → x <ℤ y → y ≤ℤ x → ⊥
    absurd_order x y h k = omega (arith, ints)
