-- Places of two segments: by points with denominators, and by the weights of their mixes.
use Rattle.std.proofs.Common.{◌≡◌, ℕ, ◌*◌, ◌<◌, ◌≤◌, ℤ, pos, negsuc, ◌+ℤ◌, ◌-ℤ◌, ◌*ℤ◌, ◌≤ℤ◌, ◌<ℤ◌, arith}
use Rattle.std.proofs.lemmas.Int.{ints}
use Rattle.std.proofs.Math.Nat.{mul-le-mul}
use Rattle.integer_ring.proofs.Ring.{Expr, num, neg, ◌⊕◌, ◌⊖◌, ◌⊗◌}
use Rattle.integer_ring.proofs.Order.{nonneg_square}
use Rattle.integer_ring.proofs.Signs.{≤_of_mul, mul-positive}
use Rattle.integer_ring.proofs.Claims.{◌≐◌, ◌≼◌, ◌≺◌, never, gap, over, eqn, square, ◌⊞◌, ◌⊠◌, ◌because◌, ◌⇒◌, follows}
use Rattle.integer_ring.proofs.Claims.{solve}
use Rattle.plain_laws.proofs.Weights.{weight_above}
use Rattle.plane_base.specs.Plane.{Point, Same, whole}
use Rattle.plane_base.specs.declared.shapes.Pt.{Pt}
use Rattle.plane_base.proofs.MixLaws.Mixes.{mixed, between_weights, between-w, weights_between, mix_swapped}
use Rattle.seg_gap.specs.Gaps.{IsOfSegment, square_between, AreCloser, HaveCloser}
use Rattle.plane_base.specs.TwoWeights.{AreWeights}
use Rattle.plane_base.proofs.MixLaws.TwoWeights.{weights_of}
use Rattle.seg_gap.specs.InsideEnds.{square_to, HasMixBelow}
use Rattle.seg_gap.proofs.Steps.{square_toE, IsFarAt}
use Rattle.seg_gap.proofs.Sides.{IsFar, is_far}
use Rattle.seg_gap.proofs.Feet.{at_first}

-- the square between two places, as an expression
abbrev pub betweenE : Expr → Expr → Expr → Expr → Expr → Expr → Expr
betweenE px py pw qx qy qw = (px ⊗ qw ⊖ qx ⊗ pw) ⊗ (px ⊗ qw ⊖ qx ⊗ pw) ⊕ (py ⊗ qw ⊖ qy ⊗ pw) ⊗ (py ⊗ qw ⊖ qy ⊗ pw)

-- the square of the distance of two places, four times, is at least m
abbrev pub IsFarPair : ℤ → Point → Point → Type 0
IsFarPair m p q = (m *ℤ ((p.w *ℤ q.w) *ℤ (p.w *ℤ q.w))) ≤ℤ (pos 4 *ℤ square_between p q)

-- ---- from weights to a place
abbrev pub mix_at : Pt → Pt → ℤ → ℤ → Point
mix_at a b k l = record { x = k *ℤ a.x +ℤ l *ℤ b.x; y = k *ℤ a.y +ℤ l *ℤ b.y; w = k +ℤ l }

same_axis : (k l a b : ℤ)
    → (k *ℤ a +ℤ l *ℤ b) *ℤ (k *ℤ pos 1 +ℤ (l *ℤ pos 1 +ℤ pos 0)) ≡ (k *ℤ a +ℤ (l *ℤ b +ℤ pos 0)) *ℤ (k +ℤ l)
same_axis = solve 4 (λ k l a b. (k ⊗ a ⊕ l ⊗ b) ⊗ (k ⊗ num (pos 1) ⊕ (l ⊗ num (pos 1) ⊕ num (pos 0)))
    ≐ (k ⊗ a ⊕ (l ⊗ b ⊕ num (pos 0))) ⊗ (k ⊕ l)) tt

pub of_weights : (a b : Pt) (k l : ℤ) → AreWeights k l → IsOfSegment a b (mix_at a b k l)
of_weights a b (pos k) (pos l) w =
    record {
      place = w.some;
      mix = weights_between (whole a) (whole b) (mix_at a b (pos k) (pos l)) (record {
        k = k;
        l = l;
        some = weight_above k l w.some;
        same = (same_axis (pos k) (pos l) a.x b.x, same_axis (pos k) (pos l) a.y b.y);
      });
    }
of_weights a b (negsuc k) l w = absurd w.first.le
of_weights a b (pos k) (negsuc l) w = absurd w.second.le

-- ---- from a place to weights
-- as a mix is spelled in plane_base
abbrev axisE : Expr → Expr → Expr → Expr → Expr
axisE a b i j = i ⊗ a ⊕ (j ⊗ b ⊕ num (pos 0))

abbrev weightE : Expr → Expr → Expr
weightE i j = axisE (num (pos 1)) (num (pos 1)) i j

far_mixes : (m : ℤ) (a b c d : Pt) (i j k l : ℕ) → IsFarAt m a b c d (pos i) (pos j) (pos k) (pos l)
    → IsFarPair m (mixed i j (whole a) (whole b)) (mixed k l (whole c) (whole d))
far_mixes m a b c d i j k l =
    follows 13 (λ m ax ay bx by cx cy dx dy i j k l. is_far m ax ay bx by cx cy dx dy i j k l
    ⇒ m ⊗ ((weightE i j ⊗ weightE k l) ⊗ (weightE i j ⊗ weightE k l))
    ≼ num (pos 4) ⊗ betweenE (axisE ax bx i j) (axisE ay by i j) (weightE i j) (axisE cx dx k l) (axisE cy dy k l)
    (weightE k l) because gap 0) tt
    m a.x a.y b.x b.y c.x c.y d.x d.y (pos i) (pos j) (pos k) (pos l)

-- r is in the place of p, and s in that of q
far_moved : (m : ℤ) (p q r s : Point) → Same p r → Same q s → IsFarPair m r s
    → ((m *ℤ ((p.w *ℤ q.w) *ℤ (p.w *ℤ q.w))) *ℤ ((r.w *ℤ s.w) *ℤ (r.w *ℤ s.w)))
    ≤ℤ ((pos 4 *ℤ square_between p q) *ℤ ((r.w *ℤ s.w) *ℤ (r.w *ℤ s.w)))
far_moved m p q r s e f far =
    follows 13 (λ m px py pw qx qy qw rx ry rw sx sy sw. px ⊗ rw ≐ rx ⊗ pw ⇒ py ⊗ rw ≐ ry ⊗ pw ⇒ qx ⊗ sw ≐ sx ⊗ qw
    ⇒ qy ⊗ sw ≐ sy ⊗ qw
    ⇒ m ⊗ ((rw ⊗ sw) ⊗ (rw ⊗ sw)) ≼ num (pos 4) ⊗ betweenE rx ry rw sx sy sw
    ⇒ (m ⊗ ((pw ⊗ qw) ⊗ (pw ⊗ qw))) ⊗ ((rw ⊗ sw) ⊗ (rw ⊗ sw)) ≼ (num (pos 4) ⊗ betweenE px py pw qx qy qw)
    ⊗ ((rw ⊗ sw) ⊗ (rw ⊗ sw))
    because square (pw ⊗ qw) ⊠ gap 4
    ⊞ eqn 0 (neg (num (pos 4) ⊗ qw ⊗ sw ⊗ ((px ⊗ qw ⊖ qx ⊗ pw) ⊗ rw ⊗ sw ⊕ (rx ⊗ sw ⊖ sx ⊗ rw) ⊗ pw ⊗ qw)))
    ⊞ eqn 1 (neg (num (pos 4) ⊗ qw ⊗ sw ⊗ ((py ⊗ qw ⊖ qy ⊗ pw) ⊗ rw ⊗ sw ⊕ (ry ⊗ sw ⊖ sy ⊗ rw) ⊗ pw ⊗ qw)))
    ⊞ eqn 2 (num (pos 4) ⊗ pw ⊗ rw ⊗ ((px ⊗ qw ⊖ qx ⊗ pw) ⊗ rw ⊗ sw ⊕ (rx ⊗ sw ⊖ sx ⊗ rw) ⊗ pw ⊗ qw))
    ⊞ eqn 3 (num (pos 4) ⊗ pw ⊗ rw ⊗ ((py ⊗ qw ⊖ qy ⊗ pw) ⊗ rw ⊗ sw ⊕ (ry ⊗ sw ⊖ sy ⊗ rw) ⊗ pw ⊗ qw))) tt
    m p.x p.y p.w q.x q.y q.w r.x r.y r.w s.x s.y s.w e.0 e.1 f.0 f.1 far

far_places : (m : ℤ) (a b c d : Pt) → IsFar m a b c d → (p q : Point) → IsOfSegment a b p → IsOfSegment c d q
    → IsFarPair m p q
far_places m a b c d far p q first second =
    let u = between_weights (whole a) (whole b) p first.mix in
    let v = between_weights (whole c) (whole d) q second.mix in
    let r = mixed u.k u.l (whole a) (whole b) in
    let s = mixed v.k v.l (whole c) (whole d) in
    let one : pos 0 <ℤ pos 1 = omega (arith, ints) in
    let rw_some : pos 0 <ℤ r.w = between-w (whole a) (whole b) p u one one in
    let sw_some : pos 0 <ℤ s.w = between-w (whole c) (whole d) q v one one in
    let both : pos 0 <ℤ (r.w *ℤ s.w) = mul-positive r.w s.w rw_some sw_some in
    ≤_of_mul (m *ℤ ((p.w *ℤ q.w) *ℤ (p.w *ℤ q.w))) (pos 4 *ℤ square_between p q) ((r.w *ℤ s.w) *ℤ (r.w *ℤ s.w))
    (mul-positive (r.w *ℤ s.w) (r.w *ℤ s.w) both both)
    (far_moved m p q r s u.same v.same
    (far_mixes m a b c d u.k u.l v.k v.l (far (pos u.k) (pos u.l) (pos v.k) (pos v.l) (weights_of u.k u.l u.some)
    (weights_of v.k v.l v.some))))

-- ---- closer places
at_most : (k m : ℕ) → k ≤ m → pos k ≤ℤ pos m
at_most k m h = omega (arith, ints)

under : (k m : ℕ) → k < m → pos k <ℤ pos m
under k m h = omega (arith, ints)

pub none_closer : (value n : ℕ) (a b c d : Pt) → IsFar (pos value) a b c d → n * n ≤ value → HaveCloser n a b c d → ⊥
none_closer value n a b c d far h k =
    follows 4 (λ s v w q. s ≼ v ⇒ num (pos 0) ≼ w ⇒ v ⊗ w ≼ q ⇒ q ≺ s ⊗ w ⇒ never
    because over 3 ⊞ gap 2 ⊞ gap 0 ⊠ gap 1) tt
    (pos (n * n)) (pos value) ((k.p.w *ℤ k.q.w) *ℤ (k.p.w *ℤ k.q.w)) (pos 4 *ℤ square_between k.p k.q)
    (at_most (n * n) value h) (nonneg_square (k.p.w *ℤ k.q.w))
    (far_places (pos value) a b c d far k.p k.q k.first k.second) k.closer

closer_at : (s v : ℤ) (a b c d : Pt) (k l : ℤ) → square_to a c d k l <ℤ ((v +ℤ pos 1) *ℤ ((k +ℤ l) *ℤ (k +ℤ l)))
    → v <ℤ s
    → (pos 4 *ℤ square_between (mix_at a b (pos 1) (pos 0)) (mix_at c d k l))
    <ℤ (s *ℤ (((pos 1 +ℤ pos 0) *ℤ (k +ℤ l)) *ℤ ((pos 1 +ℤ pos 0) *ℤ (k +ℤ l))))
closer_at s v a b c d k l =
    follows 12 (λ s v ax ay bx by cx cy dx dy k l.
    square_toE ax ay cx cy dx dy k l ≺ (v ⊕ num (pos 1)) ⊗ ((k ⊕ l) ⊗ (k ⊕ l)) ⇒ v ≺ s
    ⇒ num (pos 4) ⊗ betweenE (num (pos 1) ⊗ ax ⊕ num (pos 0) ⊗ bx) (num (pos 1) ⊗ ay ⊕ num (pos 0) ⊗ by)
    (num (pos 1) ⊕ num (pos 0))
    (k ⊗ cx ⊕ l ⊗ dx) (k ⊗ cy ⊕ l ⊗ dy) (k ⊕ l)
    ≺ s ⊗ (((num (pos 1) ⊕ num (pos 0)) ⊗ (k ⊕ l)) ⊗ ((num (pos 1) ⊕ num (pos 0)) ⊗ (k ⊕ l)))
    because over 0 ⊞ over 1 ⊠ square (k ⊕ l)) tt
    s v a.x a.y b.x b.y c.x c.y d.x d.y k l

-- the end a and a point of the other segment
pub closer_end : (value n : ℕ) (a b c d : Pt) → HasMixBelow (pos value) a c d → value < n * n → HaveCloser n a b c d
closer_end value n a b c d r h =
    record {
      p = mix_at a b (pos 1) (pos 0);
      q = mix_at c d r.k r.l;
      first = of_weights a b (pos 1) (pos 0) at_first;
      second = of_weights c d r.k r.l r.weights;
      closer = closer_at (pos (n * n)) (pos value) a b c d r.k r.l r.below (under value (n * n) h);
    }

pub closer_reversed : (n : ℕ) (a b c d : Pt) → HaveCloser n a b c d → HaveCloser n b a c d
closer_reversed n a b c d h = grind (arith, mix_swapped)

pub closer_exchanged : (n : ℕ) (a b c d : Pt) → HaveCloser n a b c d → HaveCloser n c d a b
closer_exchanged n a b c d h =
    record {
      p = h.q;
      q = h.p;
      first = h.second;
      second = h.first;
      closer =
          follows 7 (λ s px py pw qx qy qw. num (pos 4) ⊗ betweenE px py pw qx qy qw ≺ s ⊗ ((pw ⊗ qw) ⊗ (pw ⊗ qw))
          ⇒ num (pos 4) ⊗ betweenE qx qy qw px py pw ≺ s ⊗ ((qw ⊗ pw) ⊗ (qw ⊗ pw))
          because over 0) tt (pos (n * n)) h.p.x h.p.y h.p.w h.q.x h.q.y h.q.w h.closer;
    }

pub closer_more : (m n : ℕ) (a b c d : Pt) → m ≤ n → HaveCloser m a b c d → HaveCloser n a b c d
closer_more m n a b c d order h =
    record {
      p = h.p;
      q = h.q;
      first = h.first;
      second = h.second;
      closer =
          follows 4 (λ s t w q. q ≺ s ⊗ w ⇒ s ≼ t ⇒ num (pos 0) ≼ w ⇒ q ≺ t ⊗ w because over 0 ⊞ gap 1 ⊠ gap 2) tt
          (pos (m * m)) (pos (n * n)) ((h.p.w *ℤ h.q.w) *ℤ (h.p.w *ℤ h.q.w)) (pos 4 *ℤ square_between h.p h.q) h.closer
          (at_most (m * m) (n * n) (mul-le-mul order order)) (nonneg_square (h.p.w *ℤ h.q.w));
    }

-- two spellings of one point
closer_same : (s px py pw qx qy qw : ℤ) → px ≡ qx → py ≡ qy → pw ≡ qw → pos 0 <ℤ (pw *ℤ qw) → pos 0 <ℤ s
    → (pos 4 *ℤ ((px *ℤ qw -ℤ qx *ℤ pw) *ℤ (px *ℤ qw -ℤ qx *ℤ pw) +ℤ (py *ℤ qw -ℤ qy *ℤ pw) *ℤ (py *ℤ qw -ℤ qy *ℤ pw)))
    <ℤ (s *ℤ ((pw *ℤ qw) *ℤ (pw *ℤ qw)))
closer_same =
    follows 7 (λ s px py pw qx qy qw. px ≐ qx ⇒ py ≐ qy ⇒ pw ≐ qw ⇒ num (pos 0) ≺ pw ⊗ qw ⇒ num (pos 0) ≺ s
    ⇒ num (pos 4) ⊗ betweenE px py pw qx qy qw ≺ s ⊗ ((pw ⊗ qw) ⊗ (pw ⊗ qw))
    because over 4 ⊠ square (pw ⊗ qw) ⊞ gap 3 ⊠ over 3 ⊞ over 3
    ⊞ eqn 0 (num (pos 4) ⊗ (px ⊗ qw ⊖ qx ⊗ pw) ⊗ qw) ⊞ eqn 1 (num (pos 4) ⊗ (py ⊗ qw ⊖ qy ⊗ pw) ⊗ qw)
    ⊞ eqn 2 (neg (num (pos 4) ⊗ ((px ⊗ qw ⊖ qx ⊗ pw) ⊗ qx ⊕ (py ⊗ qw ⊖ qy ⊗ pw) ⊗ qy)))) tt

pub same_closer : (n : ℕ) (p q : Point) → 0 < n → pos 0 <ℤ p.w → pos 0 <ℤ q.w → p.x ≡ q.x → p.y ≡ q.y → p.w ≡ q.w
    → AreCloser n p q
same_closer n p q h hp hq ex ey ew =
    closer_same (pos (n * n)) p.x p.y p.w q.x q.y q.w ex ey ew (mul-positive p.w q.w hp hq)
    (under 0 (n * n) (some_square n h))
  where
    some_square : (n : ℕ) → 0 < n → 0 < n * n
    some_square n h = grind (arith, mul-le-mul)
