-- Two points of two segments move in proportion until one is at an end of its segment: they come no farther apart.
use Rattle.std.proofs.Common.{◌≡◌, ◌⊎◌, inl, inr, ℤ, pos, negsuc, ◌+ℤ◌, ◌-ℤ◌, ◌*ℤ◌, ◌≤ℤ◌, ◌<ℤ◌, neg_ℤ, arith}
use Rattle.integer_ring.proofs.Ring.{Expr, num, neg, ◌⊕◌, ◌⊖◌, ◌⊗◌}
use Rattle.integer_ring.proofs.Order.{≤_or_>}
use Rattle.integer_ring.proofs.Signs.{≤_of_mul, mul-positive}
use Rattle.integer_ring.proofs.Claims.{◌≐◌, ◌≼◌, ◌≺◌, gap, over, eqn, nat, square, ◌⊞◌, ◌⊠◌, ◌because◌, ◌⇒◌, follows}
use Rattle.integer_ring.proofs.Claims.{solve}
use Rattle.plane_base.specs.declared.shapes.Pt.{Pt}
use Rattle.plane_base.specs.TwoWeights.{AreWeights}
use Rattle.seg_gap.specs.InsideEnds.{way_to, IsLow}

-- ---- words, and their twins on expressions
-- on one axis: the way from a point q over n to the mix of a and b, times i + j and n
abbrev pub way_from : ℤ → ℤ → ℤ → ℤ → ℤ → ℤ → ℤ
way_from a b q n i j = n *ℤ (i *ℤ a +ℤ j *ℤ b) -ℤ (i +ℤ j) *ℤ q

abbrev pub way_fromE : Expr → Expr → Expr → Expr → Expr → Expr → Expr
way_fromE a b q n i j = n ⊗ (i ⊗ a ⊕ j ⊗ b) ⊖ (i ⊕ j) ⊗ q

abbrev pub way_toE : Expr → Expr → Expr → Expr → Expr → Expr
way_toE p c d k l = k ⊗ c ⊕ l ⊗ d ⊖ (k ⊕ l) ⊗ p

-- four times the square of the way from p to the mix of c and d
abbrev pub square_toE : Expr → Expr → Expr → Expr → Expr → Expr → Expr → Expr → Expr
square_toE px py cx cy dx dy k l =
    num (pos 4) ⊗ (way_toE px cx dx k l ⊗ way_toE px cx dx k l ⊕ way_toE py cy dy k l ⊗ way_toE py cy dy k l)

-- r times both denominators
abbrev pub denominator : ℤ → ℤ → ℤ → ℤ → ℤ
denominator i j n r = r *ℤ ((i +ℤ j) *ℤ n)

abbrev denominatorE : Expr → Expr → Expr → Expr → Expr
denominatorE i j n r = r ⊗ ((i ⊕ j) ⊗ n)

-- on one axis: from e to the point that is the s/r of the way before a
abbrev pub partner : ℤ → ℤ → ℤ → ℤ → ℤ → ℤ → ℤ → ℤ → ℤ → ℤ
partner a b e q n i j r s = denominator i j n r *ℤ a -ℤ s *ℤ way_from a b q n i j -ℤ denominator i j n r *ℤ e

abbrev partnerE : Expr → Expr → Expr → Expr → Expr → Expr → Expr → Expr → Expr → Expr
partnerE a b e q n i j r s = denominatorE i j n r ⊗ a ⊖ s ⊗ way_fromE a b q n i j ⊖ denominatorE i j n r ⊗ e

-- ---- what holds of a way holds of one that is as long or longer
longer : (m t u v z s h k x y : ℤ) → (m *ℤ (t *ℤ t)) ≤ℤ (pos 4 *ℤ (u *ℤ u +ℤ v *ℤ v)) → z *ℤ t ≡ s *ℤ h
    → z *ℤ u ≡ k *ℤ x → z *ℤ v ≡ k *ℤ y → neg_ℤ h ≤ℤ k → k ≤ℤ h
    → ((m *ℤ (s *ℤ s)) *ℤ (h *ℤ h)) ≤ℤ ((pos 4 *ℤ (x *ℤ x +ℤ y *ℤ y)) *ℤ (h *ℤ h))
longer =
    follows 10 (λ m t u v z s h k x y.
    m ⊗ (t ⊗ t) ≼ num (pos 4) ⊗ (u ⊗ u ⊕ v ⊗ v) ⇒ z ⊗ t ≐ s ⊗ h ⇒ z ⊗ u ≐ k ⊗ x ⇒ z ⊗ v ≐ k ⊗ y ⇒ neg h ≼ k ⇒ k ≼ h
    ⇒ (m ⊗ (s ⊗ s)) ⊗ (h ⊗ h) ≼ (num (pos 4) ⊗ (x ⊗ x ⊕ y ⊗ y)) ⊗ (h ⊗ h)
    because square z ⊠ gap 0 ⊞ eqn 1 (neg (m ⊗ (z ⊗ t ⊕ s ⊗ h))) ⊞ eqn 2 (num (pos 4) ⊗ (k ⊗ x ⊕ z ⊗ u))
    ⊞ eqn 3 (num (pos 4) ⊗ (k ⊗ y ⊕ z ⊗ v))
    ⊞ nat 4 ⊠ (square x ⊞ square y) ⊠ gap 5 ⊠ gap 4) tt

pub shrink : (m t u v z s h k x y : ℤ) → (m *ℤ (t *ℤ t)) ≤ℤ (pos 4 *ℤ (u *ℤ u +ℤ v *ℤ v)) → z *ℤ t ≡ s *ℤ h
    → z *ℤ u ≡ k *ℤ x → z *ℤ v ≡ k *ℤ y → neg_ℤ h ≤ℤ k → k ≤ℤ h → pos 0 <ℤ h
    → (m *ℤ (s *ℤ s)) ≤ℤ (pos 4 *ℤ (x *ℤ x +ℤ y *ℤ y))
shrink m t u v z s h k x y low e f g from to positive =
    ≤_of_mul (m *ℤ (s *ℤ s)) (pos 4 *ℤ (x *ℤ x +ℤ y *ℤ y)) (h *ℤ h) (mul-positive h h positive positive)
    (longer m t u v z s h k x y low e f g from to)

-- ---- the share that is left, where a point is one way from the end and another from its start
share_low : (f g r s : ℤ) → pos 0 ≤ℤ f → pos 0 <ℤ g → pos 0 <ℤ r → pos 0 ≤ℤ s
    → neg_ℤ (r *ℤ (f +ℤ g)) ≤ℤ (g *ℤ r +ℤ f *ℤ s)
share_low =
    follows 4 (λ f g r s. num (pos 0) ≼ f ⇒ num (pos 0) ≺ g ⇒ num (pos 0) ≺ r ⇒ num (pos 0) ≼ s
    ⇒ neg (r ⊗ (f ⊕ g)) ≼ g ⊗ r ⊕ f ⊗ s
    because gap 1 ⊠ gap 2 ⊞ gap 0 ⊠ gap 3 ⊞ gap 2 ⊠ (gap 0 ⊞ gap 1)) tt

share_high : (f g r s : ℤ) → pos 0 ≤ℤ f → s ≤ℤ r → (g *ℤ r +ℤ f *ℤ s) ≤ℤ (r *ℤ (f +ℤ g))
share_high = follows 4 (λ f g r s. num (pos 0) ≼ f ⇒ s ≼ r ⇒ g ⊗ r ⊕ f ⊗ s ≼ r ⊗ (f ⊕ g) because gap 0 ⊠ gap 1) tt

share_some : (f g r : ℤ) → pos 0 ≤ℤ f → pos 0 <ℤ g → pos 0 <ℤ r → pos 0 <ℤ (r *ℤ (f +ℤ g))
share_some =
    follows 3 (λ f g r. num (pos 0) ≼ f ⇒ num (pos 0) ≺ g ⇒ num (pos 0) ≺ r ⇒ num (pos 0) ≺ r ⊗ (f ⊕ g)
    because over 2 ⊠ gap 1 ⊞ over 1 ⊞ gap 2 ⊠ gap 0) tt

far_some : (l i j n r g : ℤ) → pos 0 ≤ℤ l → pos 0 <ℤ (i +ℤ j) → pos 0 <ℤ n → pos 0 <ℤ r → pos 0 <ℤ g
    → pos 0 ≤ℤ (l *ℤ (denominator i j n r *ℤ g))
far_some =
    follows 6 (λ l i j n r g. num (pos 0) ≼ l ⇒ num (pos 0) ≺ i ⊕ j ⇒ num (pos 0) ≺ n ⇒ num (pos 0) ≺ r
    ⇒ num (pos 0) ≺ g ⇒ num (pos 0) ≼ l ⊗ (denominatorE i j n r ⊗ g)
    because gap 0 ⊠ (gap 3 ⊠ (gap 1 ⊠ gap 2) ⊠ gap 4)) tt

back_some : (n y : ℤ) → pos 0 <ℤ n → y <ℤ pos 0 → pos 0 <ℤ (n *ℤ neg_ℤ y)
back_some = follows 2 (λ n y. num (pos 0) ≺ n ⇒ y ≺ num (pos 0) ⇒ num (pos 0) ≺ n ⊗ neg y
    because over 0 ⊠ gap 1 ⊞ over 1) tt

-- ---- the weights of the other point where the end is met: g times its own, and f at the end a
at_end_first : (f g i j : ℤ) → pos 0 ≤ℤ f → pos 0 <ℤ g → pos 0 ≤ℤ i → pos 0 <ℤ (i +ℤ j)
    → pos 0 ≤ℤ (g *ℤ i +ℤ f *ℤ (i +ℤ j))
at_end_first =
    follows 4 (λ f g i j. num (pos 0) ≼ f ⇒ num (pos 0) ≺ g ⇒ num (pos 0) ≼ i ⇒ num (pos 0) ≺ i ⊕ j
    ⇒ num (pos 0) ≼ g ⊗ i ⊕ f ⊗ (i ⊕ j)
    because gap 1 ⊠ gap 2 ⊞ gap 0 ⊠ gap 3) tt

at_end_second : (g j : ℤ) → pos 0 <ℤ g → pos 0 ≤ℤ j → pos 0 ≤ℤ (g *ℤ j)
at_end_second = follows 2 (λ g j. num (pos 0) ≺ g ⇒ num (pos 0) ≼ j ⇒ num (pos 0) ≼ g ⊗ j because gap 0 ⊠ gap 1) tt

at_end_some : (f g i j : ℤ) → pos 0 ≤ℤ f → pos 0 <ℤ g → pos 0 <ℤ (i +ℤ j)
    → pos 0 <ℤ ((g *ℤ i +ℤ f *ℤ (i +ℤ j)) +ℤ g *ℤ j)
at_end_some =
    follows 4 (λ f g i j. num (pos 0) ≼ f ⇒ num (pos 0) ≺ g ⇒ num (pos 0) ≺ i ⊕ j
    ⇒ num (pos 0) ≺ (g ⊗ i ⊕ f ⊗ (i ⊕ j)) ⊕ g ⊗ j
    because over 1 ⊠ gap 2 ⊞ over 2 ⊞ gap 0 ⊠ gap 2) tt

at_end_weights : (f g i j : ℤ) → pos 0 ≤ℤ f → pos 0 <ℤ g → AreWeights i j
    → AreWeights (g *ℤ i +ℤ f *ℤ (i +ℤ j)) (g *ℤ j)
at_end_weights f g i j hf hg w = grind (arith, at_end_first, at_end_second, at_end_some)

at_end_sum : (f g i j n r : ℤ) → (r *ℤ n) *ℤ ((g *ℤ i +ℤ f *ℤ (i +ℤ j)) +ℤ g *ℤ j) ≡ ((i +ℤ j) *ℤ n) *ℤ (r *ℤ (f +ℤ g))
at_end_sum = solve 6 (λ f g i j n r. (r ⊗ n) ⊗ ((g ⊗ i ⊕ f ⊗ (i ⊕ j)) ⊕ g ⊗ j) ≐ ((i ⊕ j) ⊗ n) ⊗ (r ⊗ (f ⊕ g))) tt

-- on one axis: from the end to the other point the way is the share of the old way
at_end_axis : (a b e v q n i j l r s g y : ℤ) → q ≡ n *ℤ e +ℤ l *ℤ v → g *ℤ partner a b e q n i j r s ≡ y *ℤ v
    → (r *ℤ n) *ℤ way_to e a b ((n *ℤ neg_ℤ y) *ℤ i +ℤ (l *ℤ (denominator i j n r *ℤ g)) *ℤ (i +ℤ j))
    ((n *ℤ neg_ℤ y) *ℤ j) ≡ ((n *ℤ neg_ℤ y) *ℤ r +ℤ (l *ℤ (denominator i j n r *ℤ g)) *ℤ s) *ℤ way_from a b q n i j
at_end_axis =
    follows 13 (λ a b e v q n i j l r s g y. q ≐ n ⊗ e ⊕ l ⊗ v ⇒ g ⊗ partnerE a b e q n i j r s ≐ y ⊗ v
    ⇒ (r ⊗ n) ⊗ way_toE e a b ((n ⊗ neg y) ⊗ i ⊕ (l ⊗ (denominatorE i j n r ⊗ g)) ⊗ (i ⊕ j)) ((n ⊗ neg y) ⊗ j)
    ≐ ((n ⊗ neg y) ⊗ r ⊕ (l ⊗ (denominatorE i j n r ⊗ g)) ⊗ s) ⊗ way_fromE a b q n i j
    because eqn 0 (r ⊗ (n ⊗ neg y) ⊗ (i ⊕ j)) ⊞ eqn 1 (l ⊗ denominatorE i j n r)) tt

-- the end e is met, since the partner is on the line from e in the direction v at y/g, with y below 0, and q at l/n
at_end : (m : ℤ) (a b e : Pt) (vx vy qx qy n i j l r s g y : ℤ) → AreWeights i j → pos 0 <ℤ n → pos 0 ≤ℤ l
    → pos 0 <ℤ r → pos 0 ≤ℤ s → s ≤ℤ r → pos 0 <ℤ g → y <ℤ pos 0
    → qx ≡ n *ℤ e.x +ℤ l *ℤ vx → qy ≡ n *ℤ e.y +ℤ l *ℤ vy → g *ℤ partner a.x b.x e.x qx n i j r s ≡ y *ℤ vx
    → g *ℤ partner a.y b.y e.y qy n i j r s ≡ y *ℤ vy → IsLow m e a b
    → (m *ℤ (((i +ℤ j) *ℤ n) *ℤ ((i +ℤ j) *ℤ n)))
    ≤ℤ (pos 4 *ℤ (way_from a.x b.x qx n i j *ℤ way_from a.x b.x qx n i j +ℤ way_from a.y b.y qy n i j
    *ℤ way_from a.y b.y qy n i j))
at_end m a b e vx vy qx qy n i j l r s g y w hn hl hr hs hsr hg hy is_x is_y on_x on_y low =
    let f : ℤ = l *ℤ (denominator i j n r *ℤ g) in
    let h : ℤ = n *ℤ neg_ℤ y in
    let hf : pos 0 ≤ℤ f = far_some l i j n r g hl w.some hn hr hg in
    let hh : pos 0 <ℤ h = back_some n y hn hy in
    let k : ℤ = h *ℤ i +ℤ f *ℤ (i +ℤ j) in
    shrink m (k +ℤ h *ℤ j) (way_to e.x a.x b.x k (h *ℤ j)) (way_to e.y a.y b.y k (h *ℤ j)) (r *ℤ n) ((i +ℤ j) *ℤ n)
    (r *ℤ (f +ℤ h)) (h *ℤ r +ℤ f *ℤ s)
    (way_from a.x b.x qx n i j) (way_from a.y b.y qy n i j)
    (low k (h *ℤ j) (at_end_weights f h i j hf hh w)) (at_end_sum f h i j n r)
    (at_end_axis a.x b.x e.x vx qx n i j l r s g y is_x on_x) (at_end_axis a.y b.y e.y vy qy n i j l r s g y is_y on_y)
    (share_low f h r s hf hh hr hs) (share_high f h r s hf hsr) (share_some f h r hf hh hr)

-- ---- the partner is a point of the segment
within_sum : (i j n r g y : ℤ) → pos 1 *ℤ ((denominator i j n r *ℤ g -ℤ y) +ℤ y) ≡ ((i +ℤ j) *ℤ n) *ℤ (r *ℤ g)
within_sum = solve 6 (λ i j n r g y. num (pos 1) ⊗ ((denominatorE i j n r ⊗ g ⊖ y) ⊕ y) ≐ ((i ⊕ j) ⊗ n) ⊗ (r ⊗ g)) tt

within_axis : (a b c d q n i j r s g y : ℤ) → g *ℤ partner a b c q n i j r s ≡ y *ℤ (d -ℤ c)
    → pos 1 *ℤ way_to a c d (denominator i j n r *ℤ g -ℤ y) y ≡ neg_ℤ (g *ℤ s) *ℤ way_from a b q n i j
within_axis =
    follows 12 (λ a b c d q n i j r s g y. g ⊗ partnerE a b c q n i j r s ≐ y ⊗ (d ⊖ c)
    ⇒ num (pos 1) ⊗ way_toE a c d (denominatorE i j n r ⊗ g ⊖ y) y ≐ neg (g ⊗ s) ⊗ way_fromE a b q n i j
    because eqn 0 (num (negsuc 0))) tt

within_low : (r s g : ℤ) → s ≤ℤ r → pos 0 <ℤ g → neg_ℤ (r *ℤ g) ≤ℤ neg_ℤ (g *ℤ s)
within_low = follows 3 (λ r s g. s ≼ r ⇒ num (pos 0) ≺ g ⇒ neg (r ⊗ g) ≼ neg (g ⊗ s) because gap 0 ⊠ gap 1) tt

within_high : (r s g : ℤ) → pos 0 ≤ℤ s → pos 0 <ℤ r → pos 0 <ℤ g → neg_ℤ (g *ℤ s) ≤ℤ (r *ℤ g)
within_high = follows 3 (λ r s g. num (pos 0) ≼ s ⇒ num (pos 0) ≺ r ⇒ num (pos 0) ≺ g ⇒ neg (g ⊗ s) ≼ r ⊗ g
    because gap 0 ⊠ gap 2 ⊞ gap 1 ⊠ gap 2) tt

rest_some : (z y : ℤ) → y ≤ℤ z → pos 0 ≤ℤ (z -ℤ y)
rest_some = follows 2 (λ z y. y ≼ z ⇒ num (pos 0) ≼ z ⊖ y because gap 0) tt

all_some : (i j n r g y : ℤ) → pos 0 <ℤ (i +ℤ j) → pos 0 <ℤ n → pos 0 <ℤ r → pos 0 <ℤ g
    → pos 0 <ℤ ((denominator i j n r *ℤ g -ℤ y) +ℤ y)
all_some i j n r g y hm hn hr hg =
    follows 2 (λ z y. num (pos 0) ≺ z ⇒ num (pos 0) ≺ (z ⊖ y) ⊕ y because over 0) tt (denominator i j n r *ℤ g) y
    (mul-positive (denominator i j n r) g (mul-positive r ((i +ℤ j) *ℤ n) hr (mul-positive (i +ℤ j) n hm hn)) hg)

within : (m : ℤ) (a b c d : Pt) (qx qy n i j r s g y : ℤ) → AreWeights i j → pos 0 <ℤ n → pos 0 <ℤ r → pos 0 ≤ℤ s
    → s ≤ℤ r → pos 0 <ℤ g → pos 0 ≤ℤ y → y ≤ℤ (denominator i j n r *ℤ g)
    → g *ℤ partner a.x b.x c.x qx n i j r s ≡ y *ℤ (d.x -ℤ c.x)
    → g *ℤ partner a.y b.y c.y qy n i j r s ≡ y *ℤ (d.y -ℤ c.y) → IsLow m a c d
    → (m *ℤ (((i +ℤ j) *ℤ n) *ℤ ((i +ℤ j) *ℤ n)))
    ≤ℤ (pos 4 *ℤ (way_from a.x b.x qx n i j *ℤ way_from a.x b.x qx n i j +ℤ way_from a.y b.y qy n i j
    *ℤ way_from a.y b.y qy n i j))
within m a b c d qx qy n i j r s g y w hn hr hs hsr hg from to on_x on_y low =
    let k : ℤ = denominator i j n r *ℤ g -ℤ y in
    shrink m (k +ℤ y) (way_to a.x c.x d.x k y) (way_to a.y c.y d.y k y) (pos 1) ((i +ℤ j) *ℤ n) (r *ℤ g)
    (neg_ℤ (g *ℤ s))
    (way_from a.x b.x qx n i j) (way_from a.y b.y qy n i j)
    (low k y (grind (arith, rest_some, all_some)))
    (within_sum i j n r g y) (within_axis a.x b.x c.x d.x qx n i j r s g y on_x)
    (within_axis a.y b.y c.y d.y qy n i j r s g y on_y)
    (within_low r s g hsr hg) (within_high r s g hs hr hg) (mul-positive r g hr hg)

-- ---- the partner is on the line of c and d
-- by how much a point is to the left of it
abbrev pub whole_turn : Pt → Pt → Pt → ℤ
whole_turn c d a = (d.x -ℤ c.x) *ℤ (a.y -ℤ c.y) -ℤ (d.y -ℤ c.y) *ℤ (a.x -ℤ c.x)

abbrev pub whole_turnE : Expr → Expr → Expr → Expr → Expr → Expr → Expr
whole_turnE cx cy dx dy ax ay = (dx ⊖ cx) ⊗ (ay ⊖ cy) ⊖ (dy ⊖ cy) ⊗ (ax ⊖ cx)

on_line : (a b c d : Pt) (qx qy n i j l r s : ℤ) → qx ≡ n *ℤ c.x +ℤ l *ℤ (d.x -ℤ c.x)
    → qy ≡ n *ℤ c.y +ℤ l *ℤ (d.y -ℤ c.y)
    → s *ℤ (i *ℤ whole_turn c d a +ℤ j *ℤ whole_turn c d b) ≡ r *ℤ ((i +ℤ j) *ℤ whole_turn c d a)
    → (d.x -ℤ c.x) *ℤ partner a.y b.y c.y qy n i j r s ≡ (d.y -ℤ c.y) *ℤ partner a.x b.x c.x qx n i j r s
on_line a b c d qx qy n i j l r s =
    follows 16 (λ ax ay bx by cx cy dx dy qx qy n i j l r s. qx ≐ n ⊗ cx ⊕ l ⊗ (dx ⊖ cx) ⇒ qy ≐ n ⊗ cy ⊕ l ⊗ (dy ⊖ cy)
    ⇒ s ⊗ (i ⊗ whole_turnE cx cy dx dy ax ay ⊕ j ⊗ whole_turnE cx cy dx dy bx by) ≐ r
    ⊗ ((i ⊕ j) ⊗ whole_turnE cx cy dx dy ax ay)
    ⇒ (dx ⊖ cx) ⊗ partnerE ay by cy qy n i j r s ≐ (dy ⊖ cy) ⊗ partnerE ax bx cx qx n i j r s
    because eqn 0 (neg (s ⊗ (i ⊕ j) ⊗ (dy ⊖ cy))) ⊞ eqn 1 (s ⊗ (i ⊕ j) ⊗ (dx ⊖ cx)) ⊞ eqn 2 (neg n)) tt
    a.x a.y b.x b.y c.x c.y d.x d.y qx qy n i j l r s

-- so it is some times the direction
on_x : (u v x y : ℤ) → u *ℤ y ≡ v *ℤ x → (u *ℤ u +ℤ v *ℤ v) *ℤ x ≡ (x *ℤ u +ℤ y *ℤ v) *ℤ u
on_x = follows 4 (λ u v x y. u ⊗ y ≐ v ⊗ x ⇒ (u ⊗ u ⊕ v ⊗ v) ⊗ x ≐ (x ⊗ u ⊕ y ⊗ v) ⊗ u because eqn 0 (neg v)) tt

on_y : (u v x y : ℤ) → u *ℤ y ≡ v *ℤ x → (u *ℤ u +ℤ v *ℤ v) *ℤ y ≡ (x *ℤ u +ℤ y *ℤ v) *ℤ v
on_y = follows 4 (λ u v x y. u ⊗ y ≐ v ⊗ x ⇒ (u ⊗ u ⊕ v ⊗ v) ⊗ y ≐ (x ⊗ u ⊕ y ⊗ v) ⊗ v because eqn 0 u) tt

-- from the other end
from_end : (a b c d q n i j r s g y : ℤ) → g *ℤ partner a b c q n i j r s ≡ y *ℤ (d -ℤ c)
    → g *ℤ partner a b d q n i j r s ≡ (denominator i j n r *ℤ g -ℤ y) *ℤ (c -ℤ d)
from_end =
    follows 12 (λ a b c d q n i j r s g y. g ⊗ partnerE a b c q n i j r s ≐ y ⊗ (d ⊖ c)
    ⇒ g ⊗ partnerE a b d q n i j r s ≐ (denominatorE i j n r ⊗ g ⊖ y) ⊗ (c ⊖ d) because eqn 0 (num (pos 1))) tt

past : (z y : ℤ) → z <ℤ y → (z -ℤ y) <ℤ pos 0
past = follows 2 (λ z y. z ≺ y ⇒ z ⊖ y ≺ num (pos 0) because over 0) tt

mix_from_c : (c d k l : ℤ) → k *ℤ c +ℤ l *ℤ d ≡ (k +ℤ l) *ℤ c +ℤ l *ℤ (d -ℤ c)
mix_from_c = solve 4 (λ c d k l. k ⊗ c ⊕ l ⊗ d ≐ (k ⊕ l) ⊗ c ⊕ l ⊗ (d ⊖ c)) tt

mix_from_d : (c d k l : ℤ) → k *ℤ c +ℤ l *ℤ d ≡ (k +ℤ l) *ℤ d +ℤ k *ℤ (c -ℤ d)
mix_from_d = solve 4 (λ c d k l. k ⊗ c ⊕ l ⊗ d ≐ (k ⊕ l) ⊗ d ⊕ k ⊗ (c ⊖ d)) tt

-- ---- two mixes, with the weights i and j and with k and l, are as far apart as the ends say
-- the square of the length of a segment
abbrev pub length_of : Pt → Pt → ℤ
length_of c d = (d.x -ℤ c.x) *ℤ (d.x -ℤ c.x) +ℤ (d.y -ℤ c.y) *ℤ (d.y -ℤ c.y)

-- on one axis
abbrev pub way_between : ℤ → ℤ → ℤ → ℤ → ℤ → ℤ → ℤ → ℤ → ℤ
way_between a b c d i j k l = way_from a b (k *ℤ c +ℤ l *ℤ d) (k +ℤ l) i j

abbrev pub IsFarAt : ℤ → Pt → Pt → Pt → Pt → ℤ → ℤ → ℤ → ℤ → Type 0
IsFarAt m a b c d i j k l =
    (m *ℤ (((i +ℤ j) *ℤ (k +ℤ l)) *ℤ ((i +ℤ j) *ℤ (k +ℤ l))))
    ≤ℤ (pos 4 *ℤ (way_between a.x b.x c.x d.x i j k l *ℤ way_between a.x b.x c.x d.x i j k l
    +ℤ way_between a.y b.y c.y d.y i j k l *ℤ way_between a.y b.y c.y d.y i j k l))

-- where the way, times s/r, leads from the line of c and d to a
pub step : (m : ℤ) (a b c d : Pt) (i j k l r s : ℤ) → AreWeights i j → AreWeights k l → pos 0 <ℤ r → pos 0 ≤ℤ s
    → s ≤ℤ r → pos 0 <ℤ length_of c d
    → s *ℤ (i *ℤ whole_turn c d a +ℤ j *ℤ whole_turn c d b) ≡ r *ℤ ((i +ℤ j) *ℤ whole_turn c d a) → IsLow m a c d
    → IsLow m c a b → IsLow m d a b → IsFarAt m a b c d i j k l
step m a b c d i j k l r s w v hr hs hsr hg e low_a low_c low_d =
    go (≤_or_> (pos 0) y) (≤_or_> y (denominator i j n r *ℤ g))
  where
    n : ℤ
    n = k +ℤ l

    g : ℤ
    g = length_of c d

    qx : ℤ
    qx = k *ℤ c.x +ℤ l *ℤ d.x

    qy : ℤ
    qy = k *ℤ c.y +ℤ l *ℤ d.y

    y : ℤ
    y = partner a.x b.x c.x qx n i j r s *ℤ (d.x -ℤ c.x) +ℤ partner a.y b.y c.y qy n i j r s *ℤ (d.y -ℤ c.y)

    line : (d.x -ℤ c.x) *ℤ partner a.y b.y c.y qy n i j r s ≡ (d.y -ℤ c.y) *ℤ partner a.x b.x c.x qx n i j r s
    line = on_line a b c d qx qy n i j l r s (mix_from_c c.x d.x k l) (mix_from_c c.y d.y k l) e

    at_x : g *ℤ partner a.x b.x c.x qx n i j r s ≡ y *ℤ (d.x -ℤ c.x)
    at_x = on_x (d.x -ℤ c.x) (d.y -ℤ c.y) (partner a.x b.x c.x qx n i j r s) (partner a.y b.y c.y qy n i j r s) line

    at_y : g *ℤ partner a.y b.y c.y qy n i j r s ≡ y *ℤ (d.y -ℤ c.y)
    at_y = on_y (d.x -ℤ c.x) (d.y -ℤ c.y) (partner a.x b.x c.x qx n i j r s) (partner a.y b.y c.y qy n i j r s) line

    go : (pos 0 ≤ℤ y) ⊎ (y <ℤ pos 0) → (y ≤ℤ (denominator i j n r *ℤ g)) ⊎ ((denominator i j n r *ℤ g) <ℤ y)
        → IsFarAt m a b c d i j k l
    go (inr before) after =
        at_end m a b c (d.x -ℤ c.x) (d.y -ℤ c.y) qx qy n i j l r s g y w v.some v.second hr hs hsr hg before
        (mix_from_c c.x d.x k l) (mix_from_c c.y d.y k l) at_x at_y low_c
    go (inl from) (inl to) = within m a b c d qx qy n i j r s g y w v.some hr hs hsr hg from to at_x at_y low_a
    go (inl from) (inr after) =
        at_end m a b d (c.x -ℤ d.x) (c.y -ℤ d.y) qx qy n i j k r s g (denominator i j n r *ℤ g -ℤ y) w v.some v.first hr
        hs hsr hg (past (denominator i j n r *ℤ g) y after)
        (mix_from_d c.x d.x k l) (mix_from_d c.y d.y k l)
        (from_end a.x b.x c.x d.x qx n i j r s g y at_x) (from_end a.y b.y c.y d.y qy n i j r s g y at_y) low_d
