-- Where a point of a triangle is: inside, on a side, or at a corner; and points that are inside another triangle, and
-- near it.
use Rattle.std.proofs.Common.{◌≡◌, ◌⊎◌, inl, inr, ℕ, ◌<◌, ℤ, pos, ◌+ℤ◌, ◌*ℤ◌, ◌≤ℤ◌, ◌<ℤ◌, negsuc}
use Rattle.std.proofs.Common.{List, map, sym, ap, ◌∙◌, subst, arith}
use Rattle.std.proofs.lemmas.Int.{ints}
use Rattle.integer_ring.proofs.Ring.{num, ◌⊕◌, ◌⊖◌, ◌⊗◌}
use Rattle.integer_ring.proofs.Order.{nonneg_pos}
use Rattle.integer_ring.proofs.Signs.{≡_of_mul}
use Rattle.integer_ring.proofs.Claims.{◌≐◌, ◌≼◌, ◌≺◌, never, gap, over, eqn, ◌⊞◌, ◌⊠◌, ◌because◌, ◌otherwise◌, ◌⇒◌, follows}
use Rattle.plane_base.specs.Plane.{Point, Same, turn_of, IsMix}
use Rattle.plane_base.proofs.MixLaws.Points.{turn, follows_at, solve_at, three}
use Rattle.plane_base.proofs.MixLaws.Turns.{turn_split, turn_same, turn_cycle, turn_twice}
use Rattle.plane_base.proofs.MixLaws.Along.{of_three}
use Rattle.border_law.specs.Borders.{IsFrom}
use Rattle.border_law.proofs.Rows.{next_from, Net, above, turned, row_of, AreLeft, left_of_mix}
use Rattle.border_law.proofs.Inner.{IsInner, moved, turn_moved}

-- ---- a point of a triangle
pub data Kind (rows : ℕ → List ℕ) (at : ℕ → Point) (t : ℕ) (p : Point) : Type 0 where
  inside : (a b c : ℕ) → IsFrom (rows t) a b c → IsInner p (at a) (at b) (at c) → Kind rows at t p
  on_side : (a b c : ℕ) → IsFrom (rows t) a b c → turn_of (at a) (at b) p ≡ pos 0
      → pos 0 <ℤ turn_of (at b) (at c) p → pos 0 <ℤ turn_of (at c) (at a) p → Kind rows at t p
  at_corner : (a b c : ℕ) → IsFrom (rows t) a b c → Same p (at a) → Kind rows at t p

-- where two turns are 0, the point is the corner
weight_positive : (s t v k w y z : ℤ) → pos 0 <ℤ t → pos 0 <ℤ w → pos 0 <ℤ v
    → w *ℤ t ≡ s *ℤ y +ℤ v *ℤ k +ℤ (z *ℤ pos 0) → y ≡ pos 0 → pos 0 <ℤ k
weight_positive = follows 7 (λ s t v k w y z. num (pos 0) ≺ t ⇒ num (pos 0) ≺ w ⇒ num (pos 0) ≺ v
    ⇒ w ⊗ t ≐ s ⊗ y ⊕ v ⊗ k ⊕ (z ⊗ num (pos 0)) ⇒ y ≐ num (pos 0) ⇒ num (pos 0) ≺ k
    otherwise gap 1 ⊠ over 0 ⊞ over 1 ⊞ gap 2 ⊠ gap 5 ⊞ eqn 3 (num (pos 1)) ⊞ eqn 4 s) tt

same_x : (a b c p : Point) → turn_of c a p ≡ pos 0 → turn_of a b p ≡ pos 0
    → p.x *ℤ a.w *ℤ turn_of b c p ≡ a.x *ℤ p.w *ℤ turn_of b c p
same_x = follows_at 4 0 (λ a b c p. turn c a p ≐ num (pos 0) ⇒ turn a b p ≐ num (pos 0)
    ⇒ p.x ⊗ a.w ⊗ turn b c p ≐ a.x ⊗ p.w ⊗ turn b c p
    because eqn 0 (b.x ⊗ p.w ⊖ p.x ⊗ b.w) ⊞ eqn 1 (c.x ⊗ p.w ⊖ p.x ⊗ c.w)) tt

same_y : (a b c p : Point) → turn_of c a p ≡ pos 0 → turn_of a b p ≡ pos 0
    → p.y *ℤ a.w *ℤ turn_of b c p ≡ a.y *ℤ p.w *ℤ turn_of b c p
same_y = follows_at 4 0 (λ a b c p. turn c a p ≐ num (pos 0) ⇒ turn a b p ≐ num (pos 0)
    ⇒ p.y ⊗ a.w ⊗ turn b c p ≐ a.y ⊗ p.w ⊗ turn b c p
    because eqn 0 (b.y ⊗ p.w ⊖ p.y ⊗ b.w) ⊞ eqn 1 (c.y ⊗ p.w ⊖ p.y ⊗ c.w)) tt

the_corner : (a b c p : Point) → pos 0 <ℤ a.w → pos 0 <ℤ p.w → pos 0 <ℤ turn_of a b c → turn_of c a p ≡ pos 0
    → turn_of a b p ≡ pos 0 → Same p a
the_corner a b c p ha hp d ca ab = (
  ≡_of_mul (p.x *ℤ a.w) (a.x *ℤ p.w) (turn_of b c p) k (same_x a b c p ca ab),
  ≡_of_mul (p.y *ℤ a.w) (a.y *ℤ p.w) (turn_of b c p) k (same_y a b c p ca ab),
)
  where
    k : pos 0 <ℤ turn_of b c p
    k = weight_positive c.w (turn_of a b c) a.w (turn_of b c p) p.w (turn_of a b p) b.w d hp ha
        (grind (arith, turn_split)) ab

zero_or : (z : ℤ) → pos 0 ≤ℤ z → (z ≡ pos 0) ⊎ (pos 0 <ℤ z)
zero_or z h = grind (arith, ints)

pub kind_of : {rows : ℕ → List ℕ} {at : ℕ → Point} {n : ℕ} → Net rows at n → (t : ℕ) → t < n → (p : Point)
    → pos 0 <ℤ p.w → IsMix p (map at (rows t)) → Kind rows at t p
kind_of {rows} {at} {n} net t ht p hp m =
    let r = row_of at (rows t) (net.positive t ht) in
    let left = left_of_mix net t r.i r.j r.k ht r.is p hp m in
    go r.i r.j r.k r.is (zero_or (turn_of (at r.i) (at r.j) p) left.0) (zero_or (turn_of (at r.j) (at r.k) p) left.1)
    (zero_or (turn_of (at r.k) (at r.i) p) left.2)
  where
    corner : (a b c : ℕ) → IsFrom (rows t) a b c → turn_of (at c) (at a) p ≡ pos 0 → turn_of (at a) (at b) p ≡ pos 0
        → Kind rows at t p
    corner a b c from ca ab = at_corner a b c from
        (the_corner (at a) (at b) (at c) p (above at net.one a) hp (turned net t a b c ht from) ca ab)

    go : (i j k : ℕ) → IsFrom (rows t) i j k → (turn_of (at i) (at j) p ≡ pos 0) ⊎ (pos 0 <ℤ turn_of (at i) (at j) p)
        → (turn_of (at j) (at k) p ≡ pos 0) ⊎ (pos 0 <ℤ turn_of (at j) (at k) p)
        → (turn_of (at k) (at i) p ≡ pos 0) ⊎ (pos 0 <ℤ turn_of (at k) (at i) p) → Kind rows at t p
    go i j k from (inr x) (inr y) (inr z) = inside i j k from (record { first = x; second = y; third = z })
    go i j k from (inl x) (inr y) (inr z) = on_side i j k from x y z
    go i j k from (inr x) (inl y) (inr z) = on_side j k i (next_from (rows t) i j k from) y z x
    go i j k from (inr x) (inr y) (inl z) =
        on_side k i j (next_from (rows t) j k i (next_from (rows t) i j k from)) z x y
    go i j k from (inl x) y (inl z) = corner i j k from z x
    go i j k from (inl x) (inl y) z = corner j k i (next_from (rows t) i j k from) x y
    go i j k from x (inl y) (inl z) =
        corner k i j (next_from (rows t) j k i (next_from (rows t) i j k from)) y z

-- two corners of a triangle are not in one place
no_turn : (z v s : ℤ) → pos 0 <ℤ v → v *ℤ z ≡ s *ℤ pos 0 → z ≡ pos 0
no_turn z v s h e = ≡_of_mul z (pos 0) v h (swap z v s e)
  where
    swap : (z v s : ℤ) → v *ℤ z ≡ s *ℤ pos 0 → z *ℤ v ≡ pos 0 *ℤ v
    swap = follows 3 (λ z v s. v ⊗ z ≐ s ⊗ num (pos 0) ⇒ z ⊗ v ≐ num (pos 0) ⊗ v because eqn 0 (num (pos 1))) tt

clash : (z d w s : ℤ) → pos 0 <ℤ s → pos 0 <ℤ d → z ≡ pos 0 → w *ℤ z ≡ s *ℤ d → ⊥
clash = follows 4 (λ z d w s. num (pos 0) ≺ s ⇒ num (pos 0) ≺ d ⇒ z ≐ num (pos 0) ⇒ w ⊗ z ≐ s ⊗ d ⇒ never
    because over 0 ⊠ gap 1 ⊞ over 1 ⊞ eqn 3 (num (negsuc 0)) ⊞ eqn 2 w) tt

pub apart_corners : (a b c p : Point) → pos 0 <ℤ a.w → pos 0 <ℤ p.w → pos 0 <ℤ turn_of a b c → Same p a → Same p b → ⊥
apart_corners a b c p ha hp d at_a at_b =
    clash (turn_of c a p) (turn_of a b c) b.w p.w hp d
    (no_turn (turn_of c a p) a.w p.w ha
    (turn_same c a p a at_a ∙ ap (λ (z : ℤ). p.w *ℤ z) (turn_cycle c a a ∙ turn_twice a c)))
    (turn_same c a p b at_b ∙ ap (λ (z : ℤ). p.w *ℤ z) (turn_cycle c a b))

-- ---- points inside a triangle
turn_middle : (a b c p q : Point) (i j k : ℤ) → turn_of p q (of_three i j k a b c)
    ≡ i *ℤ turn_of p q a +ℤ j *ℤ turn_of p q b +ℤ k *ℤ turn_of p q c
turn_middle = solve_at 5 3 (λ a b c p q i j k. turn p q (three i j k a b c) ≐ i ⊗ turn p q a ⊕ j ⊗ turn p q b ⊕ k ⊗ turn p q c) tt

pub three_sum : (i j k x y z : ℤ) → pos 0 <ℤ i → pos 0 <ℤ j → pos 0 <ℤ k → pos 0 <ℤ x → pos 0 <ℤ y → pos 0 <ℤ z
    → pos 0 <ℤ (i *ℤ x +ℤ (j *ℤ y +ℤ (k *ℤ z +ℤ pos 0)))
three_sum = follows 6 (λ i j k x y z. num (pos 0) ≺ i ⇒ num (pos 0) ≺ j ⇒ num (pos 0) ≺ k ⇒ num (pos 0) ≺ x
    ⇒ num (pos 0) ≺ y ⇒ num (pos 0) ≺ z ⇒ num (pos 0) ≺ i ⊗ x ⊕ (j ⊗ y ⊕ (k ⊗ z ⊕ num (pos 0)))
    because over 0 ⊠ gap 3 ⊞ over 3 ⊞ gap 1 ⊠ gap 4 ⊞ gap 2 ⊠ gap 5) tt

pub one_side : (a b c : Point) (i j k : ℤ) → pos 0 <ℤ turn_of a b c → pos 0 <ℤ k
    → pos 0 <ℤ turn_of a b (of_three i j k a b c)
one_side = follows_at 3 3 (λ a b c i j k. num (pos 0) ≺ turn a b c ⇒ num (pos 0) ≺ k ⇒ num (pos 0) ≺ turn a b
    (three i j k a b c) because over 0 ⊠ gap 1 ⊞ over 1) tt

pub second_side : (a b c : Point) (i j k : ℤ) → pos 0 <ℤ turn_of a b c → pos 0 <ℤ i
    → pos 0 <ℤ turn_of b c (of_three i j k a b c)
second_side = follows_at 3 3 (λ a b c i j k. num (pos 0) ≺ turn a b c ⇒ num (pos 0) ≺ i
    ⇒ num (pos 0) ≺ turn b c (three i j k a b c) because over 0 ⊠ gap 1 ⊞ over 1) tt

pub third_side : (a b c : Point) (i j k : ℤ) → pos 0 <ℤ turn_of a b c → pos 0 <ℤ j
    → pos 0 <ℤ turn_of c a (of_three i j k a b c)
third_side = follows_at 3 3 (λ a b c i j k. num (pos 0) ≺ turn a b c ⇒ num (pos 0) ≺ j
    ⇒ num (pos 0) ≺ turn c a (three i j k a b c) because over 0 ⊠ gap 1 ⊞ over 1) tt

-- a point inside the triangle a, b, c, whose turn with another side may be asked for
pub record Middle (a b c : Point) : Type 0 where
  pub point : Point
  pub w : pos 0 <ℤ point.w
  pub inner : IsInner point a b c

abbrev pub middle : (a b c : Point) (i j k : ℤ) → pos 0 <ℤ a.w → pos 0 <ℤ b.w → pos 0 <ℤ c.w → pos 0 <ℤ turn_of a b c
    → pos 0 <ℤ i → pos 0 <ℤ j → pos 0 <ℤ k → Middle a b c
middle a b c i j k ha hb hc d hi hj hk = record {
  point = of_three i j k a b c;
  w = three_sum i j k a.w b.w c.w hi hj hk ha hb hc;
  inner = record {
    first = one_side a b c i j k d hk;
    second = second_side a b c i j k d hi;
    third = third_side a b c i j k d hj;
  };
}

-- n·p + q is on the side of q, where p is not on the other one
pub kept_left : (a b p q : Point) (n : ℕ) → pos 0 ≤ℤ turn_of a b p → pos 0 <ℤ turn_of a b q
    → pos 0 <ℤ turn_of a b (moved n p q)
kept_left a b p q n h k = subst (λ (z : ℤ). pos 0 <ℤ z) (turn_moved a b p q n)
    (law (pos n) (turn_of a b p) (turn_of a b q) (nonneg_pos n) h k)
  where
    law : (n s t : ℤ) → pos 0 ≤ℤ n → pos 0 ≤ℤ s → pos 0 <ℤ t → pos 0 <ℤ (n *ℤ s +ℤ t)
    law = follows 3 (λ n s t. num (pos 0) ≼ n ⇒ num (pos 0) ≼ s ⇒ num (pos 0) ≺ t ⇒ num (pos 0) ≺ n ⊗ s ⊕ t
        because gap 0 ⊠ gap 1 ⊞ over 2) tt

pub moved-w : (n : ℕ) (p q : Point) → pos 0 <ℤ p.w → pos 0 <ℤ q.w → pos 0 <ℤ (moved n p q).w
moved-w n p q h k = law (pos n) p.w q.w (nonneg_pos n) h k
  where
    law : (n s t : ℤ) → pos 0 ≤ℤ n → pos 0 <ℤ s → pos 0 <ℤ t → pos 0 <ℤ (n *ℤ s +ℤ t)
    law = follows 3 (λ n s t. num (pos 0) ≼ n ⇒ num (pos 0) ≺ s ⇒ num (pos 0) ≺ t ⇒ num (pos 0) ≺ n ⊗ s ⊕ t
        because gap 0 ⊠ gap 1 ⊞ over 2) tt

-- from a point of the triangle into it
pub into : {a b c : Point} (p : Point) (m : Middle a b c) → AreLeft p a b c → (n : ℕ) → IsInner (moved n p m.point) a b c
into {a} {b} {c} p m left n = grind (arith, kept_left)

-- ---- a point inside a triangle off the line of a side
-- three corners on one line are no triangle
on_one_line : (a b c d e f : Point) → pos 0 <ℤ turn_of a b c → pos 0 <ℤ turn_of d e f → turn_of a b d ≡ pos 0
    → turn_of a b e ≡ pos 0 → turn_of a b f ≡ pos 0 → ⊥
on_one_line = follows_at 6 0 (λ a b c d e f. num (pos 0) ≺ turn a b c ⇒ num (pos 0) ≺ turn d e f
    ⇒ turn a b d ≐ num (pos 0) ⇒ turn a b e ≐ num (pos 0) ⇒ turn a b f ≐ num (pos 0) ⇒ never
    because over 0 ⊠ gap 1 ⊞ over 1 ⊞ eqn 2 (turn e f c) ⊞ eqn 3 (turn f d c) ⊞ eqn 4 (turn d e c)) tt

-- it is to the left of the line from a to b, or to its right
pub record Beside (a b d e f : Point) : Type 0 where
  pub middle : Middle d e f
  pub side : (pos 0 <ℤ turn_of a b middle.point) ⊎ (turn_of a b middle.point <ℤ pos 0)

zero_side : (z : ℤ) → (z ≡ pos 0) ⊎ ((pos 0 <ℤ z) ⊎ (z <ℤ pos 0))
zero_side z = grind (arith, ints)

pub beside : (a b c d e f : Point) → pos 0 <ℤ d.w → pos 0 <ℤ e.w → pos 0 <ℤ f.w → pos 0 <ℤ turn_of a b c
    → pos 0 <ℤ turn_of d e f → Beside a b d e f
beside a b c d e f hd he hf turns other = go (zero_side (turn_of a b (of_three (pos 1) (pos 1) (pos 1) d e f)))
    (zero_side (turn_of a b (of_three (pos 2) (pos 1) (pos 1) d e f)))
    (zero_side (turn_of a b (of_three (pos 1) (pos 2) (pos 1) d e f)))
  where
    some : (i : ℕ) → 0 < i → pos 0 <ℤ pos i
    some i h = omega (arith, ints)

    first : Middle d e f
    first = middle d e f (pos 1) (pos 1) (pos 1) hd he hf other (some 1 (omega arith)) (some 1 (omega arith))
        (some 1 (omega arith))

    second : Middle d e f
    second = middle d e f (pos 2) (pos 1) (pos 1) hd he hf other (some 2 (omega arith)) (some 1 (omega arith))
        (some 1 (omega arith))

    third : Middle d e f
    third = middle d e f (pos 1) (pos 2) (pos 1) hd he hf other (some 1 (omega arith)) (some 2 (omega arith))
        (some 1 (omega arith))

    all_zero : (x y z : ℤ) → pos 1 *ℤ x +ℤ pos 1 *ℤ y +ℤ pos 1 *ℤ z ≡ pos 0
        → pos 2 *ℤ x +ℤ pos 1 *ℤ y +ℤ pos 1 *ℤ z ≡ pos 0 → pos 1 *ℤ x +ℤ pos 2 *ℤ y +ℤ pos 1 *ℤ z ≡ pos 0
        → (x ≡ pos 0) × (y ≡ pos 0) × (z ≡ pos 0)
    all_zero x y z e f g = (omega (arith, ints), omega (arith, ints), omega (arith, ints))

    go : (turn_of a b (of_three (pos 1) (pos 1) (pos 1) d e f) ≡ pos 0)
        ⊎ ((pos 0 <ℤ turn_of a b (of_three (pos 1) (pos 1) (pos 1) d e f))
        ⊎ (turn_of a b (of_three (pos 1) (pos 1) (pos 1) d e f) <ℤ pos 0))
        → (turn_of a b (of_three (pos 2) (pos 1) (pos 1) d e f) ≡ pos 0)
        ⊎ ((pos 0 <ℤ turn_of a b (of_three (pos 2) (pos 1) (pos 1) d e f))
        ⊎ (turn_of a b (of_three (pos 2) (pos 1) (pos 1) d e f) <ℤ pos 0))
        → (turn_of a b (of_three (pos 1) (pos 2) (pos 1) d e f) ≡ pos 0)
        ⊎ ((pos 0 <ℤ turn_of a b (of_three (pos 1) (pos 2) (pos 1) d e f))
        ⊎ (turn_of a b (of_three (pos 1) (pos 2) (pos 1) d e f) <ℤ pos 0)) → Beside a b d e f
    go (inr s) y z = record { middle = first; side = s }
    go (inl x) (inr s) z = record { middle = second; side = s }
    go (inl x) (inl y) (inr s) = record { middle = third; side = s }
    go (inl x) (inl y) (inl z) =
        let none = all_zero (turn_of a b d) (turn_of a b e) (turn_of a b f)
        (sym (turn_middle d e f a b (pos 1) (pos 1) (pos 1)) ∙ x)
        (sym (turn_middle d e f a b (pos 2) (pos 1) (pos 1)) ∙ y)
        (sym (turn_middle d e f a b (pos 1) (pos 2) (pos 1)) ∙ z) in
        absurd (on_one_line a b c d e f turns other none.0 none.1 none.2)
