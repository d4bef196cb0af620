-- Two corners of a bordered triangulation in one place: round the one of them without a border side, some triangle has
-- each direction, and so an inner point of each triangle at the other.
use Rattle.std.proofs.Common.{◌≡◌, ◌≢◌, ◌⊎◌, inl, inr, ℕ, ◌<◌, ◌≤◌, ℤ, pos, ◌+ℤ◌, ◌*ℤ◌, ◌≤ℤ◌, ◌<ℤ◌, neg_ℤ, negsuc}
use Rattle.std.proofs.Common.{List, [], ◌∷◌, map, refl, sym, ◌∙◌, subst, arith, true}
use Rattle.std.proofs.lemmas.Int.{ints}
use Rattle.integer_ring.proofs.Ring.{num, neg, ◌⊕◌, ◌⊗◌}
use Rattle.integer_ring.proofs.Order.{≤_of_<, ≤_or_>}
use Rattle.integer_ring.proofs.Signs.{≡_of_mul}
use Rattle.integer_ring.proofs.Claims.{◌≐◌, ◌≼◌, ◌≺◌, never, gap, over, eqn, ◌⊞◌, ◌⊠◌, ◌because◌, ◌otherwise◌, ◌⇒◌, follows}
use Rattle.plane_base.specs.Plane.{Point, Same, turn_of, IsMix}
use Rattle.plane_base.proofs.MixLaws.Points.{PointE, turn, follows_at, solve_at}
use Rattle.plane_base.proofs.MixLaws.Turns.{turn_swap, turn_cycle, turn_twice}
use Rattle.tin_base.specs.Soundness.{has, common}
use Rattle.tin_base.proofs.FrameImages.Weights.{common_in_first, common_in_second}
use Rattle.border_law.specs.Borders.{IsFrom}
use Rattle.border_law.proofs.Signs.{nonneg_zero, not_zero, not_opposite}
use Rattle.border_law.proofs.Rows.{next_from, shifted, AreShifted, Net, MeetsAt, Partner, partner_or, above, turned}
use Rattle.border_law.proofs.Descent.{Next, ends}
use Rattle.border_law.proofs.Spots.{one_place}
use Rattle.border_law.proofs.Inner.{IsInner, moved, near, both, Large, not_both_inner}
use Rattle.border_law.proofs.PointKinds.{apart_corners, kept_left, moved-w}
use Rattle.border_law.proofs.Members.{one_from, one_of_two, has_all}

-- ---- two points as one: p + q
abbrev pub sum_of : Point → Point → Point
sum_of p q = record { x = p.x +ℤ q.x; y = p.y +ℤ q.y; w = p.w +ℤ q.w }

abbrev plus : PointE → PointE → PointE
plus p q = record { x = p.x ⊕ q.x; y = p.y ⊕ q.y; w = p.w ⊕ q.w }

-- between two directions from o there is a third
turn_first : (o e f : Point) → turn_of o e f ≡ turn_of o e (sum_of e f)
turn_first = solve_at 3 0 (λ o e f. turn o e f ≐ turn o e (plus e f)) tt

turn_last : (o e f : Point) → turn_of o e f ≡ turn_of f o (sum_of e f)
turn_last = solve_at 3 0 (λ o e f. turn o e f ≐ turn f o (plus e f)) tt

turn_self : (a b : Point) → turn_of a b a ≡ pos 0
turn_self = solve_at 2 0 (λ a b. turn a b a ≐ num (pos 0)) tt

turn_end : (a b : Point) → turn_of a b b ≡ pos 0
turn_end = solve_at 2 0 (λ a b. turn a b b ≐ num (pos 0)) tt

positive : (y z : ℤ) → y ≡ z → pos 0 <ℤ y → pos 0 <ℤ z
positive y z e h = subst (λ (k : ℤ). pos 0 <ℤ k) e h

nonneg_opposite : (y z : ℤ) → y ≡ neg_ℤ z → z ≤ℤ pos 0 → pos 0 ≤ℤ y
nonneg_opposite y z e h = omega (arith, ints)

-- ---- two angles at one corner with a common direction have a common inner point
record Common (o x y e f : Point) : Type 0 where
  point : Point
  w : pos 0 <ℤ point.w
  first : IsInner point o x y
  second : IsInner point o e f

wedge : (o x y e f : Point) → pos 0 <ℤ o.w → pos 0 <ℤ x.w → pos 0 <ℤ y.w → pos 0 <ℤ e.w → pos 0 <ℤ f.w
    → pos 0 <ℤ turn_of o x y → pos 0 <ℤ turn_of o e f → pos 0 <ℤ turn_of o x (sum_of e f)
    → turn_of o y (sum_of e f) ≤ℤ pos 0 → Common o x y e f
wedge o x y e f ho hx hy he hf t u begins ends = record {
  point = p;
  w = moved-w many o r ho rw;
  first = record {
    first = kept_left o x o r many (nonneg_zero (turn_of o x o) (turn_self o x))
        (kept_left o x d q few (≤_of_< (pos 0) (turn_of o x d) begins)
        (positive (turn_of o x y) (turn_of o x q) (turn_first o x y) t));
    second = there.0;
    third = kept_left y o o r many (nonneg_zero (turn_of y o o) (turn_end y o))
        (kept_left y o d q few
        (nonneg_opposite (turn_of y o d) (turn_of o y d) (turn_swap y o d) ends)
        (positive (turn_of o x y) (turn_of y o q) (turn_last o x y) t));
  };
  second = record {
    first = kept_left o e o r many (nonneg_zero (turn_of o e o) (turn_self o e)) here.0;
    second = there.1;
    third = kept_left f o o r many (nonneg_zero (turn_of f o o) (turn_end f o)) here.1;
  };
}
  where
    add : (v w : ℤ) → pos 0 <ℤ v → pos 0 <ℤ w → pos 0 <ℤ (v +ℤ w)
    add v w h k = omega (arith, ints)

    same : (m : ℕ) → m ≤ m
    same m = omega arith

    d : Point
    d = sum_of e f

    q : Point
    q = sum_of x y

    close : Large (λ n. (pos 0 <ℤ turn_of o e (moved n d q)) × (pos 0 <ℤ turn_of f o (moved n d q)))
    close = both (near o e d q (positive (turn_of o e f) (turn_of o e d) (turn_first o e f) u))
        (near f o d q (positive (turn_of o e f) (turn_of f o d) (turn_last o e f) u))

    few : ℕ
    few = close.0

    r : Point
    r = moved few d q

    here : (pos 0 <ℤ turn_of o e (moved few d q)) × (pos 0 <ℤ turn_of f o (moved few d q))
    here = close.1 few (same few)

    rw : pos 0 <ℤ r.w
    rw = moved-w few d q (add e.w f.w he hf) (add x.w y.w hx hy)

    closer : Large (λ n. (pos 0 <ℤ turn_of x y (moved n o r)) × (pos 0 <ℤ turn_of e f (moved n o r)))
    closer = both (near x y o r (positive (turn_of o x y) (turn_of x y o) (turn_cycle o x y) t))
        (near e f o r (positive (turn_of o e f) (turn_of e f o) (turn_cycle o e f) u))

    many : ℕ
    many = closer.0

    p : Point
    p = moved many o r

    there : (pos 0 <ℤ turn_of x y (moved many o r)) × (pos 0 <ℤ turn_of e f (moved many o r))
    there = closer.1 many (same many)

-- ---- round a corner w, whose place has another corner v
-- a triangle u has v; p is the place of both
record Meets (rows : ℕ → List ℕ) (at : ℕ → Point) (n w u v e f : ℕ) (p : Point) : Type 0 where
  positive : pos 0 <ℤ p.w
  at_w : Same p (at w)
  at_v : Same p (at v)
  differ : w ≢ v
  below : u < n
  from : IsFrom (rows u) v e f
  inside : IsMix p (map at (rows u))

-- the triangle u does not have w
lacks : {rows : ℕ → List ℕ} {at : ℕ → Point} {n w u v e f : ℕ} {p : Point} → Net rows at n
    → Meets rows at n w u v e f p → (e ≡ w) ⊎ (f ≡ w) → ⊥
lacks {rows} {at} {n} {w} {u} {v} {e} {f} {p} net m (inl same) =
    apart_corners (at v) (at e) (at f) p (above at net.one v) m.positive (turned net u v e f m.below m.from) m.at_v
    (subst (λ (k : ℕ). Same p (at k)) (sym same) m.at_w)
lacks {rows} {at} {n} {w} {u} {v} {e} {f} {p} net m (inr same) =
    apart_corners (at f) (at v) (at e) p (above at net.one f) m.positive
    (turned net u f v e m.below (next_from (rows u) e f v (next_from (rows u) v e f m.from)))
    (subst (λ (k : ℕ). Same p (at k)) (sym same) m.at_w) m.at_v

-- so it is no triangle that has w
other_triangle : {rows : ℕ → List ℕ} {at : ℕ → Point} {n w u v e f : ℕ} {p : Point} → Net rows at n
    → Meets rows at n w u v e f p → (t x y : ℕ) → IsFrom (rows t) w x y → t ≢ u
other_triangle {rows} {at} {n} {w} {u} {v} {e} {f} {p} net m t x y from same =
    go (shifted (rows u) v e f w x y m.from (subst (λ (k : ℕ). IsFrom (rows k) w x y) same from))
  where
    go : AreShifted v e f w x y → ⊥
    go (inl s) = m.differ s.0
    go (inr (inl s)) = lacks net m (inl (sym s.0))
    go (inr (inr s)) = lacks net m (inr (sym s.0))

-- a side that ends at w is no border side
pub second_mix : (p a b : Point) → Same p b → IsMix p (a ∷ b ∷ [])
second_mix p a b s = (
  0 ∷ 1 ∷ [],
  refl,
  omega arith,
  (
    law p.x p.w a.x b.x a.w b.w s.0,
    law p.y p.w a.y b.y a.w b.w s.1,
  ),
)
  where
    law : (x v a b s t : ℤ) → x *ℤ t ≡ b *ℤ v
        → x *ℤ (pos 0 *ℤ s +ℤ (pos 1 *ℤ t +ℤ pos 0)) ≡ (pos 0 *ℤ a +ℤ (pos 1 *ℤ b +ℤ pos 0)) *ℤ v
    law = follows 6 (λ x v a b s t. x ⊗ t ≐ b ⊗ v
        ⇒ x ⊗ (num (pos 0) ⊗ s ⊕ (num (pos 1) ⊗ t ⊕ num (pos 0)))
        ≐ (num (pos 0) ⊗ a ⊕ (num (pos 1) ⊗ b ⊕ num (pos 0))) ⊗ v because eqn 0 (num (pos 1))) tt

not_border : {rows : ℕ → List ℕ} {at : ℕ → Point} {n w u v e f : ℕ} {p : Point} → Net rows at n
    → Meets rows at n w u v e f p → (t x y : ℕ) → t < n → IsFrom (rows t) w x y
    → ((b : ℕ) → t ≢ b → b < n → MeetsAt rows at y w b) → ⊥
not_border {rows} {at} {n} {w} {u} {v} {e} {f} {p} net m t x y ht from border =
    let met = border u (other_triangle net m t x y from) m.below in
    go (one_place at (common (y ∷ w ∷ []) (rows u)) p met.0
    (met.1 p m.positive (second_mix p (at y) (at w) m.at_w) m.inside))
  where
    back : IsFrom (rows t) y w x
    back = next_from (rows t) x y w (next_from (rows t) w x y from)

    go : (k : ℕ) × (has (common (y ∷ w ∷ []) (rows u)) k ≡ true) × Same p (at k) → ⊥
    go (k, is, same) =
        let of_side = one_of_two y w k (grind (arith, has_all, common_in_first)) in
        let of_u = one_from (rows u) v e f k m.from (has_all (rows u) (common (y ∷ w ∷ []) (rows u)) k
        (common_in_second (y ∷ w ∷ []) (rows u)) is) in
        by_end of_side of_u
      where
        by_end : (y ≡ k) ⊎ (w ≡ k) → (v ≡ k) ⊎ ((e ≡ k) ⊎ (f ≡ k)) → ⊥
        by_end (inl at_y) of_u = apart_corners (at y) (at w) (at x) p (above at net.one y) m.positive
            (turned net t y w x ht back) (subst (λ (j : ℕ). Same p (at j)) (sym at_y) same) m.at_w
        by_end (inr at_w) (inl s) = m.differ (at_w ∙ sym s)
        by_end (inr at_w) (inr (inl s)) = lacks net m (inl (s ∙ sym at_w))
        by_end (inr at_w) (inr (inr s)) = lacks net m (inr (s ∙ sym at_w))

-- ---- from one triangle at w to the next, towards a direction
-- a triangle at w, by its sides from w
record Spoke : Type 0 where
  number : ℕ
  x : ℕ
  y : ℕ

-- the direction d is ahead of its first side, by less than half a turn
record IsBehind (rows : ℕ → List ℕ) (at : ℕ → Point) (n w : ℕ) (d : Point) (s : Spoke) : Type 0 where
  below : s.number < n
  from : IsFrom (rows s.number) w s.x s.y
  ahead : pos 0 <ℤ turn_of (at w) (at s.x) d

-- triangle t has w, and its first side is between that of s and the direction
record IsBetween (rows : ℕ → List ℕ) (at : ℕ → Point) (w : ℕ) (d : Point) (s : Spoke) (t : ℕ) : Type 0 where
  x : ℕ
  y : ℕ
  from : IsFrom (rows t) w x y
  ahead : pos 0 <ℤ turn_of (at w) (at x) d
  after : pos 0 ≤ℤ turn_of (at w) (at s.x) (at x)

-- a triangle at w that has the direction
record HasDirection (rows : ℕ → List ℕ) (at : ℕ → Point) (n w : ℕ) (d : Point) : Type 0 where
  number : ℕ
  x : ℕ
  y : ℕ
  below : number < n
  from : IsFrom (rows number) w x y
  first : pos 0 <ℤ turn_of (at w) (at x) d
  second : turn_of (at w) (at y) d ≤ℤ pos 0

still_after : (o x y z d : Point) → pos 0 <ℤ turn_of o x d → pos 0 <ℤ turn_of o y d → pos 0 <ℤ turn_of o z d
    → pos 0 <ℤ turn_of o x y → pos 0 ≤ℤ turn_of o y z → pos 0 ≤ℤ turn_of o x z
still_after = follows_at 5 0 (λ o x y z d. num (pos 0) ≺ turn o x d ⇒ num (pos 0) ≺ turn o y d
    ⇒ num (pos 0) ≺ turn o z d ⇒ num (pos 0) ≺ turn o x y ⇒ num (pos 0) ≼ turn o y z ⇒ num (pos 0) ≼ turn o x z
    otherwise gap 1 ⊠ over 5 ⊞ over 1 ⊞ gap 3 ⊠ gap 2 ⊞ gap 4 ⊠ gap 0) tt

next_spoke : {rows : ℕ → List ℕ} {at : ℕ → Point} {n w u v e f : ℕ} {p : Point} → Net rows at n
    → Meets rows at n w u v e f p → (d : Point) (s : Spoke) → IsBehind rows at n w d s
    → HasDirection rows at n w d ⊎ Next Spoke (IsBehind rows at n w d) (IsBetween rows at w d) n s
next_spoke {rows} {at} {n} {w} {u} {v} {e} {f} {p} net m d s is = go (≤_or_> (turn_of (at w) (at s.y) d) (pos 0))
    (partner_or net s.number s.y w is.below (s.x, back_side))
  where
    back_side : IsFrom (rows s.number) s.y w s.x
    back_side = next_from (rows s.number) s.x s.y w (next_from (rows s.number) w s.x s.y is.from)

    turns : pos 0 <ℤ turn_of (at w) (at s.x) (at s.y)
    turns = turned net s.number w s.x s.y is.below is.from

    free : (q : Partner rows net.mate n s.number s.y w) → pos 0 <ℤ turn_of (at w) (at s.y) d
        → IsBetween rows at w d (record { number = q.number; x = s.y; y = q.third }) s.number → ⊥
    free q ahead b = by_shift (shifted (rows s.number) w s.x s.y w b.x b.y is.from b.from)
      where
        by_shift : AreShifted w s.x s.y w b.x b.y → ⊥
        by_shift (inl same) = not_opposite (turn_of (at w) (at s.x) (at s.y)) (turn_of (at w) (at s.y) (at s.x))
            (opposite (at w) (at s.x) (at s.y)) turns
            (subst (λ (k : ℕ). pos 0 ≤ℤ turn_of (at w) (at s.y) (at k)) same.1 b.after)
          where
            opposite : (o x y : Point) → turn_of o x y ≡ neg_ℤ (turn_of o y x)
            opposite = solve_at 3 0 (λ o x y. turn o x y ≐ neg (turn o y x)) tt
        by_shift (inr (inl same)) = grind (arith, not_zero, turns, turn_twice)
        by_shift (inr (inr same)) = grind (arith, not_zero, turns, turn_self)

    go : (turn_of (at w) (at s.y) d ≤ℤ pos 0) ⊎ (pos 0 <ℤ turn_of (at w) (at s.y) d)
        → Partner rows net.mate n s.number s.y w ⊎ ((b : ℕ) → s.number ≢ b → b < n → MeetsAt rows at s.y w b)
        → HasDirection rows at n w d ⊎ Next Spoke (IsBehind rows at n w d) (IsBetween rows at w d) n s
    go (inl there) q = inl (grind arith)
    go (inr ahead) (inr none) = absurd (not_border net m s.number s.x s.y is.below is.from none)
    go (inr ahead) (inl q) = inr (record {
      state = record { number = q.number; x = s.y; y = q.third };
      is = record { below = q.below; from = q.from; ahead = ahead };
      number = s.number;
      below = is.below;
      used = record {
        x = s.x;
        y = s.y;
        from = is.from;
        ahead = is.ahead;
        after = nonneg_zero (turn_of (at w) (at s.x) (at s.x)) (turn_end (at w) (at s.x));
      };
      free = free q ahead;
      less = λ t b. record {
        x = b.x;
        y = b.y;
        from = b.from;
        ahead = b.ahead;
        after = still_after (at w) (at s.x) (at s.y) (at b.x) d is.ahead ahead b.ahead turns b.after;
      };
    })

-- some triangle at w has the direction, where it is ahead of some side from w
has_direction : {rows : ℕ → List ℕ} {at : ℕ → Point} {n w u v e f : ℕ} {p : Point} → Net rows at n
    → Meets rows at n w u v e f p → (d : Point) (s : Spoke) → IsBehind rows at n w d s → HasDirection rows at n w d
has_direction {rows} {at} {n} {w} net m d s is =
    ends Spoke (IsBehind rows at n w d) (IsBetween rows at w d) n (HasDirection rows at n w d) (next_spoke net m d) s is

-- the same place, written as one point
one_point : (p q : Point) → p.x ≡ q.x → p.y ≡ q.y → p.w ≡ q.w → p ≡ q
one_point p q ex ey ew = grind arith

one_spot : {rows : ℕ → List ℕ} {at : ℕ → Point} {n : ℕ} → Net rows at n → (p : Point) (v w : ℕ) → pos 0 <ℤ p.w
    → Same p (at v) → Same p (at w) → at v ≡ at w
one_spot {rows} {at} net p v w hp sv sw = one_point (at v) (at w)
    (law p.x p.w (at v).x (at v).w (at w).x (at w).w hp (net.one v) (net.one w) sv.0 sw.0)
    (law p.y p.w (at v).y (at v).w (at w).y (at w).w hp (net.one v) (net.one w) sv.1 sw.1)
    (net.one v ∙ sym (net.one w))
  where
    times : (x k a s b t : ℤ) → s ≡ pos 1 → t ≡ pos 1 → x *ℤ s ≡ a *ℤ k → x *ℤ t ≡ b *ℤ k → a *ℤ k ≡ b *ℤ k
    times = follows 6 (λ x k a s b t. s ≐ num (pos 1) ⇒ t ≐ num (pos 1) ⇒ x ⊗ s ≐ a ⊗ k ⇒ x ⊗ t ≐ b ⊗ k
        ⇒ a ⊗ k ≐ b ⊗ k because eqn 3 (num (pos 1)) ⊞ eqn 2 (num (negsuc 0)) ⊞ eqn 0 x ⊞ eqn 1 (neg x)) tt

    law : (x k a s b t : ℤ) → pos 0 <ℤ k → s ≡ pos 1 → t ≡ pos 1 → x *ℤ s ≡ a *ℤ k → x *ℤ t ≡ b *ℤ k → a ≡ b
    law x k a s b t h hs ht e f = ≡_of_mul a b k h (times x k a s b t hs ht e f)

-- so the directions of u are ahead of no side from w of a triangle at w
no_spoke : {rows : ℕ → List ℕ} {at : ℕ → Point} {n w u v e f : ℕ} {p : Point} → Net rows at n
    → Meets rows at n w u v e f p → (s : Spoke) → IsBehind rows at n w (sum_of (at e) (at f)) s → ⊥
no_spoke {rows} {at} {n} {w} {u} {v} {e} {f} {p} net m s is =
    let found = has_direction net m (sum_of (at e) (at f)) s is in
    let here : at v ≡ at w = one_spot net p v w m.positive m.at_v m.at_w in
    let turns : pos 0 <ℤ turn_of (at w) (at e) (at f) =
    subst (λ (o : Point). pos 0 <ℤ turn_of o (at e) (at f)) here (turned net u v e f m.below m.from) in
    let both = wedge (at w) (at found.x) (at found.y) (at e) (at f) (h w) (h found.x) (h found.y) (h e) (h f)
    (turned net found.number w found.x found.y found.below found.from) turns found.first found.second in
    not_both_inner net found.number u w found.x found.y v e f
    (other_triangle net m found.number found.x found.y found.from) found.below m.below found.from m.from both.point
    both.w both.first (subst (λ (o : Point). IsInner both.point o (at e) (at f)) (sym here) both.second)
  where
    h : (k : ℕ) → pos 0 <ℤ (at k).w
    h = above at net.one

-- ---- two triangles at two corners in one place
-- the directions of one triangle are ahead of a side of the other
ahead_sum : (o a b e f : Point) → turn_of o a (sum_of e f) +ℤ turn_of o b (sum_of e f) +ℤ turn_of o e (sum_of a b)
    +ℤ turn_of o f (sum_of a b) ≡ pos 0
ahead_sum = solve_at 5 0 (λ o a b e f. turn o a (plus e f) ⊕ turn o b (plus e f) ⊕ turn o e (plus a b)
    ⊕ turn o f (plus a b) ≐ num (pos 0)) tt

both_behind : (o a b e f : Point) → pos 0 <ℤ turn_of o a b → pos 0 <ℤ turn_of o e f → turn_of o a (sum_of e f) ≡ pos 0
    → turn_of o b (sum_of e f) ≡ pos 0 → ⊥
both_behind = follows_at 5 0 (λ o a b e f. num (pos 0) ≺ turn o a b ⇒ num (pos 0) ≺ turn o e f
    ⇒ turn o a (plus e f) ≐ num (pos 0) ⇒ turn o b (plus e f) ≐ num (pos 0) ⇒ never
    because over 0 ⊠ gap 1 ⊞ over 1 ⊞ eqn 3 (turn o a e) ⊞ eqn 2 (neg (turn o b e))) tt

all_zero : (x y z t : ℤ) → x +ℤ y +ℤ z +ℤ t ≡ pos 0 → x ≤ℤ pos 0 → y ≤ℤ pos 0 → z ≤ℤ pos 0 → t ≤ℤ pos 0
    → (x ≡ pos 0) × (y ≡ pos 0)
all_zero x y z t e hx hy hz ht = (omega (arith, ints), omega (arith, ints))

-- triangles t and u, at two corners w and v in one place
record AtOnePlace (rows : ℕ → List ℕ) (at : ℕ → Point) (n t w a b u v e f : ℕ) (p : Point) : Type 0 where
  below : t < n
  from : IsFrom (rows t) w a b
  meets : Meets rows at n w u v e f p

first_spoke : {rows : ℕ → List ℕ} {at : ℕ → Point} {n t w a b u v e f : ℕ} {p : Point} → Net rows at n
    → AtOnePlace rows at n t w a b u v e f p → pos 0 <ℤ turn_of (at w) (at a) (sum_of (at e) (at f)) → ⊥
first_spoke {t = t} {a = a} {b = b} net x ahead = no_spoke net x.meets (record { number = t; x = a; y = b })
    (record { below = x.below; from = x.from; ahead = ahead })

second_spoke : {rows : ℕ → List ℕ} {at : ℕ → Point} {n t w a b u v e f : ℕ} {p : Point} → Net rows at n
    → AtOnePlace rows at n t w a b u v e f p → pos 0 <ℤ turn_of (at w) (at b) (sum_of (at e) (at f)) → ⊥
second_spoke {rows} {at} {n} {t} {w} {a} {b} {u} {v} {e} {f} {p} net x ahead =
    go (partner_or net t b w x.below (a, next_from (rows t) a b w (next_from (rows t) w a b x.from)))
  where
    go : Partner rows net.mate n t b w ⊎ ((c : ℕ) → t ≢ c → c < n → MeetsAt rows at b w c) → ⊥
    go (inr none) = not_border net x.meets t a b x.below x.from none
    go (inl q) = no_spoke net x.meets (record { number = q.number; x = b; y = q.third })
        (record { below = q.below; from = q.from; ahead = ahead })

pub one_place_one_corner : {rows : ℕ → List ℕ} {at : ℕ → Point} {n : ℕ} → Net rows at n → (t w a b u v e f : ℕ)
    (p : Point) → pos 0 <ℤ p.w → t < n → u < n → IsFrom (rows t) w a b → IsFrom (rows u) v e f
    → IsMix p (map at (rows t)) → IsMix p (map at (rows u)) → Same p (at w) → Same p (at v) → w ≢ v → ⊥
one_place_one_corner {rows} {at} {n} net t w a b u v e f p hp ht hu from other in_t in_u at_w at_v differ =
    go (≤_or_> (turn_of (at w) (at a) d) (pos 0)) (≤_or_> (turn_of (at w) (at b) d) (pos 0))
    (≤_or_> (turn_of (at w) (at e) c) (pos 0)) (≤_or_> (turn_of (at w) (at f) c) (pos 0))
  where
    c : Point
    c = sum_of (at a) (at b)

    d : Point
    d = sum_of (at e) (at f)

    here : at w ≡ at v
    here = one_spot net p w v hp at_w at_v

    at_t : AtOnePlace rows at n t w a b u v e f p
    at_t = grind (arith, positive)

    at_u : AtOnePlace rows at n u v e f t w a b p
    at_u = grind (arith, positive)

    go : (turn_of (at w) (at a) d ≤ℤ pos 0) ⊎ (pos 0 <ℤ turn_of (at w) (at a) d)
        → (turn_of (at w) (at b) d ≤ℤ pos 0) ⊎ (pos 0 <ℤ turn_of (at w) (at b) d)
        → (turn_of (at w) (at e) c ≤ℤ pos 0) ⊎ (pos 0 <ℤ turn_of (at w) (at e) c)
        → (turn_of (at w) (at f) c ≤ℤ pos 0) ⊎ (pos 0 <ℤ turn_of (at w) (at f) c) → ⊥
    go (inr x) y z s = first_spoke net at_t x
    go (inl x) (inr y) z s = second_spoke net at_t y
    go (inl x) (inl y) (inr z) s = first_spoke net at_u (subst (λ (o : Point). pos 0 <ℤ turn_of o (at e) c) here z)
    go (inl x) (inl y) (inl z) (inr s) =
        second_spoke net at_u (subst (λ (o : Point). pos 0 <ℤ turn_of o (at f) c) here s)
    go (inl x) (inl y) (inl z) (inl s) =
        let zero = all_zero (turn_of (at w) (at a) d) (turn_of (at w) (at b) d) (turn_of (at w) (at e) c)
        (turn_of (at w) (at f) c) (ahead_sum (at w) (at a) (at b) (at e) (at f)) x y z s in
        both_behind (at w) (at a) (at b) (at e) (at f) (turned net t w a b ht from)
        (subst (λ (o : Point). pos 0 <ℤ turn_of o (at e) (at f)) (sym here) (turned net u v e f hu other))
        zero.0 zero.1
