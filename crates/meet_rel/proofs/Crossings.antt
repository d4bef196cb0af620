-- Two lines that are not parallel meet in one point, and two segments of them in that point or nowhere.
use Rattle.std.proofs.Common.{◌≡◌, ◌≢◌, ◌⊎◌, inl, inr, ℕ, ◌+◌, ◌<◌, ℤ, pos, neg_ℤ, ◌+ℤ◌, ◌-ℤ◌, ◌*ℤ◌, ◌≤ℤ◌, ◌<ℤ◌, []}
use Rattle.std.proofs.Common.{◌∷◌, sym, ◌∙◌, arith}
use Rattle.std.proofs.lemmas.Int.{ints}
use Rattle.integer_ring.proofs.Ring.{num, neg, ◌⊕◌, ◌⊖◌, ◌⊗◌}
use Rattle.integer_ring.proofs.Order.{≤_or_>, to_nat, nonneg_pos}
use Rattle.integer_ring.proofs.Signs.{zero_cases}
use Rattle.integer_ring.proofs.Claims.{◌≐◌, ◌≼◌, ◌≺◌, never, gap, over, eqn, ◌⊞◌, ◌⊠◌, ◌because◌, ◌⇒◌, follows, solve}
use lib.Signed.{lt_z_yes}
use Rattle.plane_base.specs.Plane.{Point, Same, turn_of, IsMix, whole}
use Rattle.plane_base.specs.declared.shapes.Pt.{Pt}
use Rattle.plane_base.proofs.MixLaws.Points.{turn, solve_at}
use Rattle.plane_base.proofs.MixLaws.Mixes.{same_refl, same_sym, mixed, Between, between_weights, weights_between, between-w, turn_between}
use Rattle.plane_base.proofs.MixLaws.Mixes.{mix_moved, turn_on_side}
use Rattle.tin_base.specs.declared.relations.Rel.TheVariants.{Apart, Touching, Crossing}
use Rattle.tin_base.specs.Relations.{IsCommonPoint, IsAnEnd, HaveRelation}
use Rattle.meet_rel.specs.Signs.{AreOnOneSide, IsSomeZero}
use Rattle.meet_rel.proofs.Scale.{line_moved}
use Rattle.plain_laws.proofs.Weights.{two_positive}

one : pos 0 <ℤ pos 1
one = lt_z_yes tt

-- ---- a point of both lines
pub record IsOnBoth (a b c d : Pt) (p : Point) : Type 0 where
  pub first : turn_of (whole a) (whole b) p ≡ pos 0
  pub second : turn_of (whole c) (whole d) p ≡ pos 0
  pub positive : pos 0 <ℤ p.w

common_on_both : (a b c d : Pt) (r : Point) → IsCommonPoint (whole a) (whole b) (whole c) (whole d) r
    → IsOnBoth a b c d r
common_on_both a b c d r k = record {
  first = turn_on_side (whole a) (whole b) r one one k.first;
  second =
      turn_on_side (whole c) (whole d) r one one k.second;
  positive = k.positive;
}

-- two points of both lines have the same place on the axis with these shares of x and y
once : (u v ax ay bx by cx cy ex ey px py pw qx qy qw : ℤ)
    → turn_of (record { x = ax; y = ay; w = pos 1 }) (record { x = bx; y = by; w = pos 1 })
    (record { x = px; y = py; w = pw }) ≡ pos 0
    → turn_of (record { x = ax; y = ay; w = pos 1 }) (record { x = bx; y = by; w = pos 1 })
    (record { x = qx; y = qy; w = qw }) ≡ pos 0
    → turn_of (record { x = cx; y = cy; w = pos 1 }) (record { x = ex; y = ey; w = pos 1 })
    (record { x = px; y = py; w = pw }) ≡ pos 0
    → turn_of (record { x = cx; y = cy; w = pos 1 }) (record { x = ex; y = ey; w = pos 1 })
    (record { x = qx; y = qy; w = qw }) ≡ pos 0
    → (turn_of (record { x = ax; y = ay; w = pos 1 }) (record { x = bx; y = by; w = pos 1 })
    (record { x = ex; y = ey; w = pos 1 })
    -ℤ turn_of (record { x = ax; y = ay; w = pos 1 }) (record { x = bx; y = by; w = pos 1 })
    (record { x = cx; y = cy; w = pos 1 }))
    *ℤ ((u *ℤ px +ℤ v *ℤ py) *ℤ qw -ℤ (u *ℤ qx +ℤ v *ℤ qy) *ℤ pw) ≡ pos 0
once =
    follows 16 (λ u v ax ay bx by cx cy ex ey px py pw qx qy qw.
    turn (record { x = ax; y = ay; w = num (pos 1) }) (record { x = bx; y = by; w = num (pos 1) })
    (record { x = px; y = py; w = pw }) ≐ num (pos 0)
    ⇒ turn (record { x = ax; y = ay; w = num (pos 1) }) (record { x = bx; y = by; w = num (pos 1) })
    (record { x = qx; y = qy; w = qw }) ≐ num (pos 0)
    ⇒ turn (record { x = cx; y = cy; w = num (pos 1) }) (record { x = ex; y = ey; w = num (pos 1) })
    (record { x = px; y = py; w = pw }) ≐ num (pos 0)
    ⇒ turn (record { x = cx; y = cy; w = num (pos 1) }) (record { x = ex; y = ey; w = num (pos 1) })
    (record { x = qx; y = qy; w = qw }) ≐ num (pos 0)
    ⇒ (turn (record { x = ax; y = ay; w = num (pos 1) }) (record { x = bx; y = by; w = num (pos 1) })
    (record { x = ex; y = ey; w = num (pos 1) })
    ⊖ turn (record { x = ax; y = ay; w = num (pos 1) }) (record { x = bx; y = by; w = num (pos 1) })
    (record { x = cx; y = cy; w = num (pos 1) })) ⊗ ((u ⊗ px ⊕ v ⊗ py) ⊗ qw ⊖ (u ⊗ qx ⊕ v ⊗ qy) ⊗ pw) ≐ num (pos 0)
    because eqn 0 ((u ⊗ (ex ⊖ cx) ⊕ v ⊗ (ey ⊖ cy)) ⊗ qw) ⊞ eqn 1 (neg (u ⊗ (ex ⊖ cx) ⊕ v ⊗ (ey ⊖ cy)) ⊗ pw)
    ⊞ eqn 2 (neg (u ⊗ (bx ⊖ ax) ⊕ v ⊗ (by ⊖ ay)) ⊗ qw) ⊞ eqn 3 ((u ⊗ (bx ⊖ ax) ⊕ v ⊗ (by ⊖ ay)) ⊗ pw)) tt

on_x : (f p r w q s v : ℤ) → f *ℤ ((pos 1 *ℤ p +ℤ pos 0 *ℤ r) *ℤ w -ℤ (pos 1 *ℤ q +ℤ pos 0 *ℤ s) *ℤ v) ≡ pos 0
    → f *ℤ (p *ℤ w -ℤ q *ℤ v) ≡ pos 0
on_x = follows 7 (λ f p r w q s v. f ⊗ ((num (pos 1) ⊗ p ⊕ num (pos 0) ⊗ r) ⊗ w
    ⊖ (num (pos 1) ⊗ q ⊕ num (pos 0) ⊗ s) ⊗ v) ≐ num (pos 0) ⇒ f ⊗ (p ⊗ w ⊖ q ⊗ v) ≐ num (pos 0)
    because eqn 0 (num (pos 1))) tt

on_y : (f p r w q s v : ℤ) → f *ℤ ((pos 0 *ℤ p +ℤ pos 1 *ℤ r) *ℤ w -ℤ (pos 0 *ℤ q +ℤ pos 1 *ℤ s) *ℤ v) ≡ pos 0
    → f *ℤ (r *ℤ w -ℤ s *ℤ v) ≡ pos 0
on_y = follows 7 (λ f p r w q s v. f ⊗ ((num (pos 0) ⊗ p ⊕ num (pos 1) ⊗ r) ⊗ w
    ⊖ (num (pos 0) ⊗ q ⊕ num (pos 1) ⊗ s) ⊗ v) ≐ num (pos 0) ⇒ f ⊗ (r ⊗ w ⊖ s ⊗ v) ≐ num (pos 0)
    because eqn 0 (num (pos 1))) tt

even : (a b : ℤ) → a -ℤ b ≡ pos 0 → a ≡ b
even a b h = omega (arith, ints)

-- the lines are not parallel
abbrev pub AreAcross : Pt → Pt → Pt → Pt → Type 0
AreAcross a b c d = turn_of (whole a) (whole b) (whole c) ≢ turn_of (whole a) (whole b) (whole d)

pub meet_once : (a b c d : Pt) (p q : Point) → AreAcross a b c d → IsOnBoth a b c d p → IsOnBoth a b c d q → Same p q
meet_once a b c d p q across hp hq = (
  of (p.x *ℤ q.w) (q.x *ℤ p.w) (zero_cases e (p.x *ℤ q.w -ℤ q.x *ℤ p.w)
      (on_x e p.x p.y q.w q.x q.y p.w (at (pos 1) (pos 0)))),
  of (p.y *ℤ q.w) (q.y *ℤ p.w) (zero_cases e (p.y *ℤ q.w -ℤ q.y *ℤ p.w)
      (on_y e p.x p.y q.w q.x q.y p.w (at (pos 0) (pos 1)))),
)
  where
    e : ℤ
    e = turn_of (whole a) (whole b) (whole d) -ℤ turn_of (whole a) (whole b) (whole c)

    at : (u v : ℤ) → e *ℤ ((u *ℤ p.x +ℤ v *ℤ p.y) *ℤ q.w -ℤ (u *ℤ q.x +ℤ v *ℤ q.y) *ℤ p.w) ≡ pos 0
    at u v = once u v a.x a.y b.x b.y c.x c.y d.x d.y p.x p.y p.w q.x q.y q.w hp.first hq.first hp.second hq.second

    of : (s t : ℤ) → (e ≡ pos 0) ⊎ (s -ℤ t ≡ pos 0) → s ≡ t
    of s t (inl z) = absurd (across (sym (even (turn_of (whole a) (whole b) (whole d))
        (turn_of (whole a) (whole b) (whole c)) z)))
    of s t (inr z) = even s t z

-- what the one line is to the other, the other is to the one
pub same_fall : (a b c d : Pt) → turn_of (whole c) (whole d) (whole a) -ℤ turn_of (whole c) (whole d) (whole b)
    ≡ turn_of (whole a) (whole b) (whole d) -ℤ turn_of (whole a) (whole b) (whole c)
same_fall a b c d =
    solve 8 (λ ax ay bx by cx cy ex ey.
    turn (record { x = cx; y = cy; w = num (pos 1) }) (record { x = ex; y = ey; w = num (pos 1) })
    (record { x = ax; y = ay; w = num (pos 1) })
    ⊖ turn (record { x = cx; y = cy; w = num (pos 1) }) (record { x = ex; y = ey; w = num (pos 1) })
    (record { x = bx; y = by; w = num (pos 1) })
    ≐ turn (record { x = ax; y = ay; w = num (pos 1) }) (record { x = bx; y = by; w = num (pos 1) })
    (record { x = ex; y = ey; w = num (pos 1) })
    ⊖ turn (record { x = ax; y = ay; w = num (pos 1) }) (record { x = bx; y = by; w = num (pos 1) })
    (record { x = cx; y = cy; w = num (pos 1) })) tt
    a.x a.y b.x b.y c.x c.y d.x d.y

pub also_across : (a b c d : Pt) → AreAcross a b c d → AreAcross c d a b
also_across a b c d across e = across (sym
    (other (turn_of (whole c) (whole d) (whole a)) (turn_of (whole c) (whole d) (whole b))
    (turn_of (whole a) (whole b) (whole d)) (turn_of (whole a) (whole b) (whole c)) (same_fall a b c d) e))
  where
    other : (s t u v : ℤ) → s -ℤ t ≡ u -ℤ v → s ≡ t → u ≡ v
    other s t u v h e = omega (arith, ints)

-- ---- by the point of both lines
pub record IsMeeting (a b c d : Pt) (p : Point) : Type 0 where
  pub on : IsOnBoth a b c d p
  pub first : IsMix p (whole a ∷ whole b ∷ [])
  pub second : IsMix p (whole c ∷ whole d ∷ [])

common_meeting : (a b c d : Pt) (p : Point) → IsMeeting a b c d p
    → IsCommonPoint (whole a) (whole b) (whole c) (whole d) p
common_meeting a b c d p m = let o = m.on in record { positive = o.positive; first = m.first; second = m.second }

-- an end of the one that is on the other line
end_on : (a b c d : Pt) (p : Point) → AreAcross a b c d → IsMeeting a b c d p
    → IsSomeZero (turn_of (whole c) (whole d) (whole a)) (turn_of (whole c) (whole d) (whole b))
    (turn_of (whole a) (whole b) (whole c)) (turn_of (whole a) (whole b) (whole d))
    → IsAnEnd (whole a) (whole b) (whole c) (whole d) p
end_on a b c d p across m (inl z) = inl (meet_once a b c d p (whole a) across m.on
    (record {
      first = solve_at 2 0 (λ a b. turn a b a ≐ num (pos 0)) tt (whole a) (whole b);
      second = z;
      positive =
          one;
    }))
end_on a b c d p across m (inr (inl z)) = inr
    (inl (meet_once a b c d p (whole b) across m.on
    (record {
      first = solve_at 2 0 (λ a b. turn a b b ≐ num (pos 0)) tt (whole a) (whole b);
      second = z;
      positive =
          one;
    })))
end_on a b c d p across m (inr (inr (inl z))) =
    inr (inr (inl (meet_once a b c d p (whole c) across m.on
    (record {
      first = z;
      second = solve_at 2 0 (λ a b. turn a b a ≐ num (pos 0)) tt (whole c) (whole d);
      positive =
          one;
    }))))
end_on a b c d p across m (inr (inr (inr z))) =
    inr (inr (inr (meet_once a b c d p (whole d) across m.on
    (record {
      first = z;
      second = solve_at 2 0 (λ a b. turn a b b ≐ num (pos 0)) tt (whole c) (whole d);
      positive =
          one;
    }))))

zero_at : (a b c d : Pt) (p : Point) → IsOnBoth a b c d p → IsAnEnd (whole a) (whole b) (whole c) (whole d) p
    → IsSomeZero (turn_of (whole c) (whole d) (whole a)) (turn_of (whole c) (whole d) (whole b))
    (turn_of (whole a) (whole b) (whole c)) (turn_of (whole a) (whole b) (whole d))
zero_at a b c d p o (inl s) = inl (line_moved (whole c) (whole d) (whole a) p o.positive (same_sym p (whole a) s)
    o.second)
zero_at a b c d p o (inr (inl s)) = inr (inl
    (line_moved (whole c) (whole d) (whole b) p o.positive (same_sym p (whole b) s) o.second))
zero_at a b c d p o (inr (inr (inl s))) = inr
    (inr (inl (line_moved (whole a) (whole b) (whole c) p o.positive (same_sym p (whole c) s) o.first)))
zero_at a b c d p o (inr (inr (inr s))) = inr
    (inr (inr (line_moved (whole a) (whole b) (whole d) p o.positive (same_sym p (whole d) s) o.first)))

touching_at : (a b c d : Pt) (p : Point) → AreAcross a b c d → IsMeeting a b c d p
    → IsSomeZero (turn_of (whole c) (whole d) (whole a)) (turn_of (whole c) (whole d) (whole b))
    (turn_of (whole a) (whole b) (whole c)) (turn_of (whole a) (whole b) (whole d))
    → HaveRelation Touching (whole a) (whole b) (whole c) (whole d)
touching_at a b c d p across m z = (
  p,
  (
    common_meeting a b c d p m,
    λ r k. meet_once a b c d r p across
        (common_on_both a b c d r k) m.on,
  ),
  end_on a b c d p across m z,
)

crossing_at : (a b c d : Pt) (p : Point) → AreAcross a b c d → IsMeeting a b c d p
    → (IsSomeZero (turn_of (whole c) (whole d) (whole a)) (turn_of (whole c) (whole d) (whole b))
    (turn_of (whole a) (whole b) (whole c)) (turn_of (whole a) (whole b) (whole d)) → ⊥)
    → HaveRelation Crossing (whole a) (whole b) (whole c) (whole d)
crossing_at a b c d p across m none = (
  p,
  (
    common_meeting a b c d p m,
    λ r k. meet_once a b c d r p across
        (common_on_both a b c d r k) m.on,
  ),
  λ end. none (zero_at a b c d p m.on end),
)

-- ---- on one side
not_zero : (k l u v : ℤ) → pos 0 ≤ℤ k → pos 0 ≤ℤ l → pos 0 <ℤ (k +ℤ l) → pos 0 <ℤ u → pos 0 <ℤ v
    → k *ℤ u +ℤ l *ℤ v ≡ pos 0 → ⊥
not_zero =
    follows 4 (λ k l u v. num (pos 0) ≼ k ⇒ num (pos 0) ≼ l ⇒ num (pos 0) ≺ k
    ⊕ l ⇒ num (pos 0) ≺ u ⇒ num (pos 0) ≺ v ⇒ k ⊗ u ⊕ l ⊗ v ≐ num (pos 0) ⇒ never
    because gap 5 ⊞ gap 0 ⊠ over 3 ⊞ gap 1 ⊠ over 4 ⊞ over 2) tt

not_zero' : (k l u v : ℤ) → pos 0 ≤ℤ k → pos 0 ≤ℤ l → pos 0 <ℤ (k +ℤ l) → u <ℤ pos 0 → v <ℤ pos 0
    → k *ℤ u +ℤ l *ℤ v ≡ pos 0 → ⊥
not_zero' = grind arith

-- no point of a segment on one side of a line is on the line
no_point : (a b p q r : Point) → pos 0 <ℤ p.w → pos 0 <ℤ q.w → pos 0 <ℤ r.w
    → AreOnOneSide (turn_of a b p) (turn_of a b q) → turn_of a b r ≡ pos 0 → IsMix r (p ∷ q ∷ []) → ⊥
no_point a b p q r hp hq hr side z m = go side
  where
    i : Between p q r
    i = between_weights p q r m

    zero : pos i.k *ℤ turn_of a b p +ℤ pos i.l *ℤ turn_of a b q ≡ pos 0
    zero = sym (turn_between a b p q i.k i.l)
        ∙ line_moved a b (mixed i.k i.l p q) r hr (same_sym r (mixed i.k i.l p q) i.same) z

    go : AreOnOneSide (turn_of a b p) (turn_of a b q) → ⊥
    go (inl h) = not_zero (pos i.k) (pos i.l) (turn_of a b p) (turn_of a b q) (nonneg_pos i.k) (nonneg_pos i.l)
        (two_positive i.k i.l i.some) h.0 h.1 zero
    go (inr h) = not_zero' (pos i.k) (pos i.l) (turn_of a b p) (turn_of a b q) (nonneg_pos i.k) (nonneg_pos i.l)
        (two_positive i.k i.l i.some) h.0 h.1 zero

pub apart_by_second : (a b c d : Pt) → AreOnOneSide (turn_of (whole a) (whole b) (whole c))
    (turn_of (whole a) (whole b) (whole d)) → HaveRelation Apart (whole a) (whole b) (whole c) (whole d)
apart_by_second a b c d side = λ r k. no_point (whole a) (whole b) (whole c) (whole d) r one one k.positive side
    (turn_on_side (whole a) (whole b) r one one k.first) k.second

pub apart_by_first : (a b c d : Pt) → AreOnOneSide (turn_of (whole c) (whole d) (whole a))
    (turn_of (whole c) (whole d) (whole b)) → HaveRelation Apart (whole a) (whole b) (whole c) (whole d)
apart_by_first a b c d side = λ r k. no_point (whole c) (whole d) (whole a) (whole b) r one one k.positive side
    (turn_on_side (whole c) (whole d) r one one k.second) k.first

-- ---- on no side alone: some point is on the line
record Weights (u v : ℤ) : Type 0 where
  k : ℕ
  l : ℕ
  some : 0 < k + l
  zero : pos k *ℤ u +ℤ pos l *ℤ v ≡ pos 0

weights : (u v : ℤ) → (AreOnOneSide u v → ⊥) → u ≢ v → Weights u v
weights u v none differ = go (≤_or_> u (pos 0)) (≤_or_> v (pos 0))
  where
    nonneg : (z : ℤ) → z ≤ℤ pos 0 → pos 0 ≤ℤ neg_ℤ z
    nonneg z h = omega (arith, ints)

    up : (z : ℤ) → pos 0 <ℤ z → pos 0 ≤ℤ z
    up z h = omega (arith, ints)

    -- u ≤ 0 ≤ v
    some : (u v : ℤ) (k l : ℕ) → v ≡ pos k → neg_ℤ u ≡ pos l → u ≢ v → 0 < k + l
    some u v k l e f n = more k l (λ (z : k + l ≡ 0). let same : u ≡ v = omega (arith, ints) in n same)
      where
        more : (k l : ℕ) → (k + l ≡ 0 → ⊥) → 0 < k + l
        more k l h = grind arith

    zero : (u v k l : ℤ) → v ≡ k → neg_ℤ u ≡ l → k *ℤ u +ℤ l *ℤ v ≡ pos 0
    zero = follows 4 (λ u v k l. v ≐ k ⇒ neg u ≐ l ⇒ k ⊗ u ⊕ l ⊗ v ≐ num (pos 0) because eqn 0 (neg u) ⊞ eqn 1 (neg v))
        tt

    zero' : (u v k l : ℤ) → u ≡ l → neg_ℤ v ≡ k → k *ℤ u +ℤ l *ℤ v ≡ pos 0
    zero' = follows 4 (λ u v k l. u ≐ l ⇒ neg v ≐ k ⇒ k ⊗ u ⊕ l ⊗ v ≐ num (pos 0) because eqn 0 (neg v) ⊞ eqn 1 (neg u))
        tt

    swapped : (k l : ℕ) → 0 < l + k → 0 < k + l
    swapped k l h = omega arith

    rising : (k : ℕ) × (v ≡ pos k) → (l : ℕ) × (neg_ℤ u ≡ pos l) → Weights u v
    rising k l = record {
      k = k.0;
      l = l.0;
      some = some u v k.0 l.0 k.1 l.1 differ;
      zero =
          zero u v (pos k.0) (pos l.0) k.1 l.1;
    }

    falling : (l : ℕ) × (u ≡ pos l) → (k : ℕ) × (neg_ℤ v ≡ pos k) → Weights u v
    falling l k = record {
      k = k.0;
      l = l.0;
      some =
          swapped k.0 l.0 (some v u l.0 k.0 l.1 k.1 (λ e. differ (sym e)));
      zero = zero' u v (pos k.0) (pos l.0) l.1 k.1;
    }

    level : (u v : ℤ) → u ≤ℤ pos 0 → v ≤ℤ pos 0 → ¬ ((u <ℤ pos 0) × (v <ℤ pos 0)) → (pos 0 ≤ℤ u) ⊎ (pos 0 ≤ℤ v)
    level u v h k n = by (≤_or_> (pos 0) u) (≤_or_> (pos 0) v)
      where
        by : (pos 0 ≤ℤ u) ⊎ (u <ℤ pos 0) → (pos 0 ≤ℤ v) ⊎ (v <ℤ pos 0) → (pos 0 ≤ℤ u) ⊎ (pos 0 ≤ℤ v)
        by (inl x) y = inl x
        by (inr x) (inl y) = inr y
        by (inr x) (inr y) = absurd (n (x, y))

    both_low : u ≤ℤ pos 0 → v ≤ℤ pos 0 → (pos 0 ≤ℤ u) ⊎ (pos 0 ≤ℤ v) → Weights u v
    both_low h k (inl x) = falling (to_nat u x) (to_nat (neg_ℤ v) (nonneg v k))
    both_low h k (inr y) = rising (to_nat v y) (to_nat (neg_ℤ u) (nonneg u h))

    go : (u ≤ℤ pos 0) ⊎ (pos 0 <ℤ u) → (v ≤ℤ pos 0) ⊎ (pos 0 <ℤ v) → Weights u v
    go (inl h) (inl k) = both_low h k (level u v h k (λ both. none (inr both)))
    go (inl h) (inr k) = rising (to_nat v (up v k)) (to_nat (neg_ℤ u) (nonneg u h))
    go (inr h) (inl k) = falling (to_nat u (up u h)) (to_nat (neg_ℤ v) (nonneg v k))
    go (inr h) (inr k) = absurd (none (inl (h, k)))

-- the point of the segment from c to d that is on the line through a and b
record Point_on (a b c d : Pt) : Type 0 where
  point : Point
  on : IsOnBoth a b c d point
  between : IsMix point (whole c ∷ whole d ∷ [])

point_on : (a b c d : Pt) → AreAcross a b c d
    → (AreOnOneSide (turn_of (whole a) (whole b) (whole c)) (turn_of (whole a) (whole b) (whole d)) → ⊥)
    → Point_on a b c d
point_on a b c d across none =
    let w = weights (turn_of (whole a) (whole b) (whole c)) (turn_of (whole a) (whole b) (whole d)) none across in
    let m = mixed w.k w.l (whole c) (whole d) in
    let i : Between (whole c) (whole d) m = record { k = w.k; l = w.l; some = w.some; same = same_refl m } in
    let between : IsMix m (whole c ∷ whole d ∷ []) = weights_between (whole c) (whole d) m i in
    record {
      point = m;
      on = record {
        first = turn_between (whole a) (whole b) (whole c) (whole d) w.k w.l
            ∙ w.zero;
        second = turn_on_side (whole c) (whole d) m one one between;
        positive =
            between-w (whole c) (whole d) m i one one;
      };
      between = between;
    }

turned_on : (a b c d : Pt) (p : Point) → IsOnBoth c d a b p → IsOnBoth a b c d p
turned_on a b c d p o = record { first = o.second; second = o.first; positive = o.positive }

meeting : (a b c d : Pt) → AreAcross a b c d
    → (AreOnOneSide (turn_of (whole a) (whole b) (whole c)) (turn_of (whole a) (whole b) (whole d)) → ⊥)
    → (AreOnOneSide (turn_of (whole c) (whole d) (whole a)) (turn_of (whole c) (whole d) (whole b)) → ⊥)
    → (p : Point) × IsMeeting a b c d p
meeting a b c d across none none' =
    let m = point_on a b c d across none in
    let n = point_on c d a b (also_across a b c d across) none' in
    let n_on : IsOnBoth a b c d n.point = turned_on a b c d n.point n.on in
    let o = n.on in (
      m.point,
      record {
        on = m.on;
        first = mix_moved n.point m.point (whole a ∷ whole b ∷ []) o.positive
            (meet_once a b c d m.point n.point across m.on n_on) n.between;
        second = m.between;
      },
    )

-- the signs of the four turns
pub record AreSigns (a b c d : Pt) : Type 0 where
  pub across : AreAcross a b c d
  pub second : AreOnOneSide (turn_of (whole a) (whole b) (whole c)) (turn_of (whole a) (whole b) (whole d)) → ⊥
  pub first : AreOnOneSide (turn_of (whole c) (whole d) (whole a)) (turn_of (whole c) (whole d) (whole b)) → ⊥

pub touching_by : (a b c d : Pt) → AreSigns a b c d
    → IsSomeZero (turn_of (whole c) (whole d) (whole a)) (turn_of (whole c) (whole d) (whole b))
    (turn_of (whole a) (whole b) (whole c)) (turn_of (whole a) (whole b) (whole d))
    → HaveRelation Touching (whole a) (whole b) (whole c) (whole d)
touching_by a b c d s z = let m = meeting a b c d s.across s.second s.first in touching_at a b c d m.0 s.across m.1 z

pub crossing_by : (a b c d : Pt) → AreSigns a b c d
    → (IsSomeZero (turn_of (whole c) (whole d) (whole a)) (turn_of (whole c) (whole d) (whole b))
    (turn_of (whole a) (whole b) (whole c)) (turn_of (whole a) (whole b) (whole d)) → ⊥)
    → HaveRelation Crossing (whole a) (whole b) (whole c) (whole d)
crossing_by a b c d s none = let m = meeting a b c d s.across s.second s.first in crossing_at a b c d m.0 s.across m.1
    none
