-- Each two segments have a relation: decided over the definitions alone. A point is on a segment exactly where it is in
-- two triangles, one on each side of it; so the parameters of common points are those that two intervals have in
-- common.
use Rattle.std.proofs.Common.{◌≡◌, ◌⊎◌, inl, inr, ℤ, pos, neg_ℤ, ◌+ℤ◌, ◌-ℤ◌, ◌*ℤ◌, ◌≤ℤ◌, ◌<ℤ◌, [], ◌∷◌, sym}
use Rattle.std.proofs.Common.{subst, arith}
use Rattle.std.proofs.lemmas.Int.{ints}
use Rattle.integer_ring.proofs.Ring.{num, neg, ◌⊕◌, ◌⊖◌, ◌⊗◌}
use Rattle.integer_ring.proofs.Order.{≤_or_>, ≤_of_<, ≤_antisymm, nonneg_square}
use Rattle.integer_ring.proofs.Signs.{frac-≤_trans}
use Rattle.integer_ring.proofs.Claims.{◌≐◌, ◌≼◌, ◌≺◌, none as nothing, gap, over, eqn, ◌⊞◌, ◌⊠◌, ◌because◌, ◌otherwise◌}
use Rattle.integer_ring.proofs.Claims.{◌⇒◌, follows}
use Rattle.plane_base.specs.Plane.{Point, Same, turn_of, IsMix, along}
use Rattle.plane_base.specs.Slices.{IsParam}
use Rattle.plane_base.specs.Laws.{AreFromTo}
use Rattle.plane_base.proofs.MixLaws.Points.{turn, solve_at, follows_at}
use Rattle.plane_base.proofs.MixLaws.Turns.{turn_swap}
use Rattle.plane_base.proofs.MixLaws.Mixes.{same_refl, same_sym, same_trans, mix_moved, mixes_mix, mix_swapped}
use Rattle.plane_base.proofs.TriangleLaws.InTriangle.{turns_of_mix, mix_of_turns}
use Rattle.plane_base.proofs.TriangleLaws.Intervals.{segments_meet_in_intervals}
use Rattle.plane_base.proofs.TriangleLaws.CommonPoints.{mix_of_side, in_or_out}
use Rattle.plane_base.proofs.MixLaws.Parameters.{segments_have_parameters}
use Rattle.tin_base.specs.declared.relations.Rel.{Rel}
use Rattle.tin_base.specs.declared.relations.Rel.TheVariants.{Apart, Touching, Crossing, Overlapping}
use Rattle.tin_base.specs.Relations.{IsCommonPoint, IsOnlyCommonPoint, IsAnEnd, HaveRelation}
use Rattle.tin_base.proofs.PieceChains.Overlap.{at_twice}
use Rattle.meet_rel.proofs.Alike.{alike}
use Rattle.meet_rel.proofs.Scale.{mix_first, mix_last}

-- some relation of two segments
abbrev pub HaveSome : Point → Point → Point → Point → Type 0
HaveSome p q e f = (relation : Rel) × HaveRelation relation p q e f

-- ---- points of one place
int_or : (x y : ℤ) → (x ≡ y) ⊎ (x ≡ y → ⊥)
int_or x y = grind (arith, ints)

same_or : (p q : Point) → Same p q ⊎ (Same p q → ⊥)
same_or p q = grind (arith, int_or)

-- ---- segments whose ends have the same places
moved_on : (p q s t r : Point) → pos 0 <ℤ p.w → pos 0 <ℤ q.w → pos 0 <ℤ s.w → pos 0 <ℤ t.w → Same p s → Same q t
    → IsMix r (p ∷ q ∷ []) → IsMix r (s ∷ t ∷ [])
moved_on p q s t r hp hq hs ht first last m =
    mixes_mix r (p ∷ q ∷ []) (s ∷ t ∷ []) (hp, (hq, tt)) (hs, (ht, tt))
    (mix_moved s p (s ∷ t ∷ []) hs first (mix_first s t), (mix_moved t q (s ∷ t ∷ []) ht last (mix_last s t), tt)) m

-- a segment from a point to itself has this point alone
all_same : (e f r : Point) → pos 0 <ℤ e.w → pos 0 <ℤ f.w → Same e f → IsMix r (e ∷ f ∷ []) → Same r e
all_same e f r he hf same m =
    at_twice r e he (moved_on e f e e r he hf he he (same_refl e) (same_sym e f same) m)

-- ---- a third point on the left of a segment
abbrev across_x : Point → Point → ℤ
across_x e f = f.x *ℤ e.w -ℤ e.x *ℤ f.w

abbrev across_y : Point → Point → ℤ
across_y e f = f.y *ℤ e.w -ℤ e.y *ℤ f.w

beside : Point → Point → Point
beside e f = record { x = e.x -ℤ across_y e f; y = e.y +ℤ across_x e f; w = e.w }

turn_beside : (e f : Point) → turn_of e f (beside e f)
    ≡ across_x e f *ℤ across_x e f +ℤ across_y e f *ℤ across_y e f
unfolding beside
turn_beside = solve_at 2 0 (λ e f. turn e f
    (record { x = e.x ⊖ (f.y ⊗ e.w ⊖ e.y ⊗ f.w); y = e.y ⊕ (f.x ⊗ e.w ⊖ e.x ⊗ f.w); w = e.w })
    ≐ (f.x ⊗ e.w ⊖ e.x ⊗ f.w) ⊗ (f.x ⊗ e.w ⊖ e.x ⊗ f.w) ⊕ (f.y ⊗ e.w ⊖ e.y ⊗ f.w) ⊗ (f.y ⊗ e.w ⊖ e.y ⊗ f.w)) tt

beside-w : (e f : Point) → pos 0 <ℤ e.w → pos 0 <ℤ (beside e f).w
unfolding beside
beside-w e f h = h

above : (a b : ℤ) → pos 0 <ℤ a → pos 0 <ℤ (a *ℤ a +ℤ b *ℤ b)
above a b h = go a (b *ℤ b) h (nonneg_square b)
  where
    go : (a s : ℤ) → pos 0 <ℤ a → pos 0 ≤ℤ s → pos 0 <ℤ (a *ℤ a +ℤ s)
    go = follows 2 (λ a s. num (pos 0) ≺ a ⇒ num (pos 0) ≼ s ⇒ num (pos 0) ≺ a ⊗ a ⊕ s
        because over 0 ⊠ gap 0 ⊞ over 0 ⊞ gap 1) tt

square_first : (a b : ℤ) → (a ≡ pos 0 → ⊥) → pos 0 <ℤ (a *ℤ a +ℤ b *ℤ b)
square_first a b n = grind (arith, ≤_or_>, neg_ℤ, follows, num, neg, over, ≤_antisymm, above)

square_second : (a b : ℤ) → (b ≡ pos 0 → ⊥) → pos 0 <ℤ (a *ℤ a +ℤ b *ℤ b)
square_second a b n = other a b (square_first b a n)
  where
    other : (a b : ℤ) → pos 0 <ℤ (b *ℤ b +ℤ a *ℤ a) → pos 0 <ℤ (a *ℤ a +ℤ b *ℤ b)
    other = follows 2 (λ a b. num (pos 0) ≺ b ⊗ b ⊕ a ⊗ a ⇒ num (pos 0) ≺ a ⊗ a ⊕ b ⊗ b because over 0) tt

left_of : (e f : Point) → (Same e f → ⊥) → pos 0 <ℤ turn_of e f (beside e f)
left_of e f differ = subst (λ (z : ℤ). pos 0 <ℤ z) (sym (turn_beside e f))
    (go (int_or (across_x e f) (pos 0)) (int_or (across_y e f) (pos 0)))
  where
    even : (a b : ℤ) → b -ℤ a ≡ pos 0 → a ≡ b
    even a b h = omega (arith, ints)

    go : (across_x e f ≡ pos 0) ⊎ (across_x e f ≡ pos 0 → ⊥) → (across_y e f ≡ pos 0) ⊎ (across_y e f ≡ pos 0 → ⊥)
        → pos 0 <ℤ (across_x e f *ℤ across_x e f +ℤ across_y e f *ℤ across_y e f)
    go (inr h) other = square_first (across_x e f) (across_y e f) h
    go (inl h) (inr k) = square_second (across_x e f) (across_y e f) k
    go (inl h) (inl k) = absurd (differ (even (e.x *ℤ f.w) (f.x *ℤ e.w) h, even (e.y *ℤ f.w) (f.y *ℤ e.w) k))

-- ---- a segment is what two triangles on its two sides have in common
-- the corners at which a triangle's side begins and ends
corner : (a b : Point) → pos 0 ≤ℤ turn_of a b a
corner = follows_at 2 0 (λ a b. num (pos 0) ≼ turn a b a because nothing) tt

other_corner : (a b : Point) → pos 0 ≤ℤ turn_of a b b
other_corner = follows_at 2 0 (λ a b. num (pos 0) ≼ turn a b b because nothing) tt

-- the two triangles on the sides of the segment from e to f
record AreBeside (e f g h : Point) : Type 0 where
  of_e : pos 0 <ℤ e.w
  of_f : pos 0 <ℤ f.w
  of_g : pos 0 <ℤ g.w
  of_h : pos 0 <ℤ h.w
  left : pos 0 <ℤ turn_of e f g
  right : pos 0 <ℤ turn_of f e h

both_sides : (e f : Point) → pos 0 <ℤ e.w → pos 0 <ℤ f.w → (Same e f → ⊥)
    → AreBeside e f (beside e f) (beside f e)
both_sides e f he hf differ = record {
  of_e = he;
  of_f = hf;
  of_g = beside-w e f he;
  of_h = beside-w f e hf;
  left = left_of e f differ;
  right = left_of f e (λ same. differ (same_sym f e same));
}

side_in : (a b c r : Point) → pos 0 <ℤ a.w → pos 0 <ℤ b.w → pos 0 <ℤ c.w → pos 0 <ℤ turn_of a b c
    → IsMix r (a ∷ b ∷ []) → IsMix r (a ∷ b ∷ c ∷ [])
side_in a b c r ha hb hc d m =
    mixes_mix r (a ∷ b ∷ []) (a ∷ b ∷ c ∷ []) (ha, (hb, tt)) (ha, (hb, (hc, tt))) (
      mix_of_turns a b c a ha hb hc ha d (corner a b) (weakly (turn_of b c a) first) (other_corner c a),
      (mix_of_turns a b c b ha hb hc hb d (other_corner a b) (corner b c) (weakly (turn_of c a b) second), tt),
    ) m
  where
    weakly : (z : ℤ) → pos 0 <ℤ z → pos 0 ≤ℤ z
    weakly z h = ≤_of_< (pos 0) z h

    next : (a b c : Point) → pos 0 <ℤ turn_of a b c → pos 0 <ℤ turn_of b c a
    next = follows_at 3 0 (λ a b c. num (pos 0) ≺ turn a b c ⇒ num (pos 0) ≺ turn b c a because over 0) tt

    first : pos 0 <ℤ turn_of b c a
    first = next a b c d

    second : pos 0 <ℤ turn_of c a b
    second = next b c a first

into_both : (e f g h r : Point) → AreBeside e f g h → IsMix r (e ∷ f ∷ [])
    → IsMix r (e ∷ f ∷ g ∷ []) × IsMix r (f ∷ e ∷ h ∷ [])
into_both e f g h r b m = grind (arith, side_in, mix_swapped)

of_both : (e f g h r : Point) → AreBeside e f g h → pos 0 <ℤ r.w → IsMix r (e ∷ f ∷ g ∷ [])
    → IsMix r (f ∷ e ∷ h ∷ []) → IsMix r (e ∷ f ∷ [])
of_both e f g h r b hr m n =
    let t = turns_of_mix e f g r b.of_e b.of_f b.of_g hr b.left m in
    let u = turns_of_mix f e h r b.of_f b.of_e b.of_h hr b.right n in
    mix_of_side e f g r b.of_e b.of_f hr b.left
    (zero (turn_of e f r) (turn_of f e r) (turn_swap e f r) t.0 u.0) t.1 t.2
  where
    zero : (y z : ℤ) → y ≡ neg_ℤ z → pos 0 ≤ℤ y → pos 0 ≤ℤ z → y ≡ pos 0
    zero y z e h k = omega (arith, ints)

-- a point is on a segment or not
on_or : (p q r : Point) → pos 0 <ℤ p.w → pos 0 <ℤ q.w → pos 0 <ℤ r.w
    → IsMix r (p ∷ q ∷ []) ⊎ (IsMix r (p ∷ q ∷ []) → ⊥)
on_or p q r hp hq hr = elim (same_or p q) [
  | inl same ↦ elim (same_or r p) [
    | inl at ↦ inl (mix_moved p r (p ∷ q ∷ []) hp at (mix_first p q))
    | inr off ↦ inr (λ m. off (all_same p q r hp hq same m))
  ]
  | inr differ ↦ by_sides (both_sides p q hp hq differ)
]
  where
    by_sides : AreBeside p q (beside p q) (beside q p) → IsMix r (p ∷ q ∷ []) ⊎ (IsMix r (p ∷ q ∷ []) → ⊥)
    by_sides b =
        let g = beside p q in
        let h = beside q p in
        elim (in_or_out p q g r b.of_e b.of_f b.of_g hr b.left) [
          | inr out ↦ inr (λ m. out (into_both p q g h r b m).0)
          | inl here ↦ elim (in_or_out q p h r b.of_f b.of_e b.of_h hr b.right) [
            | inr out ↦ inr (λ m. out (into_both p q g h r b m).1)
            | inl there ↦ inl (of_both p q g h r b hr here there)
          ]
        ]

-- ---- one common point: the two touch or cross
of_one : (p q e f r : Point) → IsOnlyCommonPoint p q e f r → HaveSome p q e f
of_one p q e f r only = go (same_or r p) (same_or r q) (same_or r e) (same_or r f)
  where
    go : Same r p ⊎ (Same r p → ⊥) → Same r q ⊎ (Same r q → ⊥) → Same r e ⊎ (Same r e → ⊥)
        → Same r f ⊎ (Same r f → ⊥) → HaveSome p q e f
    go (inl h) b c d = (Touching, (r, only, inl h))
    go (inr a) (inl h) c d = (Touching, (r, only, inr (inl h)))
    go (inr a) (inr b) (inl h) d = (Touching, (r, only, inr (inr (inl h))))
    go (inr a) (inr b) (inr c) (inl h) = (Touching, (r, only, inr (inr (inr h))))
    go (inr a) (inr b) (inr c) (inr d) = (Crossing, (r, only, none))
      where
        none : IsAnEnd p q e f r → ⊥
        none (inl h) = a h
        none (inr (inl h)) = b h
        none (inr (inr (inl h))) = c h
        none (inr (inr (inr h))) = d h

-- ---- a segment from a point to itself
at_point : (p q e f : Point) → pos 0 <ℤ p.w → pos 0 <ℤ q.w → pos 0 <ℤ e.w → pos 0 <ℤ f.w → Same e f → HaveSome p q e f
at_point p q e f hp hq he hf same = elim (on_or p q e hp hq he) [
  | inl on ↦ of_one p q e f e (
    record { positive = he; first = on; second = mix_first e f },
    λ s c. all_same e f s he hf same c.second,
  )
  | inr off ↦ (
    Apart,
    λ r c. off (mix_moved r e (p ∷ q ∷ []) c.positive (same_sym r e (all_same e f r he hf same c.second)) c.first),
  )
]

exchanged : (p q e f : Point) (relation : Rel) → HaveRelation relation e f p q → HaveRelation relation p q e f
exchanged p q e f = grind (arith, alike)

-- ---- parameters of one segment
one_axis : (a b v w n d m k : ℤ) → n *ℤ k ≡ m *ℤ d
    → ((d -ℤ n) *ℤ a +ℤ n *ℤ b) *ℤ ((k -ℤ m) *ℤ v +ℤ m *ℤ w)
    ≡ ((k -ℤ m) *ℤ a +ℤ m *ℤ b) *ℤ ((d -ℤ n) *ℤ v +ℤ n *ℤ w)
one_axis =
    follows 8 (λ a b v w n d m k. n ⊗ k ≐ m ⊗ d ⇒ ((d ⊖ n) ⊗ a ⊕ n ⊗ b) ⊗ ((k ⊖ m) ⊗ v ⊕ m ⊗ w)
    ≐ ((k ⊖ m) ⊗ a ⊕ m ⊗ b) ⊗ ((d ⊖ n) ⊗ v ⊕ n ⊗ w) because eqn 0 (b ⊗ v ⊖ a ⊗ w)) tt

same_along : (p q : Point) (n d m k : ℤ) → n *ℤ k ≡ m *ℤ d → Same (along p q n d) (along p q m k)
same_along p q n d m k e = (one_axis p.x q.x p.w q.w n d m k e, one_axis p.y q.y p.w q.w n d m k e)

-- different parameters are those of different places
times_zero : (a b v w n d m k : ℤ) → ((d -ℤ n) *ℤ a +ℤ n *ℤ b) *ℤ ((k -ℤ m) *ℤ v +ℤ m *ℤ w)
    ≡ ((k -ℤ m) *ℤ a +ℤ m *ℤ b) *ℤ ((d -ℤ n) *ℤ v +ℤ n *ℤ w)
    → (n *ℤ k) <ℤ (m *ℤ d) → a *ℤ w ≡ b *ℤ v
times_zero a b v w n d m k e less =
    ≤_antisymm (a *ℤ w) (b *ℤ v) (up a b v w n d m k e less) (down a b v w n d m k e less)
  where
    up : (a b v w n d m k : ℤ) → ((d -ℤ n) *ℤ a +ℤ n *ℤ b) *ℤ ((k -ℤ m) *ℤ v +ℤ m *ℤ w)
        ≡ ((k -ℤ m) *ℤ a +ℤ m *ℤ b) *ℤ ((d -ℤ n) *ℤ v +ℤ n *ℤ w)
        → (n *ℤ k) <ℤ (m *ℤ d) → (a *ℤ w) ≤ℤ (b *ℤ v)
    up = follows 8 (λ a b v w n d m k. ((d ⊖ n) ⊗ a ⊕ n ⊗ b) ⊗ ((k ⊖ m) ⊗ v ⊕ m ⊗ w)
        ≐ ((k ⊖ m) ⊗ a ⊕ m ⊗ b) ⊗ ((d ⊖ n) ⊗ v ⊕ n ⊗ w) ⇒ n ⊗ k ≺ m ⊗ d ⇒ a ⊗ w ≼ b ⊗ v
        otherwise over 1 ⊠ gap 2 ⊞ over 2 ⊞ eqn 0 (num (pos 1))) tt

    down : (a b v w n d m k : ℤ) → ((d -ℤ n) *ℤ a +ℤ n *ℤ b) *ℤ ((k -ℤ m) *ℤ v +ℤ m *ℤ w)
        ≡ ((k -ℤ m) *ℤ a +ℤ m *ℤ b) *ℤ ((d -ℤ n) *ℤ v +ℤ n *ℤ w)
        → (n *ℤ k) <ℤ (m *ℤ d) → (b *ℤ v) ≤ℤ (a *ℤ w)
    down = follows 8 (λ a b v w n d m k. ((d ⊖ n) ⊗ a ⊕ n ⊗ b) ⊗ ((k ⊖ m) ⊗ v ⊕ m ⊗ w)
        ≐ ((k ⊖ m) ⊗ a ⊕ m ⊗ b) ⊗ ((d ⊖ n) ⊗ v ⊕ n ⊗ w) ⇒ n ⊗ k ≺ m ⊗ d ⇒ b ⊗ v ≼ a ⊗ w
        otherwise over 1 ⊠ gap 2 ⊞ over 2 ⊞ eqn 0 (neg (num (pos 1)))) tt

differ_along : (p q : Point) (n d m k : ℤ) → (Same p q → ⊥) → (n *ℤ k) <ℤ (m *ℤ d)
    → Same (along p q n d) (along p q m k) → ⊥
differ_along p q n d m k differ less e = grind (arith, times_zero)

-- the point at a parameter is a place
along_place : (v w n d : ℤ) → pos 0 <ℤ v → pos 0 <ℤ w → IsParam n d → pos 0 <ℤ ((d -ℤ n) *ℤ v +ℤ n *ℤ w)
along_place v w n d hv hw h = go v w n d hv hw h.0 h.1 h.2
  where
    go : (v w n d : ℤ) → pos 0 <ℤ v → pos 0 <ℤ w → pos 0 <ℤ d → pos 0 ≤ℤ n → n ≤ℤ d
        → pos 0 <ℤ ((d -ℤ n) *ℤ v +ℤ n *ℤ w)
    go = follows 4 (λ v w n d. num (pos 0) ≺ v ⇒ num (pos 0) ≺ w ⇒ num (pos 0) ≺ d ⇒ num (pos 0) ≼ n ⇒ n ≼ d ⇒
        num (pos 0) ≺ (d ⊖ n) ⊗ v ⊕ n ⊗ w because gap 4 ⊠ over 0 ⊞ gap 3 ⊠ over 1 ⊞ over 2) tt

le_self : (z : ℤ) → z ≤ℤ z
le_self z = omega (arith, ints)

-- the later of two parameters
record Later (n d m k : ℤ) : Type 0 where
  x : ℤ
  y : ℤ
  param : IsParam x y
  from_first : (n *ℤ y) ≤ℤ (x *ℤ d)
  from_second : (m *ℤ y) ≤ℤ (x *ℤ k)
  least : (a b : ℤ) → (n *ℤ b) ≤ℤ (a *ℤ d) → (m *ℤ b) ≤ℤ (a *ℤ k) → (x *ℤ b) ≤ℤ (a *ℤ y)

later_of : (n d m k : ℤ) → IsParam n d → IsParam m k → Later n d m k
later_of n d m k first second = elim (≤_or_> (n *ℤ k) (m *ℤ d)) [
  | inl upto ↦ record {
    x = m;
    y = k;
    param = second;
    from_first = upto;
    from_second = le_self (m *ℤ k);
    least = λ a b h l. l;
  }
  | inr behind ↦ record {
    x = n;
    y = d;
    param = first;
    from_first = le_self (n *ℤ d);
    from_second = ≤_of_< (m *ℤ d) (n *ℤ k) behind;
    least = λ a b h l. h;
  }
]

-- and the earlier
record Earlier (n d m k : ℤ) : Type 0 where
  x : ℤ
  y : ℤ
  param : IsParam x y
  to_first : (x *ℤ d) ≤ℤ (n *ℤ y)
  to_second : (x *ℤ k) ≤ℤ (m *ℤ y)
  greatest : (a b : ℤ) → (a *ℤ d) ≤ℤ (n *ℤ b) → (a *ℤ k) ≤ℤ (m *ℤ b) → (a *ℤ y) ≤ℤ (x *ℤ b)

earlier_of : (n d m k : ℤ) → IsParam n d → IsParam m k → Earlier n d m k
earlier_of n d m k first second = elim (≤_or_> (n *ℤ k) (m *ℤ d)) [
  | inl upto ↦ record {
    x = n;
    y = d;
    param = first;
    to_first = le_self (n *ℤ d);
    to_second = upto;
    greatest = λ a b h l. h;
  }
  | inr behind ↦ record {
    x = m;
    y = k;
    param = second;
    to_first = ≤_of_< (m *ℤ d) (n *ℤ k) behind;
    to_second = le_self (m *ℤ k);
    greatest = λ a b h l. l;
  }
]

-- ---- two segments of different ends
module _ (p q e f g h : Point) (hp : pos 0 <ℤ p.w) (hq : pos 0 <ℤ q.w) (b : AreBeside e f g h)
    (differ : Same p q → ⊥) where
  -- a common point has a parameter, at which both triangles have a point
  record IsMet (r : Point) : Type 0 where
    n : ℤ
    d : ℤ
    param : IsParam n d
    same : Same r (along p q n d)
    left_has : IsMix (along p q n d) (e ∷ f ∷ g ∷ [])
    right_has : IsMix (along p q n d) (f ∷ e ∷ h ∷ [])

  met_of : (r : Point) → IsCommonPoint p q e f r → IsMet r
  met_of r c =
      let at = (segments_have_parameters p q r).0 c.first in
      let x = along p q at.n at.d in
      let both = into_both e f g h r b c.second in record {
        n = at.n;
        d = at.d;
        param = at.param;
        same = at.same;
        left_has = mix_moved r x (e ∷ f ∷ g ∷ []) c.positive (same_sym r x at.same) both.0;
        right_has = mix_moved r x (f ∷ e ∷ h ∷ []) c.positive (same_sym r x at.same) both.1;
      }

  common_at : (n d : ℤ) → IsParam n d → IsMix (along p q n d) (e ∷ f ∷ g ∷ [])
      → IsMix (along p q n d) (f ∷ e ∷ h ∷ []) → IsCommonPoint p q e f (along p q n d)
  common_at n d param in_left in_right =
      let x = along p q n d in
      let hx = along_place p.w q.w n d hp hq param in record {
        positive = hx;
        first = (segments_have_parameters p q x).1
            (record { n = n; d = d; param = param; same = same_refl x });
        second = of_both e f g h x b hx in_left in_right;
      }

  -- both triangles have points of the first segment
  spans : AreFromTo e f g p q → AreFromTo f e h p q → HaveSome p q e f
  spans i j = by (≤_or_> (lo.x *ℤ hi.y) (hi.x *ℤ lo.y))
    where
      lo : Later i.least i.least_of j.least j.least_of
      lo = later_of i.least i.least_of j.least j.least_of i.first j.first

      hi : Earlier i.greatest i.greatest_of j.greatest j.greatest_of
      hi = earlier_of i.greatest i.greatest_of j.greatest j.greatest_of i.last j.last

      -- each common point is from the later of the first to the earlier of the last
      from : (r : Point) (m : IsMet r) → (lo.x *ℤ m.d) ≤ℤ (m.n *ℤ lo.y)
      from r m = lo.least m.n m.d ((i.between m.n m.d m.param).0 m.left_has).0
          ((j.between m.n m.d m.param).0 m.right_has).0

      upto : (r : Point) (m : IsMet r) → (m.n *ℤ hi.y) ≤ℤ (hi.x *ℤ m.d)
      upto r m = hi.greatest m.n m.d ((i.between m.n m.d m.param).0 m.left_has).1
          ((j.between m.n m.d m.param).0 m.right_has).1

      not_both : (a z : ℤ) → a <ℤ z → z ≤ℤ a → ⊥
      not_both a z k l = absurd (omega (arith, ints))

      apart : (hi.x *ℤ lo.y) <ℤ (lo.x *ℤ hi.y) → (r : Point) → IsCommonPoint p q e f r → ⊥
      apart less r c =
          let m = met_of r c in
          not_both (hi.x *ℤ lo.y) (lo.x *ℤ hi.y) less
          (frac-≤_trans lo.x lo.y m.n m.d hi.x hi.y lo.param.0 m.param.0 hi.param.0 (from r m) (upto r m))

      at_lo : (lo.x *ℤ hi.y) ≤ℤ (hi.x *ℤ lo.y) → IsCommonPoint p q e f (along p q lo.x lo.y)
      at_lo order = common_at lo.x lo.y lo.param
          ((i.between lo.x lo.y lo.param).1 (
            lo.from_first,
            frac-≤_trans lo.x lo.y hi.x hi.y i.greatest i.greatest_of lo.param.0 hi.param.0 i.last.0 order hi.to_first,
          ))
          ((j.between lo.x lo.y lo.param).1 (
            lo.from_second,
            frac-≤_trans lo.x lo.y hi.x hi.y j.greatest j.greatest_of lo.param.0 hi.param.0 j.last.0 order
                hi.to_second,
          ))

      at_hi : (lo.x *ℤ hi.y) ≤ℤ (hi.x *ℤ lo.y) → IsCommonPoint p q e f (along p q hi.x hi.y)
      at_hi order = common_at hi.x hi.y hi.param
          ((i.between hi.x hi.y hi.param).1 (
            frac-≤_trans i.least i.least_of lo.x lo.y hi.x hi.y i.first.0 lo.param.0 hi.param.0 lo.from_first order,
            hi.to_first,
          ))
          ((j.between hi.x hi.y hi.param).1 (
            frac-≤_trans j.least j.least_of lo.x lo.y hi.x hi.y j.first.0 lo.param.0 hi.param.0 lo.from_second order,
            hi.to_second,
          ))

      -- from one parameter to itself
      only : (hi.x *ℤ lo.y) ≤ℤ (lo.x *ℤ hi.y) → (r : Point) → IsCommonPoint p q e f r → Same r (along p q lo.x lo.y)
      only back r c =
          let m = met_of r c in
          let x = along p q m.n m.d in
          same_trans r x (along p q lo.x lo.y) (along_place p.w q.w m.n m.d hp hq m.param) m.same
          (same_along p q m.n m.d lo.x lo.y
          (≤_antisymm (m.n *ℤ lo.y) (lo.x *ℤ m.d)
          (frac-≤_trans m.n m.d hi.x hi.y lo.x lo.y m.param.0 hi.param.0 lo.param.0 (upto r m) back) (from r m)))

      by : ((lo.x *ℤ hi.y) ≤ℤ (hi.x *ℤ lo.y)) ⊎ ((hi.x *ℤ lo.y) <ℤ (lo.x *ℤ hi.y)) → HaveSome p q e f
      by (inr less) = (Apart, apart less)
      by (inl order) = elim (≤_or_> (hi.x *ℤ lo.y) (lo.x *ℤ hi.y)) [
        | inl back ↦ of_one p q e f (along p q lo.x lo.y) (at_lo order, only back)
        | inr less ↦ (
          Overlapping,
          (
            along p q lo.x lo.y,
            along p q hi.x hi.y,
            at_lo order,
            at_hi order,
            differ_along p q lo.x lo.y hi.x hi.y differ less,
          ),
        )
      ]

  of_two : HaveSome p q e f
  of_two = go (segments_meet_in_intervals e f g p q (b.of_e, (b.of_f, (b.of_g, (hp, (hq, tt))))) b.left)
      (segments_meet_in_intervals f e h p q (b.of_f, (b.of_e, (b.of_h, (hp, (hq, tt))))) b.right)
    where
      go : ((n d : ℤ) → IsParam n d → IsMix (along p q n d) (e ∷ f ∷ g ∷ []) → ⊥) ⊎ AreFromTo e f g p q
          → ((n d : ℤ) → IsParam n d → IsMix (along p q n d) (f ∷ e ∷ h ∷ []) → ⊥) ⊎ AreFromTo f e h p q
          → HaveSome p q e f
      go (inl none) other = (Apart, λ r c. let m = met_of r c in none m.n m.d m.param m.left_has)
      go (inr i) (inl none) = (Apart, λ r c. let m = met_of r c in none m.n m.d m.param m.right_has)
      go (inr i) (inr j) = spans i j

-- ---- each two segments
pub each_relation : (p q e f : Point) → pos 0 <ℤ p.w → pos 0 <ℤ q.w → pos 0 <ℤ e.w → pos 0 <ℤ f.w → HaveSome p q e f
each_relation p q e f hp hq he hf = elim (same_or e f) [
  | inl same ↦ at_point p q e f hp hq he hf same
  | inr other ↦ elim (same_or p q) [
    | inl same ↦
        let (relation, has) = at_point e f p q he hf hp hq same in (relation, exchanged p q e f relation has)
    | inr differ ↦ of_two p q e f (beside e f) (beside f e) hp hq (both_sides e f he hf other) differ
  ]
]

-- ---- segments whose ends have the same places have the same relation
pub relation_moved : (p q e f s t u v : Point) → pos 0 <ℤ p.w → pos 0 <ℤ q.w → pos 0 <ℤ e.w → pos 0 <ℤ f.w
    → pos 0 <ℤ s.w → pos 0 <ℤ t.w → pos 0 <ℤ u.w → pos 0 <ℤ v.w → Same p s → Same q t → Same e u → Same f v
    → (relation : Rel) → HaveRelation relation p q e f → HaveRelation relation s t u v
relation_moved p q e f s t u v hp hq he hf hs ht hu hv ps qt eu fv =
    alike p q e f s t u v (record {
      forth = λ r c. record {
        positive = c.positive;
        first = moved_on p q s t r hp hq hs ht ps qt c.first;
        second = moved_on e f u v r he hf hu hv eu fv c.second;
      };
      back = λ r c. record {
        positive = c.positive;
        first = moved_on s t p q r hs ht hp hq (same_sym p s ps) (same_sym q t qt) c.first;
        second = moved_on u v e f r hu hv he hf (same_sym e u eu) (same_sym f v fv) c.second;
      };
      end_forth = λ r k. ends p q e f s t u v r hp hq he hf ps qt eu fv k;
      end_back = λ r k. ends s t u v p q e f r hs ht hu hv (same_sym p s ps) (same_sym q t qt) (same_sym e u eu)
          (same_sym f v fv) k;
    })
  where
    ends : (p q e f s t u v r : Point) → pos 0 <ℤ p.w → pos 0 <ℤ q.w → pos 0 <ℤ e.w → pos 0 <ℤ f.w → Same p s
        → Same q t → Same e u → Same f v → IsAnEnd p q e f r → IsAnEnd s t u v r
    ends p q e f s t u v r hp hq he hf ps qt eu fv (inl k) = inl (same_trans r p s hp k ps)
    ends p q e f s t u v r hp hq he hf ps qt eu fv (inr (inl k)) = inr (inl (same_trans r q t hq k qt))
    ends p q e f s t u v r hp hq he hf ps qt eu fv (inr (inr (inl k))) = inr (inr (inl (same_trans r e u he k eu)))
    ends p q e f s t u v r hp hq he hf ps qt eu fv (inr (inr (inr k))) = inr (inr (inr (same_trans r f v hf k fv)))
