-- Two triangles of a sound triangulation with two common spots of a segment have the same spots of it: the segment runs
-- along their common side.
use Rattle.std.proofs.Common.{◌≡◌, ◌≢◌, ◌⊎◌, inl, inr, ℕ, ◌*◌, ◌<◌, ◌≤◌, ℤ, pos, ◌+ℤ◌, ◌-ℤ◌, ◌*ℤ◌, ◌≤ℤ◌, ◌<ℤ◌, neg_ℤ}
use Rattle.std.proofs.Common.{true, false, eqb, List, [], ◌∷◌, length, sum, sym, ◌∙◌, ap, ap₂, subst, arith}
use Rattle.std.proofs.lemmas.Int.{ints}
use Rattle.std.proofs.lemmas.Bool.Decides.{eqb_tells}
use Rattle.integer_ring.proofs.Ring.{num, neg, ◌⊕◌, ◌⊖◌, ◌⊗◌}
use Rattle.integer_ring.proofs.Signs.{≡_of_mul}
use Rattle.integer_ring.proofs.Claims.{◌≐◌, ◌≺◌, gap, over, eqn, ◌⊞◌, ◌⊠◌, ◌because◌, ◌⇒◌, follows, solve}
use Rattle.plane_base.specs.Plane.{Point, Same, turn_of, weighted_sum, IsMix, whole}
use Rattle.plane_base.specs.declared.shapes.Pt.{Pt}
use Rattle.plane_base.proofs.MixLaws.Turns.{turn_cycle, turn_swap}
use Rattle.plane_base.proofs.TriangleLaws.InTriangle.{turns_of_mix}
use Rattle.plane_base.proofs.TriangleLaws.CommonPoints.{mix_of_side}
use Rattle.plane_base.proofs.MixLaws.Mixes.{same_sym, same_trans, mixed, between_weights, between-w, mix_swapped, turn_on_side}
use Rattle.tin_base.specs.declared.frames.Frame.TheVariants.{Source}
use Rattle.tin_base.specs.Triangulation.{Triangulation, place, corner_at, numbers_of, places}
use Rattle.tin_base.specs.Soundness.{turn_of_three, has, common_of, IsSound}
use Rattle.tin_base.specs.Segments.{Spot, spot_at, IsBefore, IsShared}
use Rattle.tin_base.proofs.SegmentSpots.Spots.{one, spot-w}
use Rattle.tin_base.proofs.FrameImages.Weights.{HasAll, common_in_first, common_in_second}
use Rattle.tin_base.proofs.PieceChains.WaySteps.{turn_mixed}
use Rattle.tin_base.proofs.FrameImages.Alike.{alike_of, alike_in, alike_more}
use Rattle.tin_base.proofs.SegmentSpots.Ends.{IsSpot}
use Rattle.tin_base.proofs.TriangleLemmas.Members.{one_of_three}
use Rattle.plain_laws.proofs.Weights.{one_positive}

-- a mix of some of the corners is one of them all
pub in_more : (tin : Triangulation) (ns ks : List ℕ) (p : Point) → HasAll ns ks → IsMix p (places tin Source ks)
    → IsMix p (places tin Source ns)
in_more tin ns ks p h m = let q = alike_of tin Source ks p m in alike_in tin Source ns p q.0
    (alike_more tin Source ns ks p q.0 h q.2)

-- ---- two spots are not at one place
apart_z : (a b r q s t : ℤ) → (r *ℤ a +ℤ (q *ℤ b +ℤ pos 0)) *ℤ (s *ℤ pos 1 +ℤ (t *ℤ pos 1 +ℤ pos 0))
    ≡ (s *ℤ a +ℤ (t *ℤ b +ℤ pos 0)) *ℤ (r *ℤ pos 1 +ℤ (q *ℤ pos 1 +ℤ pos 0))
    → a *ℤ (t *ℤ r -ℤ q *ℤ s) ≡ b *ℤ (t *ℤ r -ℤ q *ℤ s)
apart_z =
    follows 6 (λ a b r q s t. (r ⊗ a ⊕ (q ⊗ b ⊕ num (pos 0))) ⊗ (s ⊗ num (pos 1) ⊕ (t ⊗ num (pos 1) ⊕ num (pos 0)))
    ≐ (s ⊗ a ⊕ (t ⊗ b ⊕ num (pos 0))) ⊗ (r ⊗ num (pos 1) ⊕ (q ⊗ num (pos 1) ⊕ num (pos 0)))
    ⇒ a ⊗ (t ⊗ r ⊖ q ⊗ s) ≐ b ⊗ (t ⊗ r ⊖ q ⊗ s) because eqn 0 (num (pos 1))) tt

order_z : (m n : ℕ) → m < n → pos 0 <ℤ (pos n -ℤ pos m)
order_z m n h = omega (arith, ints)

not_same_place : (a b : Pt) (r s : Spot) → a ≢ b → IsBefore r s → Same (spot_at a b r) (spot_at a b s) → ⊥
not_same_place a b r s differ before same =
    let d : pos 0 <ℤ (pos s.of_b *ℤ pos r.of_a -ℤ pos r.of_b *ℤ pos s.of_a) =
    order_z (r.of_b * s.of_a) (s.of_b * r.of_a) before in
    differ (ap₂ (λ (x y : ℤ). point x y)
    (≡_of_mul a.x b.x (pos s.of_b *ℤ pos r.of_a -ℤ pos r.of_b *ℤ pos s.of_a) d
    (apart_z a.x b.x (pos r.of_a) (pos r.of_b) (pos s.of_a) (pos s.of_b) same.0))
    (≡_of_mul a.y b.y (pos s.of_b *ℤ pos r.of_a -ℤ pos r.of_b *ℤ pos s.of_a) d
    (apart_z a.y b.y (pos r.of_a) (pos r.of_b) (pos s.of_a) (pos s.of_b) same.1)))
  where
    point : ℤ → ℤ → Pt
    point x y = record { x = x; y = y }

-- ---- mixes of one corner
scaled : (k a w : ℤ) → (k *ℤ a +ℤ pos 0) *ℤ w ≡ a *ℤ (k *ℤ w +ℤ pos 0)
scaled = solve 3 (λ k a w. (k ⊗ a ⊕ num (pos 0)) ⊗ w ≐ a ⊗ (k ⊗ w ⊕ num (pos 0))) tt

scaled_twice : (k l a w : ℤ) → (k *ℤ a +ℤ (l *ℤ a +ℤ pos 0)) *ℤ w ≡ a *ℤ (k *ℤ w +ℤ (l *ℤ w +ℤ pos 0))
scaled_twice = solve 4 (λ k l a w. (k ⊗ a ⊕ (l ⊗ a ⊕ num (pos 0))) ⊗ w ≐ a ⊗ (k ⊗ w ⊕ (l ⊗ w ⊕ num (pos 0)))) tt

one-w : (k w : ℤ) → pos 0 <ℤ k → pos 0 <ℤ w → pos 0 <ℤ (k *ℤ w +ℤ pos 0)
one-w = follows 2 (λ k w. num (pos 0) ≺ k ⇒ num (pos 0) ≺ w ⇒ num (pos 0) ≺ k ⊗ w
    ⊕ num (pos 0) because over 0 ⊠ gap 1 ⊞ over 1) tt

at_one : (p c : Point) → pos 0 <ℤ c.w → IsMix p (c ∷ []) → Same p c
at_one p c hc m = go m.0 m.1 m.2 m.3
  where
    go : (ks : List ℕ) → length ks ≡ 1 → 0 < sum ks → Same p (weighted_sum ks (c ∷ [])) → Same p c
    go (k ∷ []) e h s = same_trans p (weighted_sum (k ∷ []) (c ∷ [])) c (one-w (pos k) c.w (one_positive k h) hc) s
        (scaled (pos k) c.x c.w, scaled (pos k) c.y c.w)
    go ks e h s = absurd (omega arith)

pub at_twice : (p c : Point) → pos 0 <ℤ c.w → IsMix p (c ∷ c ∷ []) → Same p c
at_twice p c hc m =
    let i = between_weights c c p m in
    same_trans p (mixed i.k i.l c c) c (between-w c c p i hc hc) i.same
    (scaled_twice (pos i.k) (pos i.l) c.x c.w, scaled_twice (pos i.k) (pos i.l) c.y c.w)

-- ---- a value that is 0 at two spots is 0 at both ends
zero_u : (u v r q s t : ℤ) → r *ℤ u +ℤ q *ℤ v ≡ pos 0 → s *ℤ u +ℤ t *ℤ v ≡ pos 0
    → u *ℤ (t *ℤ r -ℤ q *ℤ s) ≡ pos 0 *ℤ (t *ℤ r -ℤ q *ℤ s)
zero_u = follows 6 (λ u v r q s t. r ⊗ u ⊕ q ⊗ v ≐ num (pos 0) ⇒ s ⊗ u ⊕ t ⊗ v ≐ num (pos 0) ⇒ u ⊗ (t ⊗ r ⊖ q ⊗ s)
    ≐ num (pos 0) ⊗ (t ⊗ r ⊖ q ⊗ s) because eqn 0 t ⊞ eqn 1 (neg q)) tt

zero_v : (u v r q s t : ℤ) → r *ℤ u +ℤ q *ℤ v ≡ pos 0 → s *ℤ u +ℤ t *ℤ v ≡ pos 0
    → v *ℤ (t *ℤ r -ℤ q *ℤ s) ≡ pos 0 *ℤ (t *ℤ r -ℤ q *ℤ s)
zero_v = follows 6 (λ u v r q s t. r ⊗ u ⊕ q ⊗ v ≐ num (pos 0) ⇒ s ⊗ u ⊕ t ⊗ v ≐ num (pos 0) ⇒ v ⊗ (t ⊗ r ⊖ q ⊗ s)
    ≐ num (pos 0) ⊗ (t ⊗ r ⊖ q ⊗ s) because eqn 0 (neg s) ⊞ eqn 1 r) tt

zero_all : (u v s t : ℤ) → u ≡ pos 0 → v ≡ pos 0 → s *ℤ u +ℤ t *ℤ v ≡ pos 0
zero_all = follows 4 (λ u v s t. u ≐ num (pos 0) ⇒ v ≐ num (pos 0) ⇒ s ⊗ u ⊕ t ⊗ v
    ≐ num (pos 0) because eqn 0 s ⊞ eqn 1 t) tt

-- the segment runs along the line through c and d, since two of its spots are on it
record IsAlong (a b : Pt) (c d : Point) : Type 0 where
  zero : (x : Spot) → turn_of c d (spot_at a b x) ≡ pos 0

along_line : (a b : Pt) (c d : Point) (r s : Spot) → pos 0 <ℤ c.w → pos 0 <ℤ d.w → IsBefore r s
    → IsMix (spot_at a b r) (c ∷ d ∷ []) → IsMix (spot_at a b s) (c ∷ d ∷ []) → IsAlong a b c d
along_line a b c d r s hc hd before mr ms =
    let u = turn_of c d (whole a) in let v = turn_of c d (whole b) in
    let e : pos r.of_a *ℤ u +ℤ pos r.of_b *ℤ v ≡ pos 0 = turn_mixed c d (whole a) (whole b) r.of_a r.of_b
    ∙ turn_on_side c d (spot_at a b r) hc hd mr in
    let f : pos s.of_a *ℤ u +ℤ pos s.of_b *ℤ v ≡ pos 0 = turn_mixed c d (whole a) (whole b) s.of_a s.of_b
    ∙ turn_on_side c d (spot_at a b s) hc hd ms in
    let det = pos s.of_b *ℤ pos r.of_a -ℤ pos r.of_b *ℤ pos s.of_a in
    let h : pos 0 <ℤ det = order_z (r.of_b * s.of_a) (s.of_b * r.of_a) before in
    let zu : u ≡ pos 0 = ≡_of_mul u (pos 0) det h
    (zero_u u v (pos r.of_a) (pos r.of_b) (pos s.of_a) (pos s.of_b) e f) in
    let zv : v ≡ pos 0 = ≡_of_mul v (pos 0) det h
    (zero_v u v (pos r.of_a) (pos r.of_b) (pos s.of_a) (pos s.of_b) e f) in
    record {
      zero = λ x. sym (turn_mixed c d (whole a) (whole b) x.of_a x.of_b)
          ∙ zero_all u v (pos x.of_a) (pos x.of_b) zu zv;
    }

-- ---- a point of a triangle with turn 0 at a side is on it
negated_zero : (s t : ℤ) → s ≡ neg_ℤ t → t ≡ pos 0 → s ≡ pos 0
negated_zero = follows 2 (λ s t. s ≐ neg t ⇒ t ≐ num (pos 0) ⇒ s
    ≐ num (pos 0) because eqn 0 (num (pos 1)) ⊞ eqn 1 (neg (num (pos 1)))) tt

-- of three corners with positive turn, two on whose line p is
on_side : (i j k c d p : Point) → pos 0 <ℤ i.w → pos 0 <ℤ j.w → pos 0 <ℤ p.w → pos 0 <ℤ turn_of i j k
    → turn_of i j p ≡ pos 0 → pos 0 ≤ℤ turn_of j k p → pos 0 ≤ℤ turn_of k i p → (c ≡ i) → (d ≡ j) → IsMix p (c ∷ d ∷ [])
on_side i j k c d p hi hj hp t z tj tk e f = grind (arith, mix_of_side)

on_line : (tin : Triangulation) (i j k c d : ℕ) (p : Point) → pos 0 <ℤ p.w
    → pos 0 <ℤ turn_of_three (places tin Source (i ∷ j ∷ k ∷ [])) → c ≢ d → (i ≡ c) ⊎ ((j ≡ c) ⊎ (k ≡ c))
    → (i ≡ d) ⊎ ((j ≡ d) ⊎ (k ≡ d))
    → turn_of (place Source (corner_at tin c)) (place Source (corner_at tin d)) p ≡ pos 0
    → IsMix p (places tin Source (i ∷ j ∷ k ∷ [])) → IsMix p (places tin Source (c ∷ d ∷ []))
on_line tin i j k c d p hp t differ is_c is_d z m =
    go is_c is_d (turns_of_mix (at i) (at j) (at k) p one one one hp t m)
  where
    at : ℕ → Point
    at n = place Source (corner_at tin n)

    t' : pos 0 <ℤ turn_of (place Source (corner_at tin j)) (place Source (corner_at tin k))
        (place Source (corner_at tin i))
    t' = subst (λ (n : ℤ). pos 0 <ℤ n) (turn_cycle (place Source (corner_at tin i)) (place Source (corner_at tin j))
        (place Source (corner_at tin k))) t

    t'' : pos 0 <ℤ turn_of (place Source (corner_at tin k)) (place Source (corner_at tin i))
        (place Source (corner_at tin j))
    t'' = subst (λ (n : ℤ). pos 0 <ℤ n) (turn_cycle (place Source (corner_at tin j)) (place Source (corner_at tin k))
        (place Source (corner_at tin i))) t'

    same : (m n : ℕ) → m ≡ n → place Source (corner_at tin n) ≡ place Source (corner_at tin m)
    same m n e = ap (λ (l : ℕ). place Source (corner_at tin l)) (sym e)

    -- the side from m to n, where these are c and d, or d and c
    there : (m n l : ℕ) → pos 0 <ℤ turn_of (place Source (corner_at tin m)) (place Source (corner_at tin n))
        (place Source (corner_at tin l)) → pos 0
        ≤ℤ turn_of (place Source (corner_at tin n)) (place Source (corner_at tin l)) p
        → pos 0 ≤ℤ turn_of (place Source (corner_at tin l)) (place Source (corner_at tin m)) p
        → m ≡ c → n ≡ d → IsMix p (places tin Source (c ∷ d ∷ []))
    there m n l u v w e f =
        on_side (place Source (corner_at tin m)) (place Source (corner_at tin n)) (place Source (corner_at tin l))
        (place Source (corner_at tin c)) (place Source (corner_at tin d)) p one one hp u
        (subst (λ (x : ℕ). turn_of (place Source (corner_at tin x)) (place Source (corner_at tin n)) p ≡ pos 0) (sym e)
        (subst (λ (x : ℕ). turn_of (place Source (corner_at tin c)) (place Source (corner_at tin x)) p ≡ pos 0)
        (sym f) z))
        v w (same m c e) (same n d f)

    back : (m n l : ℕ) → pos 0 <ℤ turn_of (place Source (corner_at tin m)) (place Source (corner_at tin n))
        (place Source (corner_at tin l)) → pos 0
        ≤ℤ turn_of (place Source (corner_at tin n)) (place Source (corner_at tin l)) p
        → pos 0 ≤ℤ turn_of (place Source (corner_at tin l)) (place Source (corner_at tin m)) p
        → m ≡ d → n ≡ c → IsMix p (places tin Source (c ∷ d ∷ []))
    back m n l u v w e f =
        mix_swapped p (place Source (corner_at tin d)) (place Source (corner_at tin c))
        (on_side (place Source (corner_at tin m)) (place Source (corner_at tin n)) (place Source (corner_at tin l))
        (place Source (corner_at tin d)) (place Source (corner_at tin c)) p one one hp u
        (subst (λ (x : ℕ). turn_of (place Source (corner_at tin x)) (place Source (corner_at tin n)) p ≡ pos 0) (sym e)
        (subst (λ (x : ℕ). turn_of (place Source (corner_at tin d)) (place Source (corner_at tin x)) p ≡ pos 0) (sym f)
        (negated_zero (turn_of (place Source (corner_at tin d)) (place Source (corner_at tin c)) p)
        (turn_of (place Source (corner_at tin c)) (place Source (corner_at tin d)) p)
        (turn_swap (place Source (corner_at tin d)) (place Source (corner_at tin c)) p) z)))
        v w (same m d e) (same n c f))

    go : (i ≡ c) ⊎ ((j ≡ c) ⊎ (k ≡ c)) → (i ≡ d) ⊎ ((j ≡ d) ⊎ (k ≡ d))
        → (pos 0 ≤ℤ turn_of (place Source (corner_at tin i)) (place Source (corner_at tin j)) p)
        × (pos 0 ≤ℤ turn_of (place Source (corner_at tin j)) (place Source (corner_at tin k)) p)
        × (pos 0 ≤ℤ turn_of (place Source (corner_at tin k)) (place Source (corner_at tin i)) p)
        → IsMix p (places tin Source (c ∷ d ∷ []))
    go (inl e) (inl f) r = absurd (differ (sym e ∙ f))
    go (inl e) (inr (inl f)) r = there i j k t r.1 r.2 e f
    go (inl e) (inr (inr f)) r = back k i j t'' r.0 r.1 f e
    go (inr (inl e)) (inl f) r = back i j k t r.1 r.2 f e
    go (inr (inl e)) (inr (inl f)) r = absurd (differ (sym e ∙ f))
    go (inr (inl e)) (inr (inr f)) r = there j k i t' r.2 r.0 e f
    go (inr (inr e)) (inl f) r = there k i j t'' r.0 r.1 e f
    go (inr (inr e)) (inr (inl f)) r = back j k i t' r.2 r.0 f e
    go (inr (inr e)) (inr (inr f)) r = absurd (differ (sym e ∙ f))

on_line_of : (tin : Triangulation) (ns : List ℕ) (c d : ℕ) (p : Point) → pos 0 <ℤ p.w
    → pos 0 <ℤ turn_of_three (places tin Source ns) → c ≢ d → has ns c ≡ true → has ns d ≡ true
    → turn_of (place Source (corner_at tin c)) (place Source (corner_at tin d)) p ≡ pos 0
    → IsMix p (places tin Source ns) → IsMix p (places tin Source (c ∷ d ∷ []))
on_line_of tin (i ∷ j ∷ k ∷ []) c d p hp t differ hc hd z m =
    on_line tin i j k c d p hp t differ (one_of_three i j k c hc) (one_of_three i j k d hd) z m
on_line_of tin ns c d p hp t differ hc hd z m = absurd t.lt

-- ---- two triangles with two common spots
no_mix : (p : Point) → IsMix p [] → ⊥
no_mix p m = go m.0 m.1 m.2
  where
    go : (ks : List ℕ) → length ks ≡ 0 → 0 < sum ks → ⊥
    go [] e h = absurd (omega arith)
    go (k ∷ ks) e h = absurd (omega arith)

-- the spots of the one are spots of the other, where cs are their common corners
carried_over : (tin : Triangulation) (a b : Pt) (ts us cs : List ℕ) (r s x : Spot) → a ≢ b → IsSpot r → IsSpot s
    → IsSpot x → IsBefore r s → length cs ≤ 2 → HasAll ts cs → HasAll us cs
    → pos 0 <ℤ turn_of_three (places tin Source ts)
    → IsMix (spot_at a b r) (places tin Source cs) → IsMix (spot_at a b s) (places tin Source cs)
    → IsMix (spot_at a b x) (places tin Source ts) → IsMix (spot_at a b x) (places tin Source us)
carried_over tin a b ts us [] r s x differ hr hs hx before few in_t in_u t mr ms m = absurd (no_mix (spot_at a b r) mr)
carried_over tin a b ts us (c ∷ []) r s x differ hr hs hx before few in_t in_u t mr ms m =
    let q = place Source (corner_at tin c) in
    absurd (not_same_place a b r s differ before
    (same_trans (spot_at a b r) q (spot_at a b s) one (at_one (spot_at a b r) q one mr)
    (same_sym (spot_at a b s) q (at_one (spot_at a b s) q one ms))))
carried_over tin a b ts us (c ∷ d ∷ e ∷ cs) r s x differ hr hs hx before few in_t in_u t mr ms m = absurd (omega arith)
carried_over tin a b ts us (c ∷ d ∷ []) r s x differ hr hs hx before few in_t in_u t mr ms m = go (eqb_tells c d)
  where
    go : ((eqb c d ≡ true) × (c ≡ d)) ⊎ ((eqb c d ≡ false) × (c ≢ d)) → IsMix (spot_at a b x) (places tin Source us)
    go (inl f) =
        let twice = λ (y : Spot) (h : IsMix (spot_at a b y) (places tin Source (c ∷ d ∷ []))). at_twice (spot_at a b y)
        (place Source (corner_at tin c)) one (subst
        (λ (n : ℕ). IsMix (spot_at a b y) (places tin Source (c ∷ n ∷ []))) (sym f.1) h) in
        absurd (not_same_place a b r s differ before
        (same_trans (spot_at a b r) (place Source (corner_at tin c)) (spot_at a b s) one (twice r mr)
        (same_sym (spot_at a b s) (place Source (corner_at tin c)) (twice s ms))))
    go (inr f) =
        let line = along_line a b (place Source (corner_at tin c)) (place Source (corner_at tin d)) r s one one before
        mr ms in
        in_more tin us (c ∷ d ∷ []) (spot_at a b x) in_u
        (on_line_of tin ts c d (spot_at a b x) (spot-w a b x hx) t f.1 in_t.0 (in_t.1).0 (line.zero x) m)

-- of two different triangles
other_has : (tin : Triangulation) (a b : Pt) (t u : ℕ) (r s x : Spot) → IsSound tin → a ≢ b → t ≢ u
    → t < length tin.triangles → u < length tin.triangles → IsShared tin a b t r → IsShared tin a b t s
    → IsShared tin a b u r → IsShared tin a b u s
    → IsBefore r s → IsShared tin a b t x → IsShared tin a b u x
other_has tin a b t u r s x sound differ two ht hu tr ts ur us before h =
    let fit = sound.fit Source t u two ht hu in
    let cs = common_of tin t u in
    let mr = fit.meet (spot_at a b r) (spot-w a b r tr.some) tr.inside ur.inside in
    let ms = fit.meet (spot_at a b s) (spot-w a b s ts.some) ts.inside us.inside in
    let in_t = common_in_first (numbers_of tin t) (numbers_of tin u) in
    let in_u = common_in_second (numbers_of tin t) (numbers_of tin u) in
    record {
      some = h.some;
      inside = carried_over tin a b (numbers_of tin t) (numbers_of tin u) cs r s x differ tr.some
          ts.some h.some before fit.two_common in_t in_u (sound.positive Source t ht) mr ms h.inside;
    }

-- of any two triangles
pub same_spots : (tin : Triangulation) (a b : Pt) (t u : ℕ) (r s x : Spot) → IsSound tin → a ≢ b
    → t < length tin.triangles → u < length tin.triangles → IsShared tin a b t r → IsShared tin a b t s
    → IsShared tin a b u r → IsShared tin a b u s → IsBefore r s
    → IsShared tin a b t x → IsShared tin a b u x
same_spots tin a b t u r s x sound differ ht hu tr ts ur us before h = go (one_or_two t u)
  where
    one_or_two : (t u : ℕ) → (t ≡ u) ⊎ (t ≢ u)
    one_or_two t u = grind arith

    go : (t ≡ u) ⊎ (t ≢ u) → IsShared tin a b u x
    go (inl e) = subst (λ (n : ℕ). IsShared tin a b n x) e h
    go (inr two) = other_has tin a b t u r s x sound differ two ht hu tr ts ur us before h
