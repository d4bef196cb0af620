-- Two triangles with their first corner in common: they have another point in common exactly where the side of the one
-- that lies opposite has a point of the other. From the common corner through another common point runs a ray. It
-- comes to two opposite sides, and the first one has a point of both triangles.
use Rattle.std.proofs.Common.{◌≡◌, ◌⊎◌, inl, inr, ℕ, ◌<◌, ℤ, pos, ◌+ℤ◌, ◌-ℤ◌, ◌*ℤ◌, ◌≤ℤ◌, ◌<ℤ◌, negsuc, List, [], ◌∷◌}
use Rattle.std.proofs.Common.{length, sum, sym, ◌∙◌, ap, subst, refl, arith}
use Rattle.std.proofs.lemmas.Int.{ints}
use Rattle.integer_ring.proofs.Ring.{num, neg, ◌⊕◌, ◌⊖◌, ◌⊗◌}
use Rattle.integer_ring.proofs.Order.{≤_or_>, ≤_of_<, nonneg_pos, to_nat}
use Rattle.integer_ring.proofs.Signs.{≡_of_mul}
use Rattle.integer_ring.proofs.Claims.{◌≐◌, ◌≼◌, ◌≺◌, never, gap, over, eqn, ◌⊞◌, ◌⊠◌, ◌because◌, ◌⇒◌, follows}
use Rattle.plane_base.specs.Plane.{Point, Same, turn_of, weighted_sum, IsMix}
use Rattle.plane_base.proofs.MixLaws.Points.{turn, plus, nothing, follows_at, solve_at}
use Rattle.plane_base.proofs.MixLaws.Turns.{turn_cycle, turn_same}
use Rattle.plane_base.proofs.TriangleLaws.InTriangle.{turns_of_mix, mix_of_turns}
use Rattle.plane_base.proofs.MixLaws.Mixes.{turn_on_side}
use Rattle.tin_check.specs.CommonPoints.{HaveCommonPoint, MeetOnlyIn}
use Rattle.tin_check.proofs.TriangleTests.Places.{side_bc_in}
use Rattle.plain_laws.proofs.Weights.{two_some, one_positive}

abbrev NonNeg : ℤ → Type 0
NonNeg z = pos 0 ≤ℤ z

-- ---- the point where the ray comes to the opposite side: with the weights l and m of p at b and c
-- Its turns with a side of the other triangle, from those of p. Its weight at the common corner a is k
turn_ahead : (a b c e f p : Point) (l m : ℤ) → turn_of c a p ≡ l → turn_of a b p ≡ m
    → turn_of e f (record {
      x = l *ℤ b.x +ℤ (m *ℤ c.x +ℤ pos 0);
      y = l *ℤ b.y +ℤ (m *ℤ c.y +ℤ pos 0);
      w =
          l *ℤ b.w +ℤ (m *ℤ c.w +ℤ pos 0);
    }) ≡ turn_of a b c *ℤ turn_of e f p -ℤ turn_of b c p *ℤ turn_of e f a
turn_ahead =
    follows_at 6 2 (λ a b c e f p l m. turn c a p ≐ l ⇒ turn a b p ≐ m
    ⇒ turn e f (plus l b (plus m c nothing)) ≐ turn a b c ⊗ turn e f p ⊖ turn b c p ⊗ turn e f a
    because eqn 0 (neg (turn e f b)) ⊞ eqn 1 (neg (turn e f c))) tt

ahead-w : (v w l m : ℤ) → pos 0 <ℤ v → pos 0 <ℤ w → pos 0 ≤ℤ l → pos 0 ≤ℤ m → pos 0 <ℤ (l +ℤ m)
    → pos 0 <ℤ (l *ℤ v +ℤ (m *ℤ w +ℤ pos 0))
ahead-w =
    follows 4 (λ v w l m. num (pos 0) ≺ v ⇒ num (pos 0) ≺ w ⇒ num (pos 0) ≼ l ⇒ num (pos 0) ≼ m ⇒ num (pos 0) ≺ l ⊕ m
    ⇒ num (pos 0) ≺ l ⊗ v ⊕ (m ⊗ w ⊕ num (pos 0)) because gap 2 ⊠ over 0 ⊞ gap 3 ⊠ over 1 ⊞ over 4) tt

-- d·u - k·v is not negative, where v is 0 or where k·v is at most d·u
not_below : (d u k v : ℤ) → (k *ℤ v) ≤ℤ (u *ℤ d) → pos 0 ≤ℤ (d *ℤ u -ℤ k *ℤ v)
not_below = follows 4 (λ d u k v. k ⊗ v ≼ u ⊗ d ⇒ num (pos 0) ≼ d ⊗ u ⊖ k ⊗ v because gap 0) tt

not_below_zero : (d u k v : ℤ) → pos 0 <ℤ d → pos 0 ≤ℤ u → v ≡ pos 0 → pos 0 ≤ℤ (d *ℤ u -ℤ k *ℤ v)
not_below_zero = follows 4 (λ d u k v. num (pos 0) ≺ d ⇒ num (pos 0) ≼ u ⇒ v ≐ num (pos 0) ⇒ num (pos 0) ≼ d ⊗ u ⊖ k
    ⊗ v because gap 0 ⊠ gap 1 ⊞ eqn 2 k) tt

turn_back : (a f : Point) → turn_of a f a ≡ pos 0
turn_back = solve_at 2 0 (λ a f. turn a f a ≐ num (pos 0)) tt

turn_there : (a g : Point) → turn_of g a a ≡ pos 0
turn_there = solve_at 2 0 (λ a g. turn g a a ≐ num (pos 0)) tt

-- the ray comes to the side bc of the first triangle no later than to the side fg of the second: then bc has a point of
-- the second
first_side : (a b c f g p : Point) → pos 0 <ℤ a.w → pos 0 <ℤ b.w → pos 0 <ℤ c.w → pos 0 <ℤ f.w → pos 0 <ℤ g.w
    → pos 0 <ℤ turn_of a b c → pos 0 <ℤ turn_of a f g
    → pos 0 ≤ℤ turn_of c a p → pos 0 ≤ℤ turn_of a b p → pos 0 <ℤ (turn_of c a p +ℤ turn_of a b p)
    → pos 0 ≤ℤ turn_of a f p → pos 0 ≤ℤ turn_of g a p
    → (turn_of b c p *ℤ turn_of f g a) ≤ℤ (turn_of f g p *ℤ turn_of a b c)
    → HaveCommonPoint (b ∷ c ∷ []) (a ∷ f ∷ g ∷ [])
first_side a b c f g p ha hb hc hf hg d d' tl tm some tf tg order =
    go (to_nat (turn_of c a p) tl) (to_nat (turn_of a b p) tm)
  where
    go : (l : ℕ) × (turn_of c a p ≡ pos l) → (m : ℕ) × (turn_of a b p ≡ pos m)
        → HaveCommonPoint (b ∷ c ∷ []) (a ∷ f ∷ g ∷ [])
    go l m =
        let some' : pos 0 <ℤ (pos l.0 +ℤ pos m.0) =
        subst (λ (z : ℤ). pos 0 <ℤ (pos l.0 +ℤ z)) m.1
        (subst (λ (z : ℤ). pos 0 <ℤ (z +ℤ turn_of a b p)) l.1 some) in
        let q = weighted_sum (l.0 ∷ m.0 ∷ []) (b ∷ c ∷ []) in
        let w : pos 0 <ℤ q.w = ahead-w b.w c.w (pos l.0) (pos m.0) hb hc (nonneg_pos l.0) (nonneg_pos m.0) some' in
        let at_fg : pos 0 ≤ℤ turn_of f g q = subst NonNeg (sym (turn_ahead a b c f g p (pos l.0) (pos m.0) l.1 m.1))
        (not_below (turn_of a b c) (turn_of f g p) (turn_of b c p) (turn_of f g a) order) in
        let at_af : pos 0 ≤ℤ turn_of a f q = subst NonNeg (sym (turn_ahead a b c a f p (pos l.0) (pos m.0) l.1 m.1))
        (not_below_zero (turn_of a b c) (turn_of a f p) (turn_of b c p) (turn_of a f a) d tf (turn_back a f)) in
        let at_ga : pos 0 ≤ℤ turn_of g a q = subst NonNeg (sym (turn_ahead a b c g a p (pos l.0) (pos m.0) l.1 m.1))
        (not_below_zero (turn_of a b c) (turn_of g a p) (turn_of b c p) (turn_of g a a) d tg (turn_there a g)) in (
          q,
          w,
          (l.0 ∷ m.0 ∷ [], refl, two_some l.0 m.0 some', (refl, refl)),
          mix_of_turns a f g q ha hf hg w d' at_af
              at_fg at_ga,
        )

-- ---- a point with no weight at b and c is at the corner a
at_corner : (a b c p : Point) → pos 0 <ℤ turn_of a b c → turn_of c a p ≡ pos 0 → turn_of a b p ≡ pos 0 → Same p a
at_corner a b c p d el em = (
  ≡_of_mul (p.x *ℤ a.w) (a.x *ℤ p.w) (turn_of a b c) d
      (follows_at 4 0 (λ a b c p. turn c a p ≐ num (pos 0) ⇒ turn a b p ≐ num (pos 0) ⇒ p.x ⊗ a.w ⊗ turn a b c ≐ a.x
      ⊗ p.w ⊗ turn a b c
      because eqn 0 (b.x ⊗ a.w ⊖ a.x ⊗ b.w) ⊞ eqn 1 (c.x ⊗ a.w ⊖ a.x ⊗ c.w)) tt a b c p el em),
  ≡_of_mul (p.y *ℤ a.w) (a.y *ℤ p.w) (turn_of a b c) d
      (follows_at 4 0 (λ a b c p. turn c a p ≐ num (pos 0) ⇒ turn a b p ≐ num (pos 0) ⇒ p.y ⊗ a.w ⊗ turn a b c ≐ a.y
      ⊗ p.w ⊗ turn a b c
      because eqn 0 (b.y ⊗ a.w ⊖ a.y ⊗ b.w) ⊞ eqn 1 (c.y ⊗ a.w ⊖ a.y ⊗ c.w)) tt a b c p el em),
)

alone : (x w a b : ℤ) → x *ℤ b ≡ a *ℤ w → x *ℤ (pos 1 *ℤ b +ℤ pos 0) ≡ (pos 1 *ℤ a +ℤ pos 0) *ℤ w
alone = follows 4 (λ x w a b. x ⊗ b ≐ a ⊗ w ⇒ x ⊗ (num (pos 1) ⊗ b ⊕ num (pos 0)) ≐ (num (pos 1) ⊗ a ⊕ num (pos 0))
    ⊗ w because eqn 0 (num (pos 1))) tt

corner_mix : (p a : Point) → Same p a → IsMix p (a ∷ [])
corner_mix p a s = (1 ∷ [], refl, omega arith, (alone p.x p.w a.x a.w s.0, alone p.y p.w a.y a.w s.1))

both_zero : (l m : ℤ) → pos 0 ≤ℤ l → pos 0 ≤ℤ m → (l +ℤ m) ≤ℤ pos 0 → (l ≡ pos 0) × (m ≡ pos 0)
both_zero l m h k j = (omega (arith, ints), omega (arith, ints))

pub corner_of : (a b c p : Point) → pos 0 <ℤ turn_of a b c → pos 0 ≤ℤ turn_of c a p → pos 0 ≤ℤ turn_of a b p
    → (turn_of c a p +ℤ turn_of a b p) ≤ℤ pos 0 → IsMix p (a ∷ [])
corner_of a b c p d tl tm h =
    let z = both_zero (turn_of c a p) (turn_of a b p) tl tm h in corner_mix p a (at_corner a b c p d z.0 z.1)

-- ---- no point of an opposite side is in the other triangle: then the corner is the one common point
pub meet_at_corner : (a b c f g : Point) → pos 0 <ℤ a.w → pos 0 <ℤ b.w → pos 0 <ℤ c.w → pos 0 <ℤ f.w → pos 0 <ℤ g.w
    → pos 0 <ℤ turn_of a b c → pos 0 <ℤ turn_of a f g
    → (HaveCommonPoint (b ∷ c ∷ []) (a ∷ f ∷ g ∷ []) → ⊥) → (HaveCommonPoint (f ∷ g ∷ []) (a ∷ b ∷ c ∷ []) → ⊥)
    → MeetOnlyIn (a ∷ b ∷ c ∷ []) (a ∷ f ∷ g ∷ []) (a ∷ [])
meet_at_corner a b c f g ha hb hc hf hg d d' no_bc no_fg p hp in_t in_u =
    let t = turns_of_mix a b c p ha hb hc hp d in_t in
    let u = turns_of_mix a f g p ha hf hg hp d' in_u in
    go t u (≤_or_> (turn_of c a p +ℤ turn_of a b p) (pos 0)) (≤_or_> (turn_of g a p +ℤ turn_of a f p) (pos 0))
    (≤_or_> (turn_of b c p *ℤ turn_of f g a) (turn_of f g p *ℤ turn_of a b c))
  where
    -- the turn of a triangle from its second corner on
    second : (e h : Point) → turn_of a e h ≡ turn_of e h a
    second e h = turn_cycle a e h

    go : (pos 0 ≤ℤ turn_of a b p) × (pos 0 ≤ℤ turn_of b c p) × (pos 0 ≤ℤ turn_of c a p)
        → (pos 0 ≤ℤ turn_of a f p) × (pos 0 ≤ℤ turn_of f g p) × (pos 0 ≤ℤ turn_of g a p)
        → ((turn_of c a p +ℤ turn_of a b p) ≤ℤ pos 0) ⊎ (pos 0 <ℤ (turn_of c a p +ℤ turn_of a b p))
        → ((turn_of g a p +ℤ turn_of a f p) ≤ℤ pos 0) ⊎ (pos 0 <ℤ (turn_of g a p +ℤ turn_of a f p))
        → ((turn_of b c p *ℤ turn_of f g a) ≤ℤ (turn_of f g p *ℤ turn_of a b c))
        ⊎ ((turn_of f g p *ℤ turn_of a b c) <ℤ (turn_of b c p *ℤ turn_of f g a)) → IsMix p (a ∷ [])
    go t u (inl z) y o = corner_of a b c p d t.2 t.0 z
    go t u (inr h) (inl z) o = corner_of a f g p d' u.2 u.0 z
    go t u (inr h) (inr k) (inl o) = absurd (no_bc (first_side a b c f g p ha hb hc hf hg d d' t.2 t.0 h u.0 u.2 o))
    go t u (inr h) (inr k) (inr o) =
        absurd (no_fg (first_side a f g b c p ha hf hg hb hc d' d u.2 u.0 k t.0 t.2
        (subst (λ (z : ℤ). (turn_of f g p *ℤ z) ≤ℤ (turn_of b c p *ℤ turn_of a f g)) (second b c)
        (subst (λ (z : ℤ). (turn_of f g p *ℤ turn_of a b c) ≤ℤ (turn_of b c p *ℤ z)) (sym (second f g))
        (≤_of_< (turn_of f g p *ℤ turn_of a b c) (turn_of b c p *ℤ turn_of f g a) o)))))

-- ---- and where one is, it is a common point that is not the corner
one_turn : (a b c : Point) (k : ℤ) → turn_of b c
    (record { x = k *ℤ a.x +ℤ pos 0; y = k *ℤ a.y +ℤ pos 0; w = k *ℤ a.w +ℤ pos 0 }) ≡ k *ℤ turn_of a b c
one_turn = solve_at 3 1 (λ a b c k. turn b c (plus k a nothing) ≐ k ⊗ turn a b c) tt

not_zero : (v t p k d : ℤ) → v *ℤ t ≡ p *ℤ (k *ℤ d) → t ≡ pos 0 → pos 0 <ℤ p → pos 0 <ℤ k → pos 0 <ℤ d → ⊥
not_zero =
    follows 5 (λ v t p k d. v ⊗ t ≐ p ⊗ (k ⊗ d) ⇒ t
    ≐ num (pos 0) ⇒ num (pos 0) ≺ p ⇒ num (pos 0) ≺ k ⇒ num (pos 0) ≺ d ⇒ never
    because over 2 ⊠ gap 3 ⊠ gap 4 ⊞ over 3 ⊠ gap 4 ⊞ over 4 ⊞ eqn 0 (num (negsuc 0)) ⊞ eqn 1 v) tt

-- no point of the side bc is a mix of the corner a alone
pub not_corner : (a b c p : Point) → pos 0 <ℤ p.w → pos 0 <ℤ b.w → pos 0 <ℤ c.w → pos 0 <ℤ turn_of a b c
    → IsMix p (b ∷ c ∷ []) → IsMix p (a ∷ []) → ⊥
not_corner a b c p hp hb hc d on at = go at.0 at.1 at.2 at.3
  where
    go : (ks : List ℕ) → length ks ≡ 1 → 0 < sum ks → Same p (weighted_sum ks (a ∷ [])) → ⊥
    go [] e h s = absurd (omega arith)
    go (k ∷ l ∷ ks) e h s = absurd (omega arith)
    go (k ∷ []) e h s =
        let q = weighted_sum (k ∷ []) (a ∷ []) in
        not_zero q.w (turn_of b c p) p.w (pos k) (turn_of a b c)
        (turn_same b c p q s ∙ ap (λ (z : ℤ). p.w *ℤ z) (one_turn a b c (pos k))) (turn_on_side b c p hb hc on) hp
        (one_positive k h) d

pub not_only_at_corner : (a b c : Point) (us : List Point) → pos 0 <ℤ b.w → pos 0 <ℤ c.w → pos 0 <ℤ turn_of a b c
    → HaveCommonPoint (b ∷ c ∷ []) us → MeetOnlyIn (a ∷ b ∷ c ∷ []) us (a ∷ []) → ⊥
not_only_at_corner a b c us hb hc d h only =
    not_corner a b c h.0 h.1 hb hc d h.2 (only h.0 h.1 (side_bc_in h.0 a b c h.2) h.3)
