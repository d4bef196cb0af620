-- Two triangles with a common point: a corner of the one is in the other, or a point of the one is on a side of the
-- other.
use Rattle.std.proofs.Common.{◌≡◌, ◌⊎◌, inl, inr, ℕ, ℤ, pos, ◌+ℤ◌, ◌*ℤ◌, ◌≤ℤ◌, ◌<ℤ◌, [], ◌∷◌, sym, ◌∙◌, subst, refl}
use Rattle.integer_ring.proofs.Ring.{num, ◌⊕◌, ◌⊖◌, ◌⊗◌}
use Rattle.integer_ring.proofs.Order.{≤_or_>, ≤_of_<, nonneg_pos, to_nat}
use Rattle.integer_ring.proofs.Claims.{◌≐◌, ◌≼◌, ◌≺◌, never, none, gap, over, eqn, ◌⊞◌, ◌⊠◌, ◌because◌, ◌otherwise◌}
use Rattle.integer_ring.proofs.Claims.{◌⇒◌, follows}
use Rattle.plane_base.specs.Plane.{Point, turn_of, IsMix}
use Rattle.plane_base.proofs.MixLaws.Points.{turn, plus, nothing, follows_at, solve_at}
use Rattle.plane_base.proofs.MixLaws.Turns.{turn_cycle}
use Rattle.plane_base.proofs.TriangleLaws.InTriangle.{turns_of_mix, mix_of_turns}
use Rattle.plane_base.proofs.TriangleLaws.Exit.{Exit, exit}
use Rattle.plain_laws.proofs.Weights.{two_some}

-- x·p + y·q
abbrev pub blend : Point → Point → ℤ → ℤ → Point
blend p q x y = record { x = x *ℤ p.x +ℤ y *ℤ q.x; y = x *ℤ p.y +ℤ y *ℤ q.y; w = x *ℤ p.w +ℤ y *ℤ q.w }

turn_blend : (a b p q : Point) (x y : ℤ) → x *ℤ turn_of a b p +ℤ y *ℤ turn_of a b q ≡ turn_of a b (blend p q x y)
turn_blend = solve_at 4 2 (λ a b p q x y. x ⊗ turn a b p ⊕ y ⊗ turn a b q
    ≐ turn a b (record { x = x ⊗ p.x ⊕ y ⊗ q.x; y = x ⊗ p.y ⊕ y ⊗ q.y; w = x ⊗ p.w ⊕ y ⊗ q.w })) tt

blend_positive : (v w x y : ℤ) → pos 0 <ℤ v → pos 0 <ℤ w → pos 0 <ℤ x → pos 0 ≤ℤ y → pos 0 <ℤ (x *ℤ v +ℤ y *ℤ w)
blend_positive = follows 4 (λ v w x y. num (pos 0) ≺ v ⇒ num (pos 0) ≺ w ⇒ num (pos 0) ≺ x ⇒ num (pos 0) ≼ y ⇒ num
    (pos 0) ≺ x ⊗ v ⊕ y ⊗ w because over 2 ⊠ gap 0 ⊞ over 0 ⊞ gap 3 ⊠ gap 1) tt

-- a point of the triangle at which a side's turn is 0 is a mix of the side's two corners
same_x : (a b c p : Point) (k l : ℤ) → turn_of b c p ≡ k → turn_of c a p ≡ l → turn_of a b p ≡ pos 0
    → p.x *ℤ (k *ℤ a.w +ℤ (l *ℤ b.w +ℤ pos 0)) ≡ (k *ℤ a.x +ℤ (l *ℤ b.x +ℤ pos 0)) *ℤ p.w
same_x =
    follows_at 4 2 (λ a b c p k l. turn b c p ≐ k ⇒ turn c a p ≐ l ⇒ turn a b p ≐ num (pos 0) ⇒ p.x
    ⊗ (plus k a (plus l b nothing)).w ≐ (plus k a (plus l b nothing)).x ⊗ p.w
    because eqn 0 (a.x ⊗ p.w ⊖ p.x ⊗ a.w) ⊞ eqn 1 (b.x ⊗ p.w ⊖ p.x ⊗ b.w) ⊞ eqn 2 (c.x ⊗ p.w ⊖ p.x ⊗ c.w)) tt

same_y : (a b c p : Point) (k l : ℤ) → turn_of b c p ≡ k → turn_of c a p ≡ l → turn_of a b p ≡ pos 0
    → p.y *ℤ (k *ℤ a.w +ℤ (l *ℤ b.w +ℤ pos 0)) ≡ (k *ℤ a.y +ℤ (l *ℤ b.y +ℤ pos 0)) *ℤ p.w
same_y =
    follows_at 4 2 (λ a b c p k l. turn b c p ≐ k ⇒ turn c a p ≐ l ⇒ turn a b p ≐ num (pos 0) ⇒ p.y
    ⊗ (plus k a (plus l b nothing)).w ≐ (plus k a (plus l b nothing)).y ⊗ p.w
    because eqn 0 (a.y ⊗ p.w ⊖ p.y ⊗ a.w) ⊞ eqn 1 (b.y ⊗ p.w ⊖ p.y ⊗ b.w) ⊞ eqn 2 (c.y ⊗ p.w ⊖ p.y ⊗ c.w)) tt

not_both_zero : (a b c p : Point) (k l : ℤ) → turn_of b c p ≡ k → turn_of c a p ≡ l → turn_of a b p ≡ pos 0
    → pos 0 <ℤ a.w → pos 0 <ℤ b.w → pos 0 <ℤ p.w → pos 0 <ℤ turn_of a b c → pos 0 ≤ℤ k → pos 0 ≤ℤ l → pos 0 <ℤ (k +ℤ l)
not_both_zero =
    follows_at 4 2 (λ a b c p k l. turn b c p ≐ k ⇒ turn c a p ≐ l ⇒ turn a b p ≐ num (pos 0)
    ⇒ num (pos 0) ≺ a.w ⇒ num (pos 0) ≺ b.w ⇒ num (pos 0) ≺ p.w ⇒ num (pos 0) ≺ turn a b c ⇒ num (pos 0) ≼ k ⇒ num
    (pos 0) ≼ l ⇒ num (pos 0) ≺ k ⊕ l
    otherwise gap 9 ⊠ (gap 3 ⊞ gap 4) ⊞ gap 7 ⊠ gap 4 ⊞ gap 8 ⊠ gap 3 ⊞ eqn 0 a.w ⊞ eqn 1 b.w ⊞ eqn 2 c.w ⊞ over 6 ⊠ gap
    5 ⊞ over 5) tt

pub mix_of_side : (a b c p : Point) → pos 0 <ℤ a.w → pos 0 <ℤ b.w → pos 0 <ℤ p.w → pos 0 <ℤ turn_of a b c
    → turn_of a b p ≡ pos 0 → pos 0 ≤ℤ turn_of b c p → pos 0 ≤ℤ turn_of c a p → IsMix p (a ∷ b ∷ [])
mix_of_side a b c p ha hb hp d z ta tb = go (to_nat (turn_of b c p) ta) (to_nat (turn_of c a p) tb)
  where
    go : (k : ℕ) × (turn_of b c p ≡ pos k) → (l : ℕ) × (turn_of c a p ≡ pos l) → IsMix p (a ∷ b ∷ [])
    go k l = (
      k.0 ∷ l.0 ∷ [],
      refl,
      two_some k.0 l.0 (not_both_zero a b c p (pos k.0) (pos l.0) k.1 l.1 z ha hb hp d (nonneg_pos k.0)
          (nonneg_pos l.0)),
      (same_x a b c p (pos k.0) (pos l.0) k.1 l.1 z, same_y a b c p (pos k.0) (pos l.0) k.1 l.1 z),
    )

-- a point on a side of the triangle
abbrev pub IsOnSide : Point → Point → Point → Point → Type 0
IsOnSide a b c p = IsMix p (a ∷ b ∷ []) ⊎ (IsMix p (b ∷ c ∷ []) ⊎ IsMix p (c ∷ a ∷ []))

abbrev NonNeg : ℤ → Type 0
NonNeg z = pos 0 ≤ℤ z

abbrev Positive : ℤ → Type 0
Positive z = pos 0 <ℤ z

-- from a point p of the triangle to a point q outside, some point on the way is on a side
on_side : (a b c p q : Point) → pos 0 <ℤ a.w → pos 0 <ℤ b.w → pos 0 <ℤ c.w → pos 0 <ℤ p.w → pos 0 <ℤ q.w
    → pos 0 <ℤ turn_of a b c → IsMix p (a ∷ b ∷ c ∷ []) → (IsMix q (a ∷ b ∷ c ∷ []) → ⊥)
    → (x : ℤ) × (y : ℤ) × (pos 0 <ℤ x) × (pos 0 ≤ℤ y) × IsOnSide a b c (blend p q x y)
on_side a b c p q ha hb hc hp hq d inside outside =
    let t = turns_of_mix a b c p ha hb hc hp d inside in
    go (exit (turn_of a b p) (turn_of b c p) (turn_of c a p) (turn_of a b q) (turn_of b c q) (turn_of c a q) t.0 t.1 t.2
    (some_below (≤_or_> (pos 0) (turn_of a b q)) (≤_or_> (pos 0) (turn_of b c q)) (≤_or_> (pos 0) (turn_of c a q))))
  where
    some_below : (pos 0 ≤ℤ turn_of a b q) ⊎ (turn_of a b q <ℤ pos 0)
        → (pos 0 ≤ℤ turn_of b c q) ⊎ (turn_of b c q <ℤ pos 0) → (pos 0 ≤ℤ turn_of c a q) ⊎ (turn_of c a q <ℤ pos 0)
        → (turn_of a b q <ℤ pos 0) ⊎ ((turn_of b c q <ℤ pos 0) ⊎ (turn_of c a q <ℤ pos 0))
    some_below (inr h) k l = inl h
    some_below (inl h) (inr k) l = inr (inl k)
    some_below (inl h) (inl k) (inr l) = inr (inr l)
    some_below (inl h) (inl k) (inl l) = absurd (outside (mix_of_turns a b c q ha hb hc hq d h k l))

    go : Exit (turn_of a b p) (turn_of b c p) (turn_of c a p) (turn_of a b q) (turn_of b c q) (turn_of c a q)
        → (x : ℤ) × (y : ℤ) × (pos 0 <ℤ x) × (pos 0 ≤ℤ y) × IsOnSide a b c (blend p q x y)
    go e = (e.x, e.y, e.x_positive, e.y_nonneg, which e.zero_at)
      where
        w : pos 0 <ℤ (blend p q e.x e.y).w
        w = blend_positive p.w q.w e.x e.y hp hq e.x_positive e.y_nonneg

        t0 : pos 0 ≤ℤ turn_of a b (blend p q e.x e.y)
        t0 = subst NonNeg (turn_blend a b p q e.x e.y) e.at0

        t1 : pos 0 ≤ℤ turn_of b c (blend p q e.x e.y)
        t1 = subst NonNeg (turn_blend b c p q e.x e.y) e.at1

        t2 : pos 0 ≤ℤ turn_of c a (blend p q e.x e.y)
        t2 = subst NonNeg (turn_blend c a p q e.x e.y) e.at2

        d1 : pos 0 <ℤ turn_of b c a
        d1 = subst Positive (turn_cycle a b c) d

        d2 : pos 0 <ℤ turn_of c a b
        d2 = subst Positive (turn_cycle b c a) d1

        which : (e.x *ℤ turn_of a b p +ℤ e.y *ℤ turn_of a b q ≡ pos 0)
            ⊎ ((e.x *ℤ turn_of b c p +ℤ e.y *ℤ turn_of b c q ≡ pos 0)
            ⊎ (e.x *ℤ turn_of c a p +ℤ e.y *ℤ turn_of c a q ≡ pos 0)) → IsOnSide a b c (blend p q e.x e.y)
        which (inl z) = inl (mix_of_side a b c (blend p q e.x e.y) ha hb w d (sym (turn_blend a b p q e.x e.y) ∙ z) t1
            t2)
        which (inr (inl z)) = inr (inl (mix_of_side b c a (blend p q e.x e.y) hb hc w d1
            (sym (turn_blend b c p q e.x e.y) ∙ z) t2 t0))
        which (inr (inr z)) = inr (inr (mix_of_side c a b (blend p q e.x e.y) hc ha w d2
            (sym (turn_blend c a p q e.x e.y) ∙ z) t0 t1))

-- a triangle has, with two points, each point between them
blend_in : (a b c p q : Point) (x y : ℤ) → pos 0 <ℤ a.w → pos 0 <ℤ b.w → pos 0 <ℤ c.w → pos 0 <ℤ p.w → pos 0 <ℤ q.w
    → pos 0 <ℤ turn_of a b c → pos 0 <ℤ x → pos 0 ≤ℤ y → IsMix p (a ∷ b ∷ c ∷ []) → IsMix q (a ∷ b ∷ c ∷ [])
    → IsMix (blend p q x y) (a ∷ b ∷ c ∷ [])
blend_in a b c p q x y ha hb hc hp hq d hx hy mp mq =
    let t = turns_of_mix a b c p ha hb hc hp d mp in
    let s = turns_of_mix a b c q ha hb hc hq d mq in
    let f = follows 4 (λ x y u v. num (pos 0) ≺ x ⇒ num (pos 0) ≼ y ⇒ num (pos 0) ≼ u ⇒ num (pos 0) ≼ v ⇒ num (pos 0) ≼
    x ⊗ u ⊕ y ⊗ v because gap 0 ⊠ gap 2 ⊞ gap 1 ⊠ gap 3) tt in
    mix_of_turns a b c (blend p q x y) ha hb hc (blend_positive p.w q.w x y hp hq hx hy) d
    (subst NonNeg (turn_blend a b p q x y) (f x y (turn_of a b p) (turn_of a b q) hx hy t.0 s.0))
    (subst NonNeg (turn_blend b c p q x y) (f x y (turn_of b c p) (turn_of b c q) hx hy t.1 s.1))
    (subst NonNeg (turn_blend c a p q x y) (f x y (turn_of c a p) (turn_of c a q) hx hy t.2 s.2))

pub in_or_out : (a b c p : Point) → pos 0 <ℤ a.w → pos 0 <ℤ b.w → pos 0 <ℤ c.w → pos 0 <ℤ p.w → pos 0 <ℤ turn_of a b c
    → IsMix p (a ∷ b ∷ c ∷ []) ⊎ (IsMix p (a ∷ b ∷ c ∷ []) → ⊥)
in_or_out a b c p ha hb hc hp d = go (≤_or_> (pos 0) (turn_of a b p)) (≤_or_> (pos 0) (turn_of b c p))
    (≤_or_> (pos 0) (turn_of c a p))
  where
    no : (z : ℤ) → pos 0 ≤ℤ z → z <ℤ pos 0 → ⊥
    no = follows 1 (λ z. num (pos 0) ≼ z ⇒ z ≺ num (pos 0) ⇒ never because gap 0 ⊞ over 1) tt

    go : (pos 0 ≤ℤ turn_of a b p) ⊎ (turn_of a b p <ℤ pos 0) → (pos 0 ≤ℤ turn_of b c p) ⊎ (turn_of b c p <ℤ pos 0)
        → (pos 0 ≤ℤ turn_of c a p) ⊎ (turn_of c a p <ℤ pos 0)
        → IsMix p (a ∷ b ∷ c ∷ []) ⊎ (IsMix p (a ∷ b ∷ c ∷ []) → ⊥)
    go (inl h) (inl k) (inl l) = inl (mix_of_turns a b c p ha hb hc hp d h k l)
    go (inr h) k l = inr (λ m. no (turn_of a b p) (turns_of_mix a b c p ha hb hc hp d m).0 h)
    go (inl h) (inr k) l = inr (λ m. no (turn_of b c p) (turns_of_mix a b c p ha hb hc hp d m).1 k)
    go (inl h) (inl k) (inr l) = inr (λ m. no (turn_of c a p) (turns_of_mix a b c p ha hb hc hp d m).2 l)

corner : (a b : Point) → pos 0 ≤ℤ turn_of a b a
corner = follows_at 2 0 (λ a b. num (pos 0) ≼ turn a b a because none) tt

corner' : (a b : Point) → pos 0 ≤ℤ turn_of a b b
corner' = follows_at 2 0 (λ a b. num (pos 0) ≼ turn a b b because none) tt

-- two triangles with a common point p: the first corner of the second is in the first, or a side of the first has a
-- point of the second. So a test of one corner and of three sides finds each common point.
pub met : (a b c e f g p : Point) → pos 0 <ℤ a.w → pos 0 <ℤ b.w → pos 0 <ℤ c.w → pos 0 <ℤ e.w → pos 0 <ℤ f.w
    → pos 0 <ℤ g.w → pos 0 <ℤ p.w → pos 0 <ℤ turn_of a b c → pos 0 <ℤ turn_of e f g
    → IsMix p (a ∷ b ∷ c ∷ []) → IsMix p (e ∷ f ∷ g ∷ [])
    → IsMix e (a ∷ b ∷ c ∷ []) ⊎ ((q : Point) × (pos 0 <ℤ q.w) × IsMix q (e ∷ f ∷ g ∷ []) × IsOnSide a b c q)
met a b c e f g p ha hb hc he hf hg hp d d' mp mq = go (in_or_out a b c e ha hb hc he d)
  where
    me : IsMix e (e ∷ f ∷ g ∷ [])
    me = mix_of_turns e f g e he hf hg he d' (corner e f)
        (subst NonNeg (turn_cycle e f g) (≤_of_< (pos 0) (turn_of e f g) d')) (corner' g e)

    go : IsMix e (a ∷ b ∷ c ∷ []) ⊎ (IsMix e (a ∷ b ∷ c ∷ []) → ⊥)
        → IsMix e (a ∷ b ∷ c ∷ []) ⊎ ((q : Point) × (pos 0 <ℤ q.w) × IsMix q (e ∷ f ∷ g ∷ []) × IsOnSide a b c q)
    go (inl h) = inl h
    go (inr h) =
        let r = on_side a b c p e ha hb hc hp he d mp h in
        inr (
          blend p e r.0 r.1,
          blend_positive p.w e.w r.0 r.1 hp he r.2 r.3,
          blend_in e f g p e r.0 r.1 he hf hg hp he
              d' r.2 r.3 mq me,
          r.4,
        )
