-- The image of a point is one place: two mixes of a triangle's corners at one place give, with the same weights on
-- another triple of points, one place.
use Rattle.std.proofs.Common.{◌≡◌, ℤ, pos, ◌+ℤ◌, ◌*ℤ◌, ◌<ℤ◌, subst, ◌∙◌}
use Rattle.integer_ring.proofs.Ring.{num, ◌⊕◌, ◌⊖◌, ◌⊗◌}
use Rattle.integer_ring.proofs.Signs.{≡_of_mul, mul-positive}
use Rattle.integer_ring.proofs.Claims.{◌≐◌, eqn, ◌⊞◌, ◌because◌, ◌⇒◌, follows, solve}
use Rattle.plane_base.specs.Plane.{Point, Same, turn_of}
use Rattle.plane_base.proofs.MixLaws.Points.{follows_at}
use Rattle.plane_base.proofs.MixLaws.Turns.{turn_cycle}
use Rattle.plane_base.proofs.MixLaws.Along.{of_three, weight_unique}

-- weights (k, l, m) and (r, s, t) in one proportion give one mean of x, y, z with the denominators f, g, h
means_agree : (k l m r s t u v x y z f g h : ℤ) → pos 0 <ℤ u → pos 0 <ℤ v → k *ℤ v ≡ r *ℤ u → l *ℤ v ≡ s *ℤ u
    → m *ℤ v ≡ t *ℤ u
    → (k *ℤ x +ℤ (l *ℤ y +ℤ (m *ℤ z +ℤ pos 0))) *ℤ (r *ℤ f +ℤ (s *ℤ g +ℤ (t *ℤ h +ℤ pos 0)))
    ≡ (r *ℤ x +ℤ (s *ℤ y +ℤ (t *ℤ z +ℤ pos 0))) *ℤ (k *ℤ f +ℤ (l *ℤ g +ℤ (m *ℤ h +ℤ pos 0)))
means_agree k l m r s t u v x y z f g h hu hv ek el em =
    ≡_of_mul _ _ (u *ℤ v) (mul-positive u v hu hv)
    (follows 14 (λ k l m r s t u v x y z f g h.
    k ⊗ v ≐ r ⊗ u ⇒ l ⊗ v ≐ s ⊗ u ⇒ m ⊗ v ≐ t ⊗ u
    ⇒ (k ⊗ x ⊕ (l ⊗ y ⊕ (m ⊗ z ⊕ num (pos 0)))) ⊗ (r ⊗ f ⊕ (s ⊗ g ⊕ (t ⊗ h ⊕ num (pos 0)))) ⊗ (u ⊗ v)
    ≐ (r ⊗ x ⊕ (s ⊗ y ⊕ (t ⊗ z ⊕ num (pos 0)))) ⊗ (k ⊗ f ⊕ (l ⊗ g ⊕ (m ⊗ h ⊕ num (pos 0)))) ⊗ (u ⊗ v)
    because (let a = (r ⊗ x ⊕ s ⊗ y ⊕ t ⊗ z) ⊗ u in let b =
    (r ⊗ f ⊕ s ⊗ g ⊕ t ⊗ h) ⊗ u in eqn 0 (x ⊗ b ⊖ f ⊗ a) ⊞ eqn 1 (y ⊗ b ⊖ g ⊗ a) ⊞ eqn 2 (z ⊗ b ⊖ h ⊗ a))) tt k l m
    r s t u v x y z f g h ek el em)

turned : (a b c : Point) (k l m r s t : ℤ) → Same (of_three k l m a b c) (of_three r s t a b c)
    → Same (of_three l m k b c a) (of_three s t r b c a)
turned a b c k l m r s t e = (
  follows_at 3 6 (λ a b c k l m r s t.
      (k ⊗ a.x ⊕ (l ⊗ b.x ⊕ (m ⊗ c.x ⊕ num (pos 0)))) ⊗ (r ⊗ a.w ⊕ (s ⊗ b.w ⊕ (t ⊗ c.w ⊕ num (pos 0))))
      ≐ (r ⊗ a.x ⊕ (s ⊗ b.x ⊕ (t ⊗ c.x ⊕ num (pos 0)))) ⊗ (k ⊗ a.w ⊕ (l ⊗ b.w ⊕ (m ⊗ c.w ⊕ num (pos 0))))
      ⇒ (l ⊗ b.x ⊕ (m ⊗ c.x ⊕ (k ⊗ a.x ⊕ num (pos 0)))) ⊗ (s ⊗ b.w ⊕ (t ⊗ c.w ⊕ (r ⊗ a.w ⊕ num (pos 0))))
      ≐ (s ⊗ b.x ⊕ (t ⊗ c.x ⊕ (r ⊗ a.x ⊕ num (pos 0)))) ⊗ (l ⊗ b.w ⊕ (m ⊗ c.w ⊕ (k ⊗ a.w ⊕ num (pos 0))))
      because eqn 0 (num (pos 1))) tt a b c k l m r s t e.0,
  follows_at 3 6 (λ a b c k l m r s t.
      (k ⊗ a.y ⊕ (l ⊗ b.y ⊕ (m ⊗ c.y ⊕ num (pos 0)))) ⊗ (r ⊗ a.w ⊕ (s ⊗ b.w ⊕ (t ⊗ c.w ⊕ num (pos 0))))
      ≐ (r ⊗ a.y ⊕ (s ⊗ b.y ⊕ (t ⊗ c.y ⊕ num (pos 0)))) ⊗ (k ⊗ a.w ⊕ (l ⊗ b.w ⊕ (m ⊗ c.w ⊕ num (pos 0))))
      ⇒ (l ⊗ b.y ⊕ (m ⊗ c.y ⊕ (k ⊗ a.y ⊕ num (pos 0)))) ⊗ (s ⊗ b.w ⊕ (t ⊗ c.w ⊕ (r ⊗ a.w ⊕ num (pos 0))))
      ≐ (s ⊗ b.y ⊕ (t ⊗ c.y ⊕ (r ⊗ a.y ⊕ num (pos 0)))) ⊗ (l ⊗ b.w ⊕ (m ⊗ c.w ⊕ (k ⊗ a.w ⊕ num (pos 0))))
      because eqn 0 (num (pos 1))) tt a b c k l m r s t e.1,
)

Positive : ℤ → Type 0
Positive z = pos 0 <ℤ z

total_turned : (k l m x y z : ℤ) → l *ℤ y +ℤ (m *ℤ z +ℤ (k *ℤ x +ℤ pos 0)) ≡ k *ℤ x +ℤ (l *ℤ y +ℤ (m *ℤ z +ℤ pos 0))
total_turned = solve 6 (λ k l m x y z. l ⊗ y ⊕ (m ⊗ z ⊕ (k ⊗ x ⊕ num (pos 0))) ≐ k ⊗ x
    ⊕ (l ⊗ y ⊕ (m ⊗ z ⊕ num (pos 0)))) tt

-- the source a, b, c of positive turn; the target p, q, o any three points
pub image_unique : (a b c p q o : Point) (k l m r s t : ℤ) → pos 0 <ℤ turn_of a b c → pos 0 <ℤ (of_three k l m a b c).w
    → pos 0 <ℤ (of_three r s t a b c).w
    → Same (of_three k l m a b c) (of_three r s t a b c) → Same (of_three k l m p q o) (of_three r s t p q o)
unfolding Positive
image_unique a b c p q o k l m r s t d hu hv e =
    let u = (of_three k l m a b c).w in let v = (of_three r s t a b c).w in
    let e1 = turned a b c k l m r s t e in
    let e2 = turned b c a l m k s t r e1 in
    let d1 : pos 0 <ℤ turn_of b c a = subst Positive (turn_cycle a b c) d in
    let d2 : pos 0 <ℤ turn_of c a b = subst Positive (turn_cycle b c a) d1 in
    let em : m *ℤ v ≡ t *ℤ u = weight_unique a b c k l m r s t d e in
    let ek : k *ℤ v ≡ r *ℤ u =
    subst (λ (z : ℤ). k *ℤ z ≡ r *ℤ u) (total_turned r s t a.w b.w c.w)
    (subst (λ (z : ℤ). k *ℤ (of_three s t r b c a).w ≡ r *ℤ z) (total_turned k l m a.w b.w c.w)
    (weight_unique b c a l m k s t r d1 e1)) in
    let el : l *ℤ v ≡ s *ℤ u =
    subst (λ (z : ℤ). l *ℤ z ≡ s *ℤ u) (total_turned s t r b.w c.w a.w ∙ total_turned r s t a.w b.w c.w)
    (subst (λ (z : ℤ). l *ℤ (of_three t r s c a b).w ≡ s *ℤ z)
    (total_turned l m k b.w c.w a.w ∙ total_turned k l m a.w b.w c.w) (weight_unique c a b m k l t r s d2 e2)) in (
      means_agree k l m r s t u v p.x q.x o.x p.w q.w o.w hu hv ek el em,
      means_agree k l m r s t u v p.y q.y o.y p.w q.w
          o.w hu hv ek el em,
    )
