-- The way from u to v: its points by their parameters, in order.
use Rattle.std.proofs.Common.{◌≡◌, ◌⊎◌, inl, inr, ℕ, ◌*◌, ◌≤◌, ℤ, pos, ◌+ℤ◌, ◌-ℤ◌, ◌*ℤ◌, ◌≤ℤ◌, ◌<ℤ◌, arith}
use Rattle.std.proofs.lemmas.Int.{ints}
use Rattle.integer_ring.proofs.Ring.{num, ◌⊕◌, ◌⊖◌, ◌⊗◌}
use Rattle.integer_ring.proofs.Order.{nonneg_square, ≤_or_>}
use Rattle.integer_ring.proofs.Claims.{◌≐◌, ◌≼◌, ◌≺◌, gap, over, ◌⊞◌, ◌⊠◌, ◌because◌, ◌otherwise◌, ◌⇒◌, follows}
use Rattle.frac128.specs.Fractions.{IsAtMost, IsBelow}
use Rattle.frac128.specs.declared.frac.Frac.{Frac}
use Rattle.plane_base.specs.Plane.{Point, turn_of, whole, along}
use Rattle.plane_base.specs.declared.shapes.Pt.{Pt}
use Rattle.plane_base.proofs.MixLaws.Points.{turn, solve_at}
use Rattle.plane_base.proofs.MixLaws.Along.{along_e, along-w}
use Rattle.tin_base.specs.Segments.{Spot, spot_at}
use Rattle.meet_rel.specs.Clips.{at}
use Rattle.meet_rel.proofs.Scale.{Scale, IsOn, IsUpTo, IsLessFar}

-- ---- two different points are some way apart
abbrev pub far : Pt → Pt → ℤ
far u v = (v.x -ℤ u.x) *ℤ (v.x -ℤ u.x) +ℤ (v.y -ℤ u.y) *ℤ (v.y -ℤ u.y)

pub record AreDifferent (u v : Pt) : Type 0 where
  pub far_positive : pos 0 <ℤ far u v

square_positive : (z : ℤ) → (z ≡ pos 0 → ⊥) → pos 0 <ℤ (z *ℤ z)
square_positive z n = go (≤_or_> z (pos 0)) (≤_or_> (pos 0) z)
  where
    zero : (z : ℤ) → z ≤ℤ pos 0 → pos 0 ≤ℤ z → z ≡ pos 0
    zero z h k = omega (arith, ints)

    go : (z ≤ℤ pos 0) ⊎ (pos 0 <ℤ z) → (pos 0 ≤ℤ z) ⊎ (z <ℤ pos 0) → pos 0 <ℤ (z *ℤ z)
    go (inl h) (inl k) = absurd (n (zero z h k))
    go (inr h) k = follows 1 (λ z. num (pos 0) ≺ z ⇒ num (pos 0) ≺ z ⊗ z because over 0 ⊠ gap 0 ⊞ over 0) tt z h
    go (inl h) (inr k) = follows 1 (λ z. z ≺ num (pos 0) ⇒ num (pos 0) ≺ z ⊗ z because over 0 ⊠ gap 0 ⊞ over 0) tt z k

sum_first : (s t : ℤ) → pos 0 <ℤ s → pos 0 ≤ℤ t → pos 0 <ℤ (s +ℤ t)
sum_first s t h k = omega (arith, ints)

sum_second : (s t : ℤ) → pos 0 ≤ℤ s → pos 0 <ℤ t → pos 0 <ℤ (s +ℤ t)
sum_second s t h k = omega (arith, ints)

even : (a b : ℤ) → b -ℤ a ≡ pos 0 → a ≡ b
even a b h = omega (arith, ints)

pub different_x : (u v : Pt) → (u.x ≡ v.x → ⊥) → AreDifferent u v
different_x u v n = grind (arith, sum_first, square_positive, even, nonneg_square)

pub different_y : (u v : Pt) → (u.y ≡ v.y → ⊥) → AreDifferent u v
different_y u v n = grind (arith, sum_second, nonneg_square, square_positive, even)

-- ---- the scale of the way
pub way : (u v : Pt) → AreDifferent u v → Scale
way u v d = record { u = u; v = v; dx = v.x -ℤ u.x; dy = v.y -ℤ u.y; tells = λ z. no (far u v) d.far_positive z }
  where
    no : (z : ℤ) → pos 0 <ℤ z → z ≡ pos 0 → ⊥
    no z h e = absurd (omega (arith, ints))

pub at-w : (u v : Pt) (f : Frac) → pos 0 <ℤ (at u v f).w
at-w u v f = along-w f.num f.den f.positive

pub on_along : (u v : Pt) (d : AreDifferent u v) (n m : ℤ) → pos 0 <ℤ m
    → IsOn (way u v d) (along (whole u) (whole v) n m)
unfolding way
on_along u v d n m h = record {
  line = solve_at 2 2 (λ u v n m. turn u v (along_e u v n m) ≐ num (pos 0)) tt (whole u)
      (whole v) n m;
  positive = along-w n m h;
}

pub on_at : (u v : Pt) (d : AreDifferent u v) (f : Frac) → IsOn (way u v d) (at u v f)
on_at u v d f = on_along u v d f.num f.den f.positive

pub on_line : (u v : Pt) (d : AreDifferent u v) (r : Point) → pos 0 <ℤ r.w → turn_of (whole u) (whole v) r ≡ pos 0
    → IsOn (way u v d) r
unfolding way
on_line u v d r h z = record { line = z; positive = h }

pub line_on : (u v : Pt) (d : AreDifferent u v) (r : Point) → IsOn (way u v d) r → turn_of (whole u) (whole v) r ≡ pos 0
unfolding way
line_on u v d r o = o.line

-- ---- order on the way is the order of parameters
up_z : (ux uy vx vy n d m e : ℤ) → pos 0 <ℤ ((vx -ℤ ux) *ℤ (vx -ℤ ux) +ℤ (vy -ℤ uy) *ℤ (vy -ℤ uy))
    → (n *ℤ e) ≤ℤ (m *ℤ d)
    → (((vx -ℤ ux) *ℤ ((d -ℤ n) *ℤ ux +ℤ n *ℤ vx) +ℤ (vy -ℤ uy) *ℤ ((d -ℤ n) *ℤ uy +ℤ n *ℤ vy))
    *ℤ ((e -ℤ m) *ℤ pos 1 +ℤ m *ℤ pos 1))
    ≤ℤ (((vx -ℤ ux) *ℤ ((e -ℤ m) *ℤ ux +ℤ m *ℤ vx) +ℤ (vy -ℤ uy) *ℤ ((e -ℤ m) *ℤ uy +ℤ m *ℤ vy))
    *ℤ ((d -ℤ n) *ℤ pos 1 +ℤ n *ℤ pos 1))
up_z =
    follows 8 (λ ux uy vx vy n d m e. num (pos 0) ≺ (vx ⊖ ux) ⊗ (vx ⊖ ux) ⊕ (vy ⊖ uy) ⊗ (vy ⊖ uy) ⇒ n ⊗ e ≼ m ⊗ d
    ⇒ ((vx ⊖ ux) ⊗ ((d ⊖ n) ⊗ ux ⊕ n ⊗ vx) ⊕ (vy ⊖ uy) ⊗ ((d ⊖ n) ⊗ uy ⊕ n ⊗ vy))
    ⊗ ((e ⊖ m) ⊗ num (pos 1) ⊕ m ⊗ num (pos 1))
    ≼ ((vx ⊖ ux) ⊗ ((e ⊖ m) ⊗ ux ⊕ m ⊗ vx) ⊕ (vy ⊖ uy) ⊗ ((e ⊖ m) ⊗ uy ⊕ m ⊗ vy))
    ⊗ ((d ⊖ n) ⊗ num (pos 1) ⊕ n ⊗ num (pos 1))
    because gap 0 ⊠ gap 1) tt

less_z : (ux uy vx vy n d m e : ℤ) → pos 0 <ℤ ((vx -ℤ ux) *ℤ (vx -ℤ ux) +ℤ (vy -ℤ uy) *ℤ (vy -ℤ uy))
    → (n *ℤ e) <ℤ (m *ℤ d)
    → (((vx -ℤ ux) *ℤ ((d -ℤ n) *ℤ ux +ℤ n *ℤ vx) +ℤ (vy -ℤ uy) *ℤ ((d -ℤ n) *ℤ uy +ℤ n *ℤ vy))
    *ℤ ((e -ℤ m) *ℤ pos 1 +ℤ m *ℤ pos 1))
    <ℤ (((vx -ℤ ux) *ℤ ((e -ℤ m) *ℤ ux +ℤ m *ℤ vx) +ℤ (vy -ℤ uy) *ℤ ((e -ℤ m) *ℤ uy +ℤ m *ℤ vy))
    *ℤ ((d -ℤ n) *ℤ pos 1 +ℤ n *ℤ pos 1))
less_z =
    follows 8 (λ ux uy vx vy n d m e. num (pos 0) ≺ (vx ⊖ ux) ⊗ (vx ⊖ ux) ⊕ (vy ⊖ uy) ⊗ (vy ⊖ uy) ⇒ n ⊗ e ≺ m ⊗ d
    ⇒ ((vx ⊖ ux) ⊗ ((d ⊖ n) ⊗ ux ⊕ n ⊗ vx) ⊕ (vy ⊖ uy) ⊗ ((d ⊖ n) ⊗ uy ⊕ n ⊗ vy))
    ⊗ ((e ⊖ m) ⊗ num (pos 1) ⊕ m ⊗ num (pos 1))
    ≺ ((vx ⊖ ux) ⊗ ((e ⊖ m) ⊗ ux ⊕ m ⊗ vx) ⊕ (vy ⊖ uy) ⊗ ((e ⊖ m) ⊗ uy ⊕ m ⊗ vy))
    ⊗ ((d ⊖ n) ⊗ num (pos 1) ⊕ n ⊗ num (pos 1))
    because gap 0 ⊠ over 1 ⊞ over 0) tt

down_z : (ux uy vx vy n d m e : ℤ) → pos 0 <ℤ ((vx -ℤ ux) *ℤ (vx -ℤ ux) +ℤ (vy -ℤ uy) *ℤ (vy -ℤ uy))
    → (((vx -ℤ ux) *ℤ ((d -ℤ n) *ℤ ux +ℤ n *ℤ vx) +ℤ (vy -ℤ uy) *ℤ ((d -ℤ n) *ℤ uy +ℤ n *ℤ vy))
    *ℤ ((e -ℤ m) *ℤ pos 1 +ℤ m *ℤ pos 1))
    ≤ℤ (((vx -ℤ ux) *ℤ ((e -ℤ m) *ℤ ux +ℤ m *ℤ vx) +ℤ (vy -ℤ uy) *ℤ ((e -ℤ m) *ℤ uy +ℤ m *ℤ vy))
    *ℤ ((d -ℤ n) *ℤ pos 1 +ℤ n *ℤ pos 1))
    → (n *ℤ e) ≤ℤ (m *ℤ d)
down_z =
    follows 8 (λ ux uy vx vy n d m e. num (pos 0) ≺ (vx ⊖ ux) ⊗ (vx ⊖ ux) ⊕ (vy ⊖ uy) ⊗ (vy ⊖ uy)
    ⇒ ((vx ⊖ ux) ⊗ ((d ⊖ n) ⊗ ux ⊕ n ⊗ vx) ⊕ (vy ⊖ uy) ⊗ ((d ⊖ n) ⊗ uy ⊕ n ⊗ vy))
    ⊗ ((e ⊖ m) ⊗ num (pos 1) ⊕ m ⊗ num (pos 1))
    ≼ ((vx ⊖ ux) ⊗ ((e ⊖ m) ⊗ ux ⊕ m ⊗ vx) ⊕ (vy ⊖ uy) ⊗ ((e ⊖ m) ⊗ uy ⊕ m ⊗ vy))
    ⊗ ((d ⊖ n) ⊗ num (pos 1) ⊕ n ⊗ num (pos 1))
    ⇒ n ⊗ e ≼ m ⊗ d otherwise gap 1 ⊞ over 2 ⊠ gap 0 ⊞ over 0) tt

pub up_along : (u v : Pt) (w : AreDifferent u v) (n d m e : ℤ) → (n *ℤ e) ≤ℤ (m *ℤ d)
    → IsUpTo (way u v w) (along (whole u) (whole v) n d) (along (whole u) (whole v) m e)
unfolding way
up_along u v w n d m e h = record { order = up_z u.x u.y v.x v.y n d m e w.far_positive h }

along_up : (u v : Pt) (w : AreDifferent u v) (n d m e : ℤ)
    → IsUpTo (way u v w) (along (whole u) (whole v) n d) (along (whole u) (whole v) m e) → (n *ℤ e) ≤ℤ (m *ℤ d)
unfolding way
along_up u v w n d m e o = down_z u.x u.y v.x v.y n d m e w.far_positive o.order

pub up_at : (u v : Pt) (w : AreDifferent u v) (f g : Frac) → IsAtMost f g → IsUpTo (way u v w) (at u v f) (at u v g)
up_at u v w f g h = up_along u v w f.num f.den g.num g.den h

pub at_up : (u v : Pt) (w : AreDifferent u v) (f g : Frac) → IsUpTo (way u v w) (at u v f) (at u v g) → IsAtMost f g
at_up u v w f g o = along_up u v w f.num f.den g.num g.den o

pub before_at : (u v : Pt) (w : AreDifferent u v) (f g : Frac) → IsBelow f g
    → IsLessFar (way u v w) (at u v f) (at u v g)
unfolding way
before_at u v w f g h = record { order = less_z u.x u.y v.x v.y f.num f.den g.num g.den w.far_positive h }

-- ---- and of spots
spot_z : (ux uy vx vy k l s t : ℤ) → pos 0 <ℤ ((vx -ℤ ux) *ℤ (vx -ℤ ux) +ℤ (vy -ℤ uy) *ℤ (vy -ℤ uy))
    → (l *ℤ s) ≤ℤ (t *ℤ k)
    → (((vx -ℤ ux) *ℤ (k *ℤ ux +ℤ (l *ℤ vx +ℤ pos 0)) +ℤ (vy -ℤ uy) *ℤ (k *ℤ uy +ℤ (l *ℤ vy +ℤ pos 0)))
    *ℤ (s *ℤ pos 1 +ℤ (t *ℤ pos 1 +ℤ pos 0)))
    ≤ℤ (((vx -ℤ ux) *ℤ (s *ℤ ux +ℤ (t *ℤ vx +ℤ pos 0)) +ℤ (vy -ℤ uy) *ℤ (s *ℤ uy +ℤ (t *ℤ vy +ℤ pos 0)))
    *ℤ (k *ℤ pos 1 +ℤ (l *ℤ pos 1 +ℤ pos 0)))
spot_z =
    follows 8 (λ ux uy vx vy k l s t. num (pos 0) ≺ (vx ⊖ ux) ⊗ (vx ⊖ ux) ⊕ (vy ⊖ uy) ⊗ (vy ⊖ uy) ⇒ l ⊗ s ≼ t ⊗ k
    ⇒ ((vx ⊖ ux) ⊗ (k ⊗ ux ⊕ (l ⊗ vx ⊕ num (pos 0))) ⊕ (vy ⊖ uy) ⊗ (k ⊗ uy ⊕ (l ⊗ vy ⊕ num (pos 0))))
    ⊗ (s ⊗ num (pos 1) ⊕ (t ⊗ num (pos 1) ⊕ num (pos 0)))
    ≼ ((vx ⊖ ux) ⊗ (s ⊗ ux ⊕ (t ⊗ vx ⊕ num (pos 0))) ⊕ (vy ⊖ uy) ⊗ (s ⊗ uy ⊕ (t ⊗ vy ⊕ num (pos 0))))
    ⊗ (k ⊗ num (pos 1) ⊕ (l ⊗ num (pos 1) ⊕ num (pos 0)))
    because gap 0 ⊠ gap 1) tt

in_z : (a b c d : ℕ) → a * b ≤ c * d → (pos a *ℤ pos b) ≤ℤ (pos c *ℤ pos d)
in_z a b c d h = let m : pos (a * b) ≤ℤ pos (c * d) = omega (arith, ints) in m

pub up_spot : (u v : Pt) (w : AreDifferent u v) (s t : Spot) → s.of_b * t.of_a ≤ t.of_b * s.of_a
    → IsUpTo (way u v w) (spot_at u v s) (spot_at u v t)
unfolding way
up_spot u v w s t h = record {
  order = spot_z u.x u.y v.x v.y (pos s.of_a) (pos s.of_b) (pos t.of_a) (pos t.of_b)
      w.far_positive (in_z s.of_b t.of_a t.of_b s.of_a h);
}

-- ---- and of the two ends
ends_z : (ux uy vx vy : ℤ) → pos 0 <ℤ ((vx -ℤ ux) *ℤ (vx -ℤ ux) +ℤ (vy -ℤ uy) *ℤ (vy -ℤ uy))
    → (((vx -ℤ ux) *ℤ ux +ℤ (vy -ℤ uy) *ℤ uy) *ℤ pos 1) ≤ℤ (((vx -ℤ ux) *ℤ vx +ℤ (vy -ℤ uy) *ℤ vy) *ℤ pos 1)
ends_z =
    follows 4 (λ ux uy vx vy. num (pos 0) ≺ (vx ⊖ ux) ⊗ (vx ⊖ ux) ⊕ (vy ⊖ uy) ⊗ (vy ⊖ uy)
    ⇒ ((vx ⊖ ux) ⊗ ux ⊕ (vy ⊖ uy) ⊗ uy) ⊗ num (pos 1) ≼ ((vx ⊖ ux) ⊗ vx ⊕ (vy ⊖ uy) ⊗ vy) ⊗ num (pos 1)
    because gap 0) tt

pub up_ends : (u v : Pt) (d : AreDifferent u v) → IsUpTo (way u v d) (whole u) (whole v)
unfolding way
up_ends u v d = record { order = ends_z u.x u.y v.x v.y d.far_positive }
