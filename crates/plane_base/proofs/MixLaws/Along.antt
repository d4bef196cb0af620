-- Points along a segment by their parameter n/d, how a side cuts the parameters, and that the weights of a mix are
-- unique.
use Rattle.std.proofs.Common.{◌≡◌, ◌↔◌, ℤ, pos, ◌+ℤ◌, ◌-ℤ◌, ◌*ℤ◌, ◌≤ℤ◌, ◌<ℤ◌, neg_ℤ}
use Rattle.integer_ring.proofs.Ring.{Expr, num, neg, ◌⊕◌, ◌⊖◌, ◌⊗◌}
use Rattle.integer_ring.proofs.Signs.{≡_of_mul}
use Rattle.integer_ring.proofs.Claims.{◌≐◌, ◌≼◌, ◌≺◌, gap, over, eqn, ◌⊞◌, ◌because◌, ◌⇒◌, follows}
use Rattle.plane_base.specs.Plane.{Point, Same, turn_of, along}
use Rattle.plane_base.proofs.MixLaws.Points.{PointE, turn, follows_at, solve_at, three}

-- ---- along a segment
abbrev pub along_e : PointE → PointE → Expr → Expr → PointE
along_e a b n d = record { x = (d ⊖ n) ⊗ a.x ⊕ n ⊗ b.x; y = (d ⊖ n) ⊗ a.y ⊕ n ⊗ b.y; w = (d ⊖ n) ⊗ a.w ⊕ n ⊗ b.w }

-- between whole points it has a positive w
pub along-w : (n d : ℤ) → pos 0 <ℤ d → pos 0 <ℤ ((d -ℤ n) *ℤ pos 1 +ℤ n *ℤ pos 1)
along-w = follows 2 (λ n d. num (pos 0) ≺ d ⇒ num (pos 0) ≺ (d ⊖ n) ⊗ num (pos 1) ⊕ n ⊗ num (pos 1) because over 0) tt

-- a turn is linear in the parameter
pub turn_along : (p q a b : Point) (n d : ℤ)
    → turn_of p q (along a b n d) ≡ (d -ℤ n) *ℤ turn_of p q a +ℤ n *ℤ turn_of p q b
turn_along = solve_at 4 2 (λ p q a b n d. turn p q (along_e a b n d) ≐ (d ⊖ n) ⊗ turn p q a ⊕ n ⊗ turn p q b) tt

-- with u and v for a side's turns at the two ends: where the side falls, the parameters up to u/(u - v) are on its left
pub falls : (u v n d : ℤ) → (pos 0 ≤ℤ ((d -ℤ n) *ℤ u +ℤ n *ℤ v)) ↔ ((n *ℤ (u -ℤ v)) ≤ℤ (u *ℤ d))
falls u v n d = (
  follows 4 (λ u v n d. num (pos 0) ≼ (d ⊖ n) ⊗ u ⊕ n ⊗ v ⇒ n ⊗ (u ⊖ v) ≼ u ⊗ d because gap 0) tt u v n d,
  follows 4 (λ u v n d. n ⊗ (u ⊖ v) ≼ u ⊗ d ⇒ num (pos 0) ≼ (d ⊖ n) ⊗ u ⊕ n ⊗ v because gap 0) tt u v n d,
)

-- and where it rises, those from -u/(v - u) on
pub rises : (u v n d : ℤ) → (pos 0 ≤ℤ ((d -ℤ n) *ℤ u +ℤ n *ℤ v)) ↔ ((neg_ℤ u *ℤ d) ≤ℤ (n *ℤ (v -ℤ u)))
rises u v n d = (
  follows 4 (λ u v n d. num (pos 0) ≼ (d ⊖ n) ⊗ u ⊕ n ⊗ v ⇒ neg u ⊗ d ≼ n ⊗ (v ⊖ u) because gap 0) tt u v n d,
  follows 4 (λ u v n d. neg u ⊗ d ≼ n ⊗ (v ⊖ u) ⇒ num (pos 0) ≼ (d ⊖ n) ⊗ u ⊕ n ⊗ v because gap 0) tt u v n d,
)

-- ---- the weights of a mix are unique up to a factor
abbrev pub of_three : ℤ → ℤ → ℤ → Point → Point → Point → Point
of_three k l m a b c =
    record {
      x = k *ℤ a.x +ℤ (l *ℤ b.x +ℤ (m *ℤ c.x +ℤ pos 0));
      y = k *ℤ a.y +ℤ (l *ℤ b.y +ℤ (m *ℤ c.y +ℤ pos 0));
      w =
          k *ℤ a.w +ℤ (l *ℤ b.w +ℤ (m *ℤ c.w +ℤ pos 0));
    }

unique_times : (a b c : Point) (k l m r s t : ℤ) → Same (of_three k l m a b c) (of_three r s t a b c)
    → (m *ℤ (of_three r s t a b c).w) *ℤ turn_of a b c ≡ (t *ℤ (of_three k l m a b c).w) *ℤ turn_of a b c
unique_times a b c k l m r s t same =
    follows_at 3 6 (λ a b c k l m r s t.
    (three k l m a b c).x ⊗ (three r s t a b c).w ≐ (three r s t a b c).x ⊗ (three k l m a b c).w
    ⇒ (three k l m a b c).y ⊗ (three r s t a b c).w ≐ (three r s t a b c).y ⊗ (three k l m a b c).w
    ⇒ (m ⊗ (three r s t a b c).w) ⊗ turn a b c ≐ (t ⊗ (three k l m a b c).w) ⊗ turn a b c
    because eqn 0 (a.y ⊗ b.w ⊖ b.y ⊗ a.w) ⊞ eqn 1 (neg (a.x ⊗ b.w ⊖ b.x ⊗ a.w))) tt a b c k l m r s t same.0 same.1

-- the third weight; the others by turning the corners
pub weight_unique : (a b c : Point) (k l m r s t : ℤ) → pos 0 <ℤ turn_of a b c
    → Same (of_three k l m a b c) (of_three r s t a b c) → m *ℤ (of_three r s t a b c).w ≡ t *ℤ (of_three k l m a b c).w
weight_unique a b c k l m r s t d same =
    ≡_of_mul (m *ℤ (of_three r s t a b c).w) (t *ℤ (of_three k l m a b c).w) (turn_of a b c) d
    (unique_times a b c k l m r s t same)
