-- The line through a point along the first axis, and where it meets the sides of triangles.
use Rattle.std.proofs.Common.{◌≡◌, ℤ, pos, ◌+ℤ◌, ◌-ℤ◌, ◌*ℤ◌, ◌<ℤ◌, neg_ℤ, subst}
use Rattle.integer_ring.proofs.Ring.{Expr, num, neg, ◌⊕◌, ◌⊖◌, ◌⊗◌}
use Rattle.integer_ring.proofs.Claims.{◌≐◌, ◌≺◌, gap, over, ◌⊞◌, ◌⊠◌, ◌because◌, ◌otherwise◌, ◌⇒◌, follows}
use Rattle.plane_base.specs.Plane.{Point, turn_of}
use Rattle.plane_base.proofs.MixLaws.Points.{PointE, turn, solve_at}

-- above 0 where p is above the line through z, and 0 on it
abbrev pub above_of : Point → Point → ℤ
above_of z p = p.y *ℤ z.w -ℤ z.y *ℤ p.w

-- where the line through z meets the line of a and b
abbrev pub meeting_of : Point → Point → Point → Point
meeting_of z a b = record {
  x = above_of z b *ℤ a.x -ℤ above_of z a *ℤ b.x;
  y = above_of z b *ℤ a.y -ℤ above_of z a *ℤ b.y;
  w = above_of z b *ℤ a.w -ℤ above_of z a *ℤ b.w;
}

-- how far b is above a
abbrev pub rise_of : Point → Point → ℤ
rise_of a b = b.y *ℤ a.w -ℤ a.y *ℤ b.w

-- the height of one point above another, on expressions
abbrev up : PointE → PointE → Expr
up z p = p.y ⊗ z.w ⊖ z.y ⊗ p.w

abbrev meeting : PointE → PointE → PointE → PointE
meeting z a b = record {
  x = up z b ⊗ a.x ⊖ up z a ⊗ b.x;
  y = up z b ⊗ a.y ⊖ up z a ⊗ b.y;
  w = up z b ⊗ a.w ⊖ up z a ⊗ b.w;
}

abbrev rise : PointE → PointE → Expr
rise a b = b.y ⊗ a.w ⊖ a.y ⊗ b.w

-- the side from a to b goes up through the line
pub record GoesUp (z a b : Point) : Type 0 where
  pub low : above_of z a <ℤ pos 0
  pub high : pos 0 <ℤ above_of z b

-- ---- the meeting point is a point of the line
pub meeting-w : (z a b : Point) → pos 0 <ℤ a.w → pos 0 <ℤ b.w → GoesUp z a b → pos 0 <ℤ (meeting_of z a b).w
meeting-w z a b ha hb up = numbers (above_of z a) (above_of z b) a.w b.w up.low up.high ha hb
  where
    numbers : (s t v w : ℤ) → s <ℤ pos 0 → pos 0 <ℤ t → pos 0 <ℤ v → pos 0 <ℤ w → pos 0 <ℤ (t *ℤ v -ℤ s *ℤ w)
    numbers = follows 4 (λ s t v w. s ≺ num (pos 0) ⇒ num (pos 0) ≺ t ⇒ num (pos 0) ≺ v ⇒ num (pos 0) ≺ w
        ⇒ num (pos 0) ≺ t ⊗ v ⊖ s ⊗ w because gap 1 ⊠ over 2 ⊞ over 1 ⊞ gap 0 ⊠ gap 3) tt

meeting-rise : (z a b : Point) → (meeting_of z a b).w ≡ z.w *ℤ rise_of a b
meeting-rise = solve_at 3 0 (λ z a b. (meeting z a b).w ≐ z.w ⊗ rise a b) tt

pub rise_positive : (z a b : Point) → pos 0 <ℤ z.w → pos 0 <ℤ a.w → pos 0 <ℤ b.w → GoesUp z a b → pos 0 <ℤ rise_of a b
rise_positive z a b hz ha hb up = numbers z.w (rise_of a b) hz
    (subst (λ (k : ℤ). pos 0 <ℤ k) (meeting-rise z a b) (meeting-w z a b ha hb up))
  where
    numbers : (w r : ℤ) → pos 0 <ℤ w → pos 0 <ℤ (w *ℤ r) → pos 0 <ℤ r
    numbers = follows 2 (λ w r. num (pos 0) ≺ w ⇒ num (pos 0) ≺ w ⊗ r ⇒ num (pos 0) ≺ r
        otherwise over 1 ⊞ gap 0 ⊠ gap 2) tt

-- as far above the line through the meeting point as above the line through z, up to a factor
pub above_meeting : (z a b p : Point) → above_of (meeting_of z a b) p ≡ rise_of a b *ℤ above_of z p
above_meeting = solve_at 4 0 (λ z a b p. up (meeting z a b) p ≐ rise a b ⊗ up z p) tt

-- ---- turns at the meeting point
pub on_side : (z a b : Point) → turn_of a b (meeting_of z a b) ≡ pos 0
on_side = solve_at 3 0 (λ z a b. turn a b (meeting z a b) ≐ num (pos 0)) tt

pub after_side : (z a b c : Point) → turn_of b c (meeting_of z a b) ≡ above_of z b *ℤ turn_of a b c
after_side = solve_at 4 0 (λ z a b c. turn b c (meeting z a b) ≐ up z b ⊗ turn a b c) tt

pub before_side : (z a b c : Point) → turn_of c a (meeting_of z a b) ≡ neg_ℤ (above_of z a) *ℤ turn_of a b c
before_side = solve_at 4 0 (λ z a b c. turn c a (meeting z a b) ≐ neg (up z a) ⊗ turn a b c) tt

-- and of the triangle at the other side of a and b
pub partner_first : (z a b g : Point) → turn_of a g (meeting_of z a b) ≡ neg_ℤ (above_of z a) *ℤ turn_of b a g
partner_first = solve_at 4 0 (λ z a b g. turn a g (meeting z a b) ≐ neg (up z a) ⊗ turn b a g) tt

pub partner_last : (z a b g : Point) → turn_of g b (meeting_of z a b) ≡ above_of z b *ℤ turn_of b a g
partner_last = solve_at 4 0 (λ z a b g. turn g b (meeting z a b) ≐ up z b ⊗ turn b a g) tt

-- of two sides the one meets the line on the left of the other, or the other way
pub exchanged : (z a b d e : Point) → turn_of d e (meeting_of z a b) ≡ neg_ℤ (turn_of a b (meeting_of z d e))
exchanged = solve_at 5 0 (λ z a b d e. turn d e (meeting z a b) ≐ neg (turn a b (meeting z d e))) tt

-- a point, and the meeting points of two sides, are on one line
pub one_line : (z a b d e p q : Point) → turn_of d e z *ℤ turn_of p q (meeting_of z a b)
    ≡ turn_of d e (meeting_of z a b) *ℤ turn_of p q z +ℤ turn_of a b z *ℤ turn_of p q (meeting_of z d e)
one_line = solve_at 7 0 (λ z a b d e p q. turn d e z ⊗ turn p q (meeting z a b)
    ≐ turn d e (meeting z a b) ⊗ turn p q z ⊕ turn a b z ⊗ turn p q (meeting z d e)) tt

-- further right a side that goes up is nearer
pub further : (z a b d e : Point) → rise_of a b *ℤ turn_of d e z
    ≡ turn_of d e (meeting_of z a b) +ℤ rise_of d e *ℤ turn_of a b z
further = solve_at 5 0 (λ z a b d e. rise a b ⊗ turn d e z ≐ turn d e (meeting z a b) ⊕ rise d e ⊗ turn a b z) tt
