-- What the tests of whole triangles say.
use Rattle.std.proofs.Common.{◌≡◌, ◌↔◌, inl, inr, ℤ, pos, ◌<ℤ◌, Bool, true, false, not, IsTrue, [], ◌∷◌, refl, sym, ◌∙◌}
use Rattle.std.proofs.Common.{subst, arith}
use Rattle.std.proofs.lemmas.Int.{ints}
use lib.Signed.{lt_z_yes}
use Rattle.plane_base.specs.Plane.{turn_of, IsMix, whole, corners_of}
use Rattle.plane_base.specs.declared.shapes.Pt.{Pt}
use Rattle.plane_base.specs.declared.shapes.Tri.{Tri}
use Rattle.plane_base.proofs.MixLaws.Turns.{turn_cycle, turn_twice}
use Rattle.tin_check.specs.CommonPoints.{HaveCommonPoint, MeetOnlyIn}
use Rattle.tin_check.specs.Marks.{points_of, IsAmong}
use Rattle.tin_base.proofs.TriangleLemmas.TestAnswers.{yes, no, denied}
use Rattle.tin_check.proofs.TriangleTests.Places.{side_bc_in, mix_next}
use Rattle.tin_check.proofs.TriangleTests.Sides.{IsSeenToMeet, meet_of_seen, seen_of_meet}
use Rattle.tin_check.proofs.TriangleTests.AtCorner.{meet_at_corner, not_only_at_corner, not_corner}
use Rattle.tin_check.proofs.TriangleTests.AtSide.{meet_at_side, overlap}

abbrev pub IsPositive : Tri → Type 0
IsPositive t = pos 0 <ℤ turn_of (whole t.a) (whole t.b) (whole t.c)

one : pos 0 <ℤ pos 1
one = lt_z_yes tt

-- ---- two triangles with no corner in common
abbrev pub IsSeen : Tri → Tri → Type 0
IsSeen t u = IsSeenToMeet (whole t.a) (whole t.b) (whole t.c) (whole u.a) (whole u.b) (whole u.c)

pub seen_meets : (t u : Tri) → IsSeen t u → HaveCommonPoint (corners_of t) (corners_of u)
seen_meets t u h = meet_of_seen (whole t.a) (whole t.b) (whole t.c) (whole u.a) (whole u.b) (whole u.c) one h

pub last_side : (t u : Tri) (found : Bool) → IsPositive t → IsPositive u → (IsMix (whole u.a) (corners_of t) → ⊥)
    → (HaveCommonPoint (whole t.a ∷ whole t.b ∷ []) (corners_of u) → ⊥)
    → (HaveCommonPoint (whole t.b ∷ whole t.c ∷ []) (corners_of u) → ⊥)
    → IsTrue found ↔ HaveCommonPoint (whole t.c ∷ whole t.a ∷ []) (corners_of u)
    → IsTrue found ↔ HaveCommonPoint (corners_of t) (corners_of u)
last_side t u found d d' n0 n1 n2 i = (
  λ e. seen_meets t u (inr (inr (inr (i.0 e)))),
  λ h. go
      (seen_of_meet (whole t.a) (whole t.b) (whole t.c) (whole u.a) (whole u.b) (whole u.c) one one one one one one d d'
      h),
)
  where
    go : IsSeen t u → IsTrue found
    go (inl h) = absurd (n0 h)
    go (inr (inl h)) = absurd (n1 h)
    go (inr (inr (inl h))) = absurd (n2 h)
    go (inr (inr (inr h))) = i.1 h

-- ---- one corner in common
pub side_beyond : (t u : Tri) → IsPositive t → HaveCommonPoint (whole t.b ∷ whole t.c ∷ []) (corners_of u)
    → MeetOnlyIn (corners_of t) (corners_of u) (whole t.a ∷ []) → ⊥
side_beyond t u d h only = not_only_at_corner (whole t.a) (whole t.b) (whole t.c) (corners_of u) one one d h only

other_side_beyond : (t u : Tri) → t.a ≡ u.a → IsPositive u → HaveCommonPoint (whole u.b ∷ whole u.c ∷ []) (corners_of t)
    → MeetOnlyIn (corners_of t) (corners_of u) (whole t.a ∷ []) → ⊥
other_side_beyond t u e d h only =
    not_corner (whole u.a) (whole u.b) (whole u.c) h.0 h.1 one one d h.2
    (subst (λ (p : Pt). IsMix h.0 (whole p ∷ [])) e
    (only h.0 h.1 h.3 (side_bc_in h.0 (whole u.a) (whole u.b) (whole u.c) h.2)))

only_there : (t u : Tri) → t.a ≡ u.a → IsPositive t → IsPositive u
    → (HaveCommonPoint (whole t.b ∷ whole t.c ∷ []) (corners_of u) → ⊥)
    → (HaveCommonPoint (whole u.b ∷ whole u.c ∷ []) (corners_of t) → ⊥)
    → MeetOnlyIn (corners_of t) (corners_of u) (whole t.a ∷ [])
only_there t u e d d' n m =
    subst (λ (p : Pt). MeetOnlyIn (corners_of t) (whole p ∷ whole u.b ∷ whole u.c ∷ []) (whole t.a ∷ [])) e
    (meet_at_corner (whole t.a) (whole t.b) (whole t.c) (whole u.b) (whole u.c) one one one one one d
    (subst (λ (p : Pt). pos 0 <ℤ turn_of (whole p) (whole u.b) (whole u.c)) (sym e) d')
    (λ h. n (subst (λ (p : Pt). HaveCommonPoint (whole t.b ∷ whole t.c ∷ []) (whole p ∷ whole u.b ∷ whole u.c ∷ [])) e
    h)) m)

pub last_beyond : (t u : Tri) (found : Bool) → t.a ≡ u.a → IsPositive t → IsPositive u
    → (HaveCommonPoint (whole t.b ∷ whole t.c ∷ []) (corners_of u) → ⊥)
    → IsTrue found ↔ HaveCommonPoint (whole u.b ∷ whole u.c ∷ []) (corners_of t)
    → IsTrue (not found) ↔ MeetOnlyIn (corners_of t) (corners_of u) (whole t.a ∷ [])
last_beyond t u true e d d' n i = no (other_side_beyond t u e d' (i.0 refl))
last_beyond t u false e d d' n i = yes (only_there t u e d d' n (denied i))

-- ---- a side in common
across : (t u : Tri) → IsPositive t → IsPositive u → t.b ≡ u.a → t.a ≡ u.b
    → MeetOnlyIn (corners_of t) (corners_of u) (whole t.a ∷ whole t.b ∷ [])
across t u d d' e f =
    subst (λ (p : Pt). MeetOnlyIn (corners_of t) (whole p ∷ whole u.b ∷ whole u.c ∷ []) (whole t.a ∷ whole t.b ∷ [])) e
    (subst (λ (q : Pt). MeetOnlyIn (corners_of t) (whole t.b ∷ whole q ∷ whole u.c ∷ []) (whole t.a ∷ whole t.b ∷ [])) f
    (meet_at_side (whole t.a) (whole t.b) (whole t.c) (whole u.c) one one one one d
    (subst (λ (q : Pt). pos 0 <ℤ turn_of (whole t.b) (whole q) (whole u.c)) (sym f)
    (subst (λ (p : Pt). pos 0 <ℤ turn_of (whole p) (whole u.b) (whole u.c)) (sym e) d'))))

not_across : (t u : Tri) → IsPositive t → IsPositive u → t.b ≡ u.a → t.a ≡ u.c
    → MeetOnlyIn (corners_of t) (corners_of u) (whole t.a ∷ whole t.b ∷ []) → ⊥
not_across t u d d' e f only =
    overlap (whole t.a) (whole t.b) (whole t.c) (whole u.b) one one one one d
    (subst (λ (z : ℤ). pos 0 <ℤ z) (sym (turn_cycle (whole t.a) (whole t.b) (whole u.b)))
    (subst (λ (q : Pt). pos 0 <ℤ turn_of (whole t.b) (whole u.b) (whole q)) (sym f)
    (subst (λ (p : Pt). pos 0 <ℤ turn_of (whole p) (whole u.b) (whole u.c)) (sym e) d')))
    (λ p hp in_t in_u. only p hp in_t
    (subst (λ (q : Pt). IsMix p (whole u.a ∷ whole u.b ∷ whole q ∷ [])) f
    (subst (λ (q : Pt). IsMix p (whole q ∷ whole u.b ∷ whole t.a ∷ [])) e
    (mix_next p (whole t.a) (whole t.b) (whole u.b) in_u))))

not_zero : (z : ℤ) → pos 0 <ℤ z → z ≡ pos 0 → ⊥
not_zero z h e = absurd (omega (arith, ints))

differ : (t : Tri) → IsPositive t → t.a ≡ t.b → ⊥
differ t d e = not_zero (turn_of (whole t.a) (whole t.a) (whole t.c))
    (subst (λ (p : Pt). pos 0 <ℤ turn_of (whole t.a) (whole p) (whole t.c)) (sym e) d)
    (turn_twice (whole t.a) (whole t.c))

pub side_tells : (t u : Tri) (same : Bool) → IsPositive t → IsPositive u → t.b ≡ u.a → IsAmong (points_of u) t.a
    → IsTrue same ↔ (t.a ≡ u.b) → IsTrue same ↔ MeetOnlyIn (corners_of t) (corners_of u) (whole t.a ∷ whole t.b ∷ [])
side_tells t u true d d' e among i = yes (across t u d d' e (i.0 refl))
side_tells t u false d d' e among i = no (go among)
  where
    go : IsAmong (points_of u) t.a → MeetOnlyIn (corners_of t) (corners_of u) (whole t.a ∷ whole t.b ∷ []) → ⊥
    go (inl h) only = differ t d (h ∙ sym e)
    go (inr (inl h)) only = denied i h
    go (inr (inr (inl h))) only = not_across t u d d' e h only
    go (inr (inr (inr h))) only = absurd h
