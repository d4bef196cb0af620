-- What the tests by turns say of whole triangles.
use Rattle.std.proofs.Common.{◌≡◌, ℤ, pos, ◌<ℤ◌, [], ◌∷◌, ◌++◌, sym, subst}
use lib.Signed.{lt_z_yes}
use Rattle.plane_base.specs.Plane.{turn_of, whole, corners_of, IsNearAll}
use Rattle.plane_base.specs.declared.shapes.Pt.{Pt}
use Rattle.plane_base.specs.declared.shapes.Tri.{Tri}
use Rattle.plane_base.proofs.MixLaws.Turns.{turn_cycle}
use Rattle.tin_check.specs.CommonPoints.{HaveCommonPoint, MeetOnlyIn}
use Rattle.tin_check.specs.Marks.{next_of, points_of, IsAmong, AreNearTris}
use Rattle.tin_check.specs.InsideSeparations.{IsParted, AreRight}
use Rattle.tin_check.proofs.TriangleTests.Places.{mix_next}
use Rattle.tin_check.proofs.TriangleTests.Tests.{IsPositive}
use Rattle.tin_check.proofs.TriangleTests.AroundCorner.{meet_by_turns}
use Rattle.tin_check.proofs.TriangleTests.Beyond.{none_beyond}

-- three of the corners of two triangles are near each other
pub near_three : (t u : Tri) (p q r : Pt) → AreNearTris t u → IsAmong (points_of t ++ points_of u) p
    → IsAmong (points_of t ++ points_of u) q → IsAmong (points_of t ++ points_of u) r → IsNearAll p q r
near_three t u p q r near at_p at_q at_r = (near p q at_p at_q, near p r at_p at_r, near q r at_q at_r)

one : pos 0 <ℤ pos 1
one = lt_z_yes tt

pub parted_meet : (t u : Tri) (be bf ce cf : ℤ) → t.a ≡ u.a → IsPositive t → IsPositive u
    → be ≡ turn_of (whole t.a) (whole t.b) (whole u.b) → bf ≡ turn_of (whole t.a) (whole t.b) (whole u.c)
    → ce ≡ turn_of (whole t.a) (whole t.c) (whole u.b) → cf ≡ turn_of (whole t.a) (whole t.c) (whole u.c)
    → IsParted be bf ce cf → MeetOnlyIn (corners_of t) (corners_of u) (whole t.a ∷ [])
parted_meet t u be bf ce cf e d d' is_be is_bf is_ce is_cf parted =
    subst (λ (p : Pt). MeetOnlyIn (corners_of t) (whole p ∷ whole u.b ∷ whole u.c ∷ []) (whole t.a ∷ [])) e
    (meet_by_turns (whole t.a) (whole t.b) (whole t.c) (whole u.b) (whole u.c) one one one one one d
    (subst (λ (p : Pt). pos 0 <ℤ turn_of (whole p) (whole u.b) (whole u.c)) (sym e) d')
    (subst (λ (z : ℤ). IsParted z (turn_of (whole t.a) (whole t.b) (whole u.c))
    (turn_of (whole t.a) (whole t.c) (whole u.b)) (turn_of (whole t.a) (whole t.c) (whole u.c))) is_be
    (subst (λ (z : ℤ). IsParted be z (turn_of (whole t.a) (whole t.c) (whole u.b))
    (turn_of (whole t.a) (whole t.c) (whole u.c))) is_bf
    (subst (λ (z : ℤ). IsParted be bf z (turn_of (whole t.a) (whole t.c) (whole u.c))) is_ce
    (subst (λ (z : ℤ). IsParted be bf ce z) is_cf parted)))))

-- the corners of u are to the right of the side from the first corner of t to the second
abbrev pub IsBeyond : Tri → Tri → Type 0
IsBeyond t u = AreRight (whole t.a) (whole t.b) (whole u.a) (whole u.b) (whole u.c)

pub beyond_first : (t u : Tri) → IsPositive t → IsBeyond t u → HaveCommonPoint (corners_of t) (corners_of u) → ⊥
beyond_first t u d right h = none_beyond (whole t.a) (whole t.b) (whole t.c) (whole u.a) (whole u.b) (whole u.c) one one
    one one one one d right h

common_next : (t u : Tri) → HaveCommonPoint (corners_of t) (corners_of u)
    → HaveCommonPoint (corners_of (next_of t)) (corners_of u)
common_next t u h = (h.0, h.1, mix_next h.0 (whole t.a) (whole t.b) (whole t.c) h.2, h.3)

positive_next : (t : Tri) → IsPositive t → IsPositive (next_of t)
positive_next t d = subst (λ (z : ℤ). pos 0 <ℤ z) (turn_cycle (whole t.a) (whole t.b) (whole t.c)) d

pub beyond_second : (t u : Tri) → IsPositive t → IsBeyond (next_of t) u → HaveCommonPoint (corners_of t) (corners_of u)
    → ⊥
beyond_second t u d right h = beyond_first (next_of t) u (positive_next t d) right (common_next t u h)

pub beyond_third : (t u : Tri) → IsPositive t → IsBeyond (next_of (next_of t)) u
    → HaveCommonPoint (corners_of t) (corners_of u) → ⊥
beyond_third t u d right h = beyond_second (next_of t) u (positive_next t d) right (common_next t u h)
