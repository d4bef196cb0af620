-- Two triangles have a common point exactly where the first corner of the second is in the first, or a side of the
-- first has a point of the second.
use Rattle.std.proofs.Common.{◌⊎◌, inl, inr, pos, ◌<ℤ◌, [], ◌∷◌}
use Rattle.plane_base.specs.Plane.{Point, turn_of, IsMix}
use Rattle.plane_base.proofs.TriangleLaws.CommonPoints.{IsOnSide, met}
use Rattle.tin_check.specs.CommonPoints.{HaveCommonPoint}
use Rattle.tin_check.proofs.TriangleTests.Places.{side_ab_in, side_bc_in, side_ca_in, first_in}

-- what the test looks at
abbrev pub IsSeenToMeet : Point → Point → Point → Point → Point → Point → Type 0
IsSeenToMeet a b c e f g =
    IsMix e (a ∷ b ∷ c ∷ [])
    ⊎ (HaveCommonPoint (a ∷ b ∷ []) (e ∷ f ∷ g ∷ [])
    ⊎ (HaveCommonPoint (b ∷ c ∷ []) (e ∷ f ∷ g ∷ []) ⊎ HaveCommonPoint (c ∷ a ∷ []) (e ∷ f ∷ g ∷ [])))

pub meet_of_seen : (a b c e f g : Point) → pos 0 <ℤ e.w → IsSeenToMeet a b c e f g
    → HaveCommonPoint (a ∷ b ∷ c ∷ []) (e ∷ f ∷ g ∷ [])
meet_of_seen a b c e f g he (inl h) = (e, he, h, first_in e f g)
meet_of_seen a b c e f g he (inr (inl h)) = (h.0, h.1, side_ab_in h.0 a b c h.2, h.3)
meet_of_seen a b c e f g he (inr (inr (inl h))) = (h.0, h.1, side_bc_in h.0 a b c h.2, h.3)
meet_of_seen a b c e f g he (inr (inr (inr h))) = (h.0, h.1, side_ca_in h.0 a b c h.2, h.3)

pub seen_of_meet : (a b c e f g : Point) → pos 0 <ℤ a.w → pos 0 <ℤ b.w → pos 0 <ℤ c.w → pos 0 <ℤ e.w → pos 0 <ℤ f.w
    → pos 0 <ℤ g.w → pos 0 <ℤ turn_of a b c → pos 0 <ℤ turn_of e f g
    → HaveCommonPoint (a ∷ b ∷ c ∷ []) (e ∷ f ∷ g ∷ []) → IsSeenToMeet a b c e f g
seen_of_meet a b c e f g ha hb hc he hf hg d d' h = go (met a b c e f g h.0 ha hb hc he hf hg h.1 d d' h.2 h.3)
  where
    side : (q : Point) → pos 0 <ℤ q.w → IsMix q (e ∷ f ∷ g ∷ []) → IsOnSide a b c q → IsSeenToMeet a b c e f g
    side q w m (inl s) = inr (inl (q, w, s, m))
    side q w m (inr (inl s)) = inr (inr (inl (q, w, s, m)))
    side q w m (inr (inr s)) = inr (inr (inr (q, w, s, m)))

    go : IsMix e (a ∷ b ∷ c ∷ []) ⊎ ((q : Point) × (pos 0 <ℤ q.w) × IsMix q (e ∷ f ∷ g ∷ []) × IsOnSide a b c q)
        → IsSeenToMeet a b c e f g
    go (inl m) = inl m
    go (inr r) = side r.0 r.1 r.2 r.3
