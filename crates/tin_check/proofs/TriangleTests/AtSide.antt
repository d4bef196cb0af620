-- Two triangles with a side in common: they have no other point in common exactly where their third corners lie on
-- different sides of it.
use Rattle.std.proofs.Common.{◌≡◌, ℤ, pos, neg_ℤ, ◌≤ℤ◌, ◌<ℤ◌, [], ◌∷◌, arith}
use Rattle.std.proofs.lemmas.Int.{ints}
use Rattle.plane_base.specs.Plane.{Point, turn_of}
use Rattle.plane_base.proofs.MixLaws.Turns.{turn_swap}
use Rattle.plane_base.proofs.TriangleLaws.InTriangle.{turns_of_mix}
use Rattle.plane_base.proofs.TriangleLaws.LeftOfSide.{overlap_at_side}
use Rattle.plane_base.proofs.TriangleLaws.CommonPoints.{mix_of_side}
use Rattle.plane_base.proofs.MixLaws.Mixes.{turn_on_side}
use Rattle.tin_check.specs.CommonPoints.{MeetOnlyIn}

both_ways : (t s : ℤ) → t ≡ neg_ℤ s → pos 0 ≤ℤ t → pos 0 ≤ℤ s → t ≡ pos 0
both_ways t s e h k = omega (arith, ints)

-- the side runs from a to b in the one triangle, and from b to a in the other
pub meet_at_side : (a b c g : Point) → pos 0 <ℤ a.w → pos 0 <ℤ b.w → pos 0 <ℤ c.w → pos 0 <ℤ g.w
    → pos 0 <ℤ turn_of a b c → pos 0 <ℤ turn_of b a g → MeetOnlyIn (a ∷ b ∷ c ∷ []) (b ∷ a ∷ g ∷ []) (a ∷ b ∷ [])
meet_at_side a b c g ha hb hc hg d d' p hp in_t in_u =
    let t = turns_of_mix a b c p ha hb hc hp d in_t in
    let u = turns_of_mix b a g p hb ha hg hp d' in_u in
    mix_of_side a b c p ha hb hp d (both_ways (turn_of a b p) (turn_of b a p) (turn_swap a b p) t.0 u.0) t.1 t.2

-- the side runs from a to b in both: then the triangles have another point in common
pub overlap : (a b c g : Point) → pos 0 <ℤ a.w → pos 0 <ℤ b.w → pos 0 <ℤ c.w → pos 0 <ℤ g.w → pos 0 <ℤ turn_of a b c
    → pos 0 <ℤ turn_of a b g → MeetOnlyIn (a ∷ b ∷ c ∷ []) (a ∷ b ∷ g ∷ []) (a ∷ b ∷ []) → ⊥
overlap a b c g ha hb hc hg d d' only = overlap_at_side a b c g ha hb hc hg d d'
    (λ p w in_t in_u. turn_on_side a b p ha hb (only p w in_t in_u))
