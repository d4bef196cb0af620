-- Two triangles to the left of one side have a common point that is not on it.
use Rattle.std.proofs.Common.{◌≡◌, ℕ, ◌+◌, ℤ, pos, ◌+ℤ◌, ◌≤ℤ◌, ◌<ℤ◌, [], ◌∷◌, sym, subst, refl}
use Rattle.std.proofs.Common.{arith}
use Rattle.std.proofs.lemmas.Int.{ints}
use Rattle.integer_ring.proofs.Order.{≤_of_<, nonneg_pos}
use Rattle.plane_base.specs.Plane.{Point, turn_of, weighted_sum, IsMix}
use Rattle.plane_base.proofs.TriangleLaws.InTriangle.{mix_of_turns}
use Rattle.plane_base.proofs.TriangleLaws.NearSide.{turn_near_b, turn_near_a, turn_near, near-w, near_some}
use Rattle.plain_laws.proofs.Weights.{lift_both, lift_times, lift}

abbrev NonNeg : ℤ → Type 0
NonNeg z = pos 0 ≤ℤ z

not_both : (z : ℤ) → pos 0 <ℤ z → z ≡ pos 0 → ⊥
not_both z h e = absurd (omega (arith, ints))

-- the side runs from a to b in both: then the triangles overlap
pub overlap_at_side : (a b c g : Point) → pos 0 <ℤ a.w → pos 0 <ℤ b.w → pos 0 <ℤ c.w → pos 0 <ℤ g.w
    → pos 0 <ℤ turn_of a b c → pos 0 <ℤ turn_of a b g
    → ((p : Point) → pos 0 <ℤ p.w → IsMix p (a ∷ b ∷ c ∷ []) → IsMix p (a ∷ b ∷ g ∷ []) → turn_of a b p ≡ pos 0) → ⊥
overlap_at_side a b c g ha hb hc hg d d' only =
    let m = lift (turn_of b g c) in
    let k = lift (turn_of g a c) in
    go (m.0 + k.0) (lift_both m.0 k.0 (turn_of b g c) (turn_of g a c) m.1 k.1)
  where
    go : (n : ℕ) → (pos 0 ≤ℤ (pos n +ℤ turn_of b g c)) × (pos 0 ≤ℤ (pos n +ℤ turn_of g a c)) → ⊥
    go n h =
        let p = weighted_sum (n ∷ n ∷ 1 ∷ []) (a ∷ b ∷ c ∷ []) in
        let w : pos 0 <ℤ p.w = near-w a.w b.w c.w (pos n) ha hb hc (nonneg_pos n) in
        let at_ab : pos 0 <ℤ turn_of a b p = subst (λ (z : ℤ). pos 0 <ℤ z) (sym (turn_near a b c (pos n))) d in
        let at_bg : pos 0 ≤ℤ turn_of b g p = subst NonNeg (sym (turn_near_b a b c g (pos n)))
        (lift_times (pos n) (turn_of a b g) (turn_of b g c) h.0 (nonneg_pos n) d') in
        let at_ga : pos 0 ≤ℤ turn_of g a p = subst NonNeg (sym (turn_near_a a b c g (pos n)))
        (lift_times (pos n) (turn_of a b g) (turn_of g a c) h.1 (nonneg_pos n) d') in
        let in_u = mix_of_turns a b g p ha hb hg w d' (≤_of_< (pos 0) (turn_of a b p) at_ab) at_bg at_ga in
        not_both (turn_of a b p) at_ab (only p w (n ∷ n ∷ 1 ∷ [], refl, near_some n, (refl, refl)) in_u)
