-- A triangle whose corners are all to the right of a side of another has no point in common with it.
use Rattle.std.proofs.Common.{◌≡◌, ℕ, ◌<◌, ℤ, pos, ◌+ℤ◌, ◌*ℤ◌, ◌≤ℤ◌, ◌<ℤ◌, List, [], ◌∷◌, sum, ◌∙◌, ap, subst, arith}
use Rattle.std.proofs.Common.{refl}
use Rattle.std.proofs.lemmas.Int.{ints}
use Rattle.integer_ring.proofs.Ring.{num, ◌⊕◌, ◌⊗◌}
use Rattle.integer_ring.proofs.Order.{nonneg_pos}
use Rattle.integer_ring.proofs.Claims.{◌≐◌, ◌≼◌, ◌≺◌, never, gap, over, eqn, ◌⊞◌, ◌⊠◌, ◌because◌, ◌⇒◌, follows}
use Rattle.plane_base.specs.Plane.{Point, Same, turn_of, weighted_sum}
use Rattle.plane_base.proofs.MixLaws.Points.{turn, plus, nothing, solve_at}
use Rattle.plane_base.proofs.MixLaws.Turns.{turn_same}
use Rattle.plane_base.proofs.MixLaws.Mixes.{weighed-place}
use Rattle.plane_base.proofs.TriangleLaws.InTriangle.{turns_of_mix}
use Rattle.tin_check.specs.CommonPoints.{HaveCommonPoint}
use Rattle.tin_check.specs.InsideSeparations.{AreRight}
use Rattle.tin_check.proofs.TriangleTests.Places.{Three, three, three_weights}

-- the turn of a line at a mix is the mix of the turns
turn_at_mix : (p q e f g : Point) (k l m : ℕ)
    → turn_of p q (weighted_sum (k ∷ l ∷ m ∷ []) (e ∷ f ∷ g ∷ [])) ≡ pos k *ℤ turn_of p q e
    +ℤ (pos l *ℤ turn_of p q f +ℤ pos m *ℤ turn_of p q g)
turn_at_mix p q e f g k l m =
    solve_at 5 3 (λ p q e f g k l m. turn p q (plus k e (plus l f (plus m g nothing))) ≐ k ⊗ turn p q e
    ⊕ (l ⊗ turn p q f ⊕ m ⊗ turn p q g)) tt p q e f g (pos k) (pos l) (pos m)

-- v·t is not negative, and w times the sum is
not_both : (v t w k l m te tf tg : ℤ) → v *ℤ t ≡ w *ℤ (k *ℤ te +ℤ (l *ℤ tf +ℤ m *ℤ tg)) → pos 0 <ℤ v → pos 0 ≤ℤ t
    → pos 0 <ℤ w → pos 0 ≤ℤ k → pos 0 ≤ℤ l → pos 0 ≤ℤ m → pos 0 <ℤ (k +ℤ (l +ℤ m)) → te <ℤ pos 0 → tf <ℤ pos 0
    → tg <ℤ pos 0 → ⊥
not_both =
    follows 9 (λ v t w k l m te tf tg. v ⊗ t ≐ w
    ⊗ (k ⊗ te ⊕ (l ⊗ tf ⊕ m ⊗ tg)) ⇒ num (pos 0) ≺ v ⇒ num (pos 0) ≼ t ⇒ num (pos 0) ≺ w
    ⇒ num (pos 0) ≼ k ⇒ num (pos 0) ≼ l ⇒ num (pos 0) ≼ m ⇒ num (pos 0) ≺ k
    ⊕ (l ⊕ m) ⇒ te ≺ num (pos 0) ⇒ tf ≺ num (pos 0) ⇒ tg ≺ num (pos 0) ⇒ never
    because gap 1 ⊠ gap 2 ⊞ eqn 0 (num (pos 1)) ⊞ gap 3 ⊠ (gap 4 ⊠ over 8 ⊞ gap 5 ⊠ over 9 ⊞ gap 6 ⊠ over 10) ⊞ gap 3 ⊠
    over 7 ⊞ over 3) tt

some_weight : (k l m : ℕ) → 0 < sum (k ∷ l ∷ m ∷ []) → pos 0 <ℤ (pos k +ℤ (pos l +ℤ pos m))
some_weight k l m h = omega (arith, ints)

pub none_beyond : (a b c e f g : Point) → pos 0 <ℤ a.w → pos 0 <ℤ b.w → pos 0 <ℤ c.w → pos 0 <ℤ e.w → pos 0 <ℤ f.w
    → pos 0 <ℤ g.w → pos 0 <ℤ turn_of a b c → AreRight a b e f g → HaveCommonPoint (a ∷ b ∷ c ∷ []) (e ∷ f ∷ g ∷ []) → ⊥
none_beyond a b c e f g ha hb hc he hf hg d right h = go h.3.0 (three_weights h.3.0 h.3.1) h.3.2 h.3.3
  where
    x : Point
    x = h.0

    left : pos 0 ≤ℤ turn_of a b x
    left = let t = turns_of_mix a b c x ha hb hc h.1 d h.2 in t.0

    go : (ks : List ℕ) → Three ks → 0 < sum ks → Same x (weighted_sum ks (e ∷ f ∷ g ∷ [])) → ⊥
    go ks (three k l m i) some same =
        let some' : 0 < sum (k ∷ l ∷ m ∷ []) = subst (λ (xs : List ℕ). 0 < sum xs) i some in
        let same' : Same x (weighted_sum (k ∷ l ∷ m ∷ []) (e ∷ f ∷ g ∷ [])) =
        subst (λ (xs : List ℕ). Same x (weighted_sum xs (e ∷ f ∷ g ∷ []))) i same in
        let q = weighted_sum (k ∷ l ∷ m ∷ []) (e ∷ f ∷ g ∷ []) in
        not_both q.w (turn_of a b x) x.w (pos k) (pos l) (pos m) (turn_of a b e) (turn_of a b f) (turn_of a b g)
        (turn_same a b x q same' ∙ ap (λ (z : ℤ). x.w *ℤ z) (turn_at_mix a b e f g k l m))
        (weighed-place (k ∷ l ∷ m ∷ []) (e ∷ f ∷ g ∷ []) refl (he, (hf, (hg, tt))) some') left h.1
        (nonneg_pos k) (nonneg_pos l) (nonneg_pos m) (some_weight k l m some') right.0 right.1 right.2
