-- The points between two points are those at the parameters from 0 to 1.
use Rattle.std.proofs.Common.{◌≡◌, ℕ, ◌+◌, ◌<◌, ℤ, pos, ◌+ℤ◌, ◌-ℤ◌, ◌*ℤ◌, [], ◌∷◌, refl, arith}
use Rattle.std.proofs.lemmas.Int.{ints}
use Rattle.integer_ring.proofs.Ring.{num, neg, ◌⊕◌, ◌⊖◌, ◌⊗◌}
use Rattle.integer_ring.proofs.Order.{to_nat, ≤-to-nonneg}
use Rattle.integer_ring.proofs.Claims.{◌≐◌, eqn, ◌⊞◌, ◌because◌, ◌⇒◌, follows}
use Rattle.plane_base.specs.Plane.{IsMix, along}
use Rattle.plane_base.specs.Slices.{IsParam}
use Rattle.plane_base.specs.Laws.{HasParameter, SegmentsHaveParameters}
use Rattle.plane_base.proofs.MixLaws.Mixes.{mixed, between_weights, weights_between, same_moved}
use Rattle.plain_laws.proofs.Weights.{share_axis, share_some}

-- weights k and l are the parameter l/(k + l)
one_axis : (k l n d a b : ℤ) → n ≡ l → d -ℤ n ≡ k → k *ℤ a +ℤ (l *ℤ b +ℤ pos 0) ≡ (d -ℤ n) *ℤ a +ℤ n *ℤ b
one_axis = follows 6 (λ k l n d a b. n ≐ l ⇒ d ⊖ n ≐ k ⇒ k ⊗ a ⊕ (l ⊗ b ⊕ num (pos 0)) ≐ (d ⊖ n) ⊗ a ⊕ n
    ⊗ b because eqn 0 (neg b) ⊞ eqn 1 (neg a)) tt

rest : (k l : ℕ) → pos (k + l) -ℤ pos l ≡ pos k
rest k l = omega (arith, ints)

param_of : (k l : ℕ) → 0 < k + l → IsParam (pos l) (pos (k + l))
param_of k l some = (omega (arith, ints), omega (arith, ints), omega (arith, ints))

pub segments_have_parameters : SegmentsHaveParameters
segments_have_parameters p q r = (there, back)
  where
    there : IsMix r (p ∷ q ∷ []) → HasParameter p q r
    there m =
        let b = between_weights p q r m in let k = b.k in let l = b.l in
        let n = pos l in let d = pos (k + l) in let e : n ≡ pos l = refl in
        record {
          n = n;
          d = d;
          param = param_of k l b.some;
          same = same_moved r (mixed k l p q) (along p q n d)
              (one_axis (pos k) (pos l) n d p.x q.x e (rest k l)) (one_axis (pos k) (pos l) n d p.y q.y e (rest k l))
              (one_axis (pos k) (pos l) n d p.w q.w e (rest k l)) b.same;
        }

    back : HasParameter p q r → IsMix r (p ∷ q ∷ [])
    back h =
        let n = h.n in let d = h.d in
        let l = to_nat n h.param.1 in let k = to_nat (d -ℤ n) (≤-to-nonneg n d h.param.2) in
        weights_between p q r (record {
          k = k.0;
          l = l.0;
          some = share_some n d l.0 k.0 l.1 k.1 h.param.0;
          same = same_moved r (along p q n d) (mixed k.0 l.0 p q)
              (share_axis n d (pos l.0) (pos k.0) p.x q.x l.1 k.1) (share_axis n d (pos l.0) (pos k.0) p.y q.y l.1 k.1)
              (share_axis n d (pos l.0) (pos k.0) p.w q.w l.1 k.1) h.same;
        })
