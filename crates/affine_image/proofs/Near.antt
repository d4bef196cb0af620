-- A point of a triangle is near its corners, and its turns with the sides make up the triangle's turn.
use Rattle.std.proofs.Common.{◌≡◌, ℕ, ◌<◌, ℤ, pos, ◌+ℤ◌, ◌-ℤ◌, ◌*ℤ◌, ◌≤ℤ◌, ◌<ℤ◌, negsuc, List, [], ◌∷◌, length, sum}
use Rattle.std.proofs.Common.{arith}
use Rattle.std.proofs.lemmas.Int.{ints}
use Rattle.integer_ring.proofs.Ring.{num, ◌⊕◌, ◌⊖◌, ◌⊗◌}
use Rattle.integer_ring.proofs.Order.{nonneg_pos}
use Rattle.integer_ring.proofs.Claims.{◌≐◌, ◌≼◌, ◌≺◌, gap, over, eqn, ◌⊞◌, ◌⊠◌, ◌otherwise◌, ◌⇒◌, follows}
use Rattle.plane_base.specs.Plane.{Same, weighted_sum, whole, corners_of, holds_of, IsNear, IsNearAll, IsNearTri}
use Rattle.plane_base.specs.declared.shapes.Pt.{Pt}
use Rattle.plane_base.specs.declared.shapes.Tri.{Tri}
use Rattle.plane_base.specs.declared.shapes.TheConstants.{SPAN}
use Rattle.plain_laws.proofs.Weights.{three_positive}

-- z is a mix of three numbers, none of which is s or more above q
above : (s a b c q z i j k : ℤ) → (a -ℤ q) <ℤ s → (b -ℤ q) <ℤ s → (c -ℤ q) <ℤ s → pos 0 ≤ℤ i → pos 0 ≤ℤ j → pos 0 ≤ℤ k
    → pos 0 <ℤ (i +ℤ j +ℤ k)
    → z *ℤ (i *ℤ pos 1 +ℤ (j *ℤ pos 1 +ℤ (k *ℤ pos 1 +ℤ pos 0))) ≡ (i *ℤ a +ℤ (j *ℤ b +ℤ (k *ℤ c +ℤ pos 0))) *ℤ pos 1
    → (z -ℤ q) <ℤ s
above =
    follows 9 (λ s a b c q z i j k.
    a ⊖ q ≺ s ⇒ b ⊖ q ≺ s ⇒ c ⊖ q ≺ s ⇒ num (pos 0) ≼ i ⇒ num (pos 0) ≼ j ⇒ num (pos 0) ≼ k ⇒ num (pos 0) ≺ i ⊕ j ⊕ k
    ⇒ z ⊗ (i ⊗ num (pos 1) ⊕ (j ⊗ num (pos 1) ⊕ (k ⊗ num (pos 1) ⊕ num (pos 0))))
    ≐ (i ⊗ a ⊕ (j ⊗ b ⊕ (k ⊗ c ⊕ num (pos 0)))) ⊗ num (pos 1)
    ⇒ z ⊖ q ≺ s otherwise over 0 ⊠ gap 3 ⊞ over 1 ⊠ gap 4 ⊞ over 2 ⊠ gap 5 ⊞ gap 6 ⊠ gap 8 ⊞ over 6 ⊞ eqn 7
    (num (pos 1))) tt

below : (s a b c q z i j k : ℤ) → (q -ℤ a) <ℤ s → (q -ℤ b) <ℤ s → (q -ℤ c) <ℤ s → pos 0 ≤ℤ i → pos 0 ≤ℤ j → pos 0 ≤ℤ k
    → pos 0 <ℤ (i +ℤ j +ℤ k)
    → z *ℤ (i *ℤ pos 1 +ℤ (j *ℤ pos 1 +ℤ (k *ℤ pos 1 +ℤ pos 0))) ≡ (i *ℤ a +ℤ (j *ℤ b +ℤ (k *ℤ c +ℤ pos 0))) *ℤ pos 1
    → (q -ℤ z) <ℤ s
below =
    follows 9 (λ s a b c q z i j k.
    q ⊖ a ≺ s ⇒ q ⊖ b ≺ s ⇒ q ⊖ c ≺ s ⇒ num (pos 0) ≼ i ⇒ num (pos 0) ≼ j ⇒ num (pos 0) ≼ k ⇒ num (pos 0) ≺ i ⊕ j ⊕ k
    ⇒ z ⊗ (i ⊗ num (pos 1) ⊕ (j ⊗ num (pos 1) ⊕ (k ⊗ num (pos 1) ⊕ num (pos 0))))
    ≐ (i ⊗ a ⊕ (j ⊗ b ⊕ (k ⊗ c ⊕ num (pos 0)))) ⊗ num (pos 1)
    ⇒ q ⊖ z ≺ s otherwise over 0 ⊠ gap 3 ⊞ over 1 ⊠ gap 4 ⊞ over 2 ⊠ gap 5 ⊞ gap 6 ⊠ gap 8 ⊞ over 6 ⊞ eqn 7
    (num (negsuc 0))) tt

pub itself : (p : Pt) → IsNear p p
itself p = (omega (arith, ints), omega (arith, ints), omega (arith, ints), omega (arith, ints))

pub turned : (p q : Pt) → IsNear p q → IsNear q p
turned p q (a, b, c, d) = (b, a, d, c)

-- q is near the three corners
near_one : (t : Tri) (p q : Pt) (i j k : ℕ) → 0 < sum (i ∷ j ∷ k ∷ [])
    → Same (whole p) (weighted_sum (i ∷ j ∷ k ∷ []) (corners_of t)) → IsNear q t.a → IsNear q t.b → IsNear q t.c → IsNear q p
near_one t p q i j k some same a b c =
    let i0 = nonneg_pos i in let j0 = nonneg_pos j in let k0 = nonneg_pos k in let w = three_positive i j k some in (
      below SPAN t.a.x t.b.x t.c.x q.x p.x (pos i) (pos j) (pos k) a.0 b.0 c.0 i0 j0 k0 w same.0,
      above SPAN t.a.x t.b.x t.c.x q.x p.x (pos i) (pos j) (pos k) a.1 b.1 c.1 i0 j0 k0 w same.0,
      below SPAN t.a.y t.b.y t.c.y q.y p.y (pos i) (pos j) (pos k) a.2 b.2 c.2 i0 j0 k0 w same.1,
      above SPAN t.a.y t.b.y t.c.y q.y p.y (pos i) (pos j) (pos k) a.3 b.3 c.3 i0 j0 k0 w same.1,
    )

pub near_corners : (t : Tri) (p : Pt) → IsNearAll t.a t.b t.c → holds_of t p → IsNearTri t p
near_corners t p (ab, ac, bc) m = go m.0 m.1 m.2 m.3
  where
    go : (ks : List ℕ) → length ks ≡ 3 → 0 < sum ks → Same (whole p) (weighted_sum ks (corners_of t)) → IsNearTri t p
    go (i ∷ j ∷ k ∷ []) e some same = (
      near_one t p t.a i j k some same (itself t.a) ab ac,
      near_one t p t.b i j k some same (turned t.a t.b ab) (itself t.b) bc,
      near_one t p t.c i j k some same (turned t.a t.c ac) (turned t.b t.c bc) (itself t.c),
    )
    go ks e some same = absurd (omega arith)
