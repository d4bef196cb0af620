-- Places of corners: mixes of no corner, of one, and of a list that has others.
use Rattle.std.proofs.Common.{◌≡◌, ℕ, ◌≤◌, ℤ, pos, ◌+ℤ◌, ◌*ℤ◌, ◌<ℤ◌, true}
use Rattle.std.proofs.Common.{List, [], ◌∷◌, length, map, arith}
use Rattle.integer_ring.proofs.Ring.{num, ◌⊕◌, ◌⊗◌}
use Rattle.integer_ring.proofs.Signs.{≡_of_mul}
use Rattle.integer_ring.proofs.Claims.{◌≐◌, eqn, ◌because◌, ◌⇒◌, follows}
use Rattle.plain_laws.proofs.Weights.{one_positive}
use Rattle.plane_base.specs.Plane.{Point, Same, IsMix}
use Rattle.tin_base.specs.Soundness.{has}
use Rattle.tin_base.proofs.TriangleLemmas.Members.{has_head}

no_mix : (p : Point) → IsMix p [] → ⊥
no_mix p ([], e, some, same) = absurd (omega arith)
no_mix p (k ∷ ks, e, some, same) = absurd (omega arith)

one_axis : (x a v w m : ℤ) → pos 0 <ℤ m → x *ℤ (m *ℤ w +ℤ pos 0) ≡ (m *ℤ a +ℤ pos 0) *ℤ v → x *ℤ w ≡ a *ℤ v
one_axis x a v w m h e = ≡_of_mul (x *ℤ w) (a *ℤ v) m h (law x a v w m e)
  where
    law : (x a v w m : ℤ) → x *ℤ (m *ℤ w +ℤ pos 0) ≡ (m *ℤ a +ℤ pos 0) *ℤ v → x *ℤ w *ℤ m ≡ a *ℤ v *ℤ m
    law = follows 5 (λ x a v w m. x ⊗ (m ⊗ w ⊕ num (pos 0)) ≐ (m ⊗ a ⊕ num (pos 0)) ⊗ v ⇒ x ⊗ w ⊗ m ≐ a ⊗ v ⊗ m
        because eqn 0 (num (pos 1))) tt

mix_of_one : (p q : Point) → IsMix p (q ∷ []) → Same p q
mix_of_one p q ([], e, some, same) = absurd (omega arith)
mix_of_one p q (k ∷ l ∷ ks, e, some, same) = absurd (omega arith)
mix_of_one p q (k ∷ [], e, some, same) = (
  one_axis p.x q.x p.w q.w (pos k) (one_positive k some) same.0,
  one_axis p.y q.y p.w q.w (pos k) (one_positive k some) same.1,
)

-- a mix of one corner at most is in the place of one
pub one_place : (at : ℕ → Point) (cs : List ℕ) (p : Point) → length cs ≤ 1 → IsMix p (map at cs)
    → (k : ℕ) × (has cs k ≡ true) × Same p (at k)
one_place at [] p short m = absurd (no_mix p m)
one_place at (k ∷ []) p short m = (k, has_head k [], mix_of_one p (at k) m)
one_place at (k ∷ l ∷ cs) p short m = absurd (omega arith)
