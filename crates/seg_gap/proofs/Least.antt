-- The least of the values of four ends.
use Rattle.std.proofs.Common.{◌≡◌, ◌⊎◌, inl, inr, ℕ, ◌≤◌, pos, ◌+ℤ◌, ◌*ℤ◌, ◌≤ℤ◌, sym, subst, min, arith}
use Rattle.std.proofs.lemmas.Int.{ints}
use Rattle.integer_ring.proofs.Ring.{num, ◌⊗◌}
use Rattle.integer_ring.proofs.Order.{nonneg_square}
use Rattle.integer_ring.proofs.Claims.{◌≼◌, gap, ◌⊞◌, ◌⊠◌, ◌because◌, ◌⇒◌, follows}
use Rattle.plane_base.specs.declared.shapes.Pt.{Pt}
use Rattle.seg_gap.specs.InsideEnds.{square_to, IsLow, HasMixBelow, IsSomeMixBelow, IsEndSquare, IsLeast}

-- one of two numbers that is not above the other
pub record IsLesser (m n r : ℕ) : Type 0 where
  pub first : r ≤ m
  pub second : r ≤ n
  pub one : (r ≡ m) ⊎ (r ≡ n)

pub lesser : (m n r : ℕ) → r ≡ min m n → IsLesser m n r
lesser m n r e = record { first = omega arith; second = omega arith; one = grind arith }

low_less : (m n : ℕ) (p c d : Pt) → m ≤ n → IsLow (pos n) p c d → IsLow (pos m) p c d
low_less m n p c d h low k l w =
    follows 4 (λ m n s q. m ≼ n ⇒ num (pos 0) ≼ s ⇒ n ⊗ s ≼ q ⇒ m ⊗ s ≼ q because gap 0 ⊠ gap 1 ⊞ gap 2) tt
    (pos m) (pos n) ((k +ℤ l) *ℤ (k +ℤ l)) (square_to p c d k l) (at_most m n h) (nonneg_square (k +ℤ l)) (low k l w)
  where
    at_most : (m n : ℕ) → m ≤ n → pos m ≤ℤ pos n
    at_most m n h = omega (arith, ints)

mix_below_as : (m n : ℕ) (p c d : Pt) → m ≡ n → HasMixBelow (pos n) p c d → HasMixBelow (pos m) p c d
mix_below_as m n p c d e h = subst (λ (z : ℕ). HasMixBelow (pos z) p c d) (sym e) h

pub least_of : (a b c d : Pt) (s t u v x y r : ℕ) → IsEndSquare a c d s → IsEndSquare b c d t → IsEndSquare c a b u
    → IsEndSquare d a b v → IsLesser s t x → IsLesser u v y → IsLesser x y r → IsLeast a b c d r
least_of a b c d s t u v x y r of_a of_b of_c of_d first second both =
    let xs = both.first in let ys = both.second in let h = first.first in let i = first.second in let j =
    second.first in let k = second.second in
    record {
      of_a = low_less r s a c d (omega arith) of_a.low;
      of_b = low_less r t b c d (omega arith) of_b.low;
      of_c = low_less r u c a b (omega arith) of_c.low;
      of_d = low_less r v d a b (omega arith) of_d.low;
      high = go both.one first.one second.one;
    }
  where
    go : (r ≡ x) ⊎ (r ≡ y) → (x ≡ s) ⊎ (x ≡ t) → (y ≡ u) ⊎ (y ≡ v) → IsSomeMixBelow (pos r) a b c d
    go (inl e) (inl f) h = inl (mix_below_as r s a c d (omega arith) of_a.high)
    go (inl e) (inr f) h = inr (inl (mix_below_as r t b c d (omega arith) of_b.high))
    go (inr e) h (inl f) = inr (inr (inl (mix_below_as r u c a b (omega arith) of_c.high)))
    go (inr e) h (inr f) = inr (inr (inr (mix_below_as r v d a b (omega arith) of_d.high)))
