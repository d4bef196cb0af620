-- A point of a triangle is in its box, and a point in the box is near the corners.
use Rattle.std.proofs.Common.{◌≡◌, ℕ, ◌<◌, ℤ, pos, ◌+ℤ◌, ◌-ℤ◌, ◌*ℤ◌, ◌≤ℤ◌, ◌<ℤ◌, negsuc, List, [], ◌∷◌, length, sum}
use Rattle.std.proofs.Common.{sym, subst, arith}
use Rattle.std.proofs.lemmas.Int.{ints, int_min_is, int_max_is}
use Rattle.std.specs.Int.{int_min, int_max}
use Rattle.integer_ring.proofs.Ring.{num, ◌⊕◌, ◌⊗◌}
use Rattle.integer_ring.proofs.Order.{nonneg_pos}
use Rattle.integer_ring.proofs.Claims.{◌≐◌, ◌≼◌, ◌≺◌, gap, over, eqn, ◌⊞◌, ◌⊠◌, ◌otherwise◌, ◌⇒◌, follows}
use Rattle.plane_base.specs.Plane.{Same, weighted_sum, whole, corners_of, holds_of, IsNearAll, IsNearTri}
use Rattle.plane_base.specs.declared.shapes.Pt.{Pt}
use Rattle.plane_base.specs.declared.shapes.Tri.{Tri}
use Rattle.plane_base.specs.declared.shapes.TheConstants.{SPAN}
use Rattle.tin_index.specs.Boxes.{IsUpTo, low_of, high_of}
use Rattle.plain_laws.proofs.Weights.{three_positive}

-- a mix of three numbers is not below what none of them is below
pub not_below : (l a b c z i j k : ℤ) → l ≤ℤ a → l ≤ℤ b → l ≤ℤ c → pos 0 ≤ℤ i → pos 0 ≤ℤ j → pos 0 ≤ℤ k
    → pos 0 <ℤ (i +ℤ j +ℤ k)
    → z *ℤ (i *ℤ pos 1 +ℤ (j *ℤ pos 1 +ℤ (k *ℤ pos 1 +ℤ pos 0))) ≡ (i *ℤ a +ℤ (j *ℤ b +ℤ (k *ℤ c +ℤ pos 0))) *ℤ pos 1
    → l ≤ℤ z
not_below =
    follows 8 (λ l a b c z i j k.
    l ≼ a ⇒ l ≼ b ⇒ l ≼ c ⇒ num (pos 0) ≼ i ⇒ num (pos 0) ≼ j ⇒ num (pos 0) ≼ k ⇒ num (pos 0) ≺ i ⊕ j ⊕ k
    ⇒ z ⊗ (i ⊗ num (pos 1) ⊕ (j ⊗ num (pos 1) ⊕ (k ⊗ num (pos 1) ⊕ num (pos 0))))
    ≐ (i ⊗ a ⊕ (j ⊗ b ⊕ (k ⊗ c ⊕ num (pos 0)))) ⊗ num (pos 1)
    ⇒ l ≼ z otherwise gap 0 ⊠ gap 3 ⊞ gap 1 ⊠ gap 4 ⊞ gap 2 ⊠ gap 5 ⊞ gap 6 ⊠ over 8 ⊞ over 6 ⊞ eqn 7 (num (negsuc 0)))
    tt

pub not_above : (m a b c z i j k : ℤ) → a ≤ℤ m → b ≤ℤ m → c ≤ℤ m → pos 0 ≤ℤ i → pos 0 ≤ℤ j → pos 0 ≤ℤ k
    → pos 0 <ℤ (i +ℤ j +ℤ k)
    → z *ℤ (i *ℤ pos 1 +ℤ (j *ℤ pos 1 +ℤ (k *ℤ pos 1 +ℤ pos 0))) ≡ (i *ℤ a +ℤ (j *ℤ b +ℤ (k *ℤ c +ℤ pos 0))) *ℤ pos 1
    → z ≤ℤ m
not_above =
    follows 8 (λ m a b c z i j k.
    a ≼ m ⇒ b ≼ m ⇒ c ≼ m ⇒ num (pos 0) ≼ i ⇒ num (pos 0) ≼ j ⇒ num (pos 0) ≼ k ⇒ num (pos 0) ≺ i ⊕ j ⊕ k
    ⇒ z ⊗ (i ⊗ num (pos 1) ⊕ (j ⊗ num (pos 1) ⊕ (k ⊗ num (pos 1) ⊕ num (pos 0))))
    ≐ (i ⊗ a ⊕ (j ⊗ b ⊕ (k ⊗ c ⊕ num (pos 0)))) ⊗ num (pos 1)
    ⇒ z ≼ m otherwise gap 0 ⊠ gap 3 ⊞ gap 1 ⊠ gap 4 ⊞ gap 2 ⊠ gap 5 ⊞ gap 6 ⊠ over 8 ⊞ over 6 ⊞ eqn 7 (num (pos 1))) tt

min_first : (a b c : ℤ) → int_min a (int_min b c) ≤ℤ a
min_first a b c = omega (arith, ints, int_min_is a (int_min b c), int_min_is b c)

min_second : (a b c : ℤ) → int_min a (int_min b c) ≤ℤ b
min_second a b c = omega (arith, ints, int_min_is a (int_min b c), int_min_is b c)

min_third : (a b c : ℤ) → int_min a (int_min b c) ≤ℤ c
min_third a b c = omega (arith, ints, int_min_is a (int_min b c), int_min_is b c)

max_first : (a b c : ℤ) → a ≤ℤ int_max a (int_max b c)
max_first a b c = omega (arith, ints, int_max_is a (int_max b c), int_max_is b c)

max_second : (a b c : ℤ) → b ≤ℤ int_max a (int_max b c)
max_second a b c = omega (arith, ints, int_max_is a (int_max b c), int_max_is b c)

max_third : (a b c : ℤ) → c ≤ℤ int_max a (int_max b c)
max_third a b c = omega (arith, ints, int_max_is a (int_max b c), int_max_is b c)

-- a mix of three numbers is between the least and the greatest of them
low_on : (a b c z : ℤ) (i j k : ℕ) → 0 < sum (i ∷ j ∷ k ∷ [])
    → z *ℤ (pos i *ℤ pos 1 +ℤ (pos j *ℤ pos 1 +ℤ (pos k *ℤ pos 1 +ℤ pos 0)))
    ≡ (pos i *ℤ a +ℤ (pos j *ℤ b +ℤ (pos k *ℤ c +ℤ pos 0))) *ℤ pos 1 → int_min a (int_min b c) ≤ℤ z
low_on a b c z i j k some e =
    not_below (int_min a (int_min b c)) a b c z (pos i) (pos j) (pos k) (min_first a b c) (min_second a b c)
    (min_third a b c) (nonneg_pos i) (nonneg_pos j) (nonneg_pos k) (three_positive i j k some) e

high_on : (a b c z : ℤ) (i j k : ℕ) → 0 < sum (i ∷ j ∷ k ∷ [])
    → z *ℤ (pos i *ℤ pos 1 +ℤ (pos j *ℤ pos 1 +ℤ (pos k *ℤ pos 1 +ℤ pos 0)))
    ≡ (pos i *ℤ a +ℤ (pos j *ℤ b +ℤ (pos k *ℤ c +ℤ pos 0))) *ℤ pos 1 → z ≤ℤ int_max a (int_max b c)
high_on a b c z i j k some e =
    not_above (int_max a (int_max b c)) a b c z (pos i) (pos j) (pos k) (max_first a b c) (max_second a b c)
    (max_third a b c) (nonneg_pos i) (nonneg_pos j) (nonneg_pos k) (three_positive i j k some) e

pub in_box : (t : Tri) (p : Pt) → holds_of t p → IsUpTo (low_of t) p × IsUpTo p (high_of t)
in_box t p m = go m.0 m.1 m.2 m.3
  where
    go : (ks : List ℕ) → length ks ≡ 3 → 0 < sum ks → Same (whole p) (weighted_sum ks (corners_of t))
        → IsUpTo (low_of t) p × IsUpTo p (high_of t)
    go (i ∷ j ∷ k ∷ []) e some same = grind (arith, low_on, high_on)
    go ks e some same = absurd (omega arith)

pub not_low : (t : Tri) (p low : Pt) → low ≡ low_of t → (IsUpTo low p → ⊥) → holds_of t p → ⊥
not_low t p low e out m = out (subst (λ (q : Pt). IsUpTo q p) (sym e) (in_box t p m).0)

pub not_high : (t : Tri) (p high : Pt) → high ≡ high_of t → (IsUpTo p high → ⊥) → holds_of t p → ⊥
not_high t p high e out m = out (subst (λ (q : Pt). IsUpTo p q) (sym e) (in_box t p m).1)

-- ---- a point of the box is near
-- of one number between others that are near each other
near_on : (a b c z : ℤ) → int_min a (int_min b c) ≤ℤ z → z ≤ℤ int_max a (int_max b c) → (a -ℤ b) <ℤ SPAN
    → (b -ℤ a) <ℤ SPAN → (a -ℤ c) <ℤ SPAN → (c -ℤ a) <ℤ SPAN → (b -ℤ c) <ℤ SPAN → (c -ℤ b) <ℤ SPAN
    → ((a -ℤ z) <ℤ SPAN) × ((z -ℤ a) <ℤ SPAN) × ((b -ℤ z) <ℤ SPAN) × ((z -ℤ b) <ℤ SPAN) × ((c -ℤ z) <ℤ SPAN)
    × ((z -ℤ c) <ℤ SPAN)
near_on a b c z lo hi ab ba ac ca bc cb =
    let f = int_min_is a (int_min b c) in let g = int_min_is b c in let h = int_max_is a (int_max b c) in let k =
    int_max_is b c in (
      omega (arith, ints),
      omega (arith, ints),
      omega (arith, ints),
      omega (arith, ints),
      omega (arith, ints),
      omega (arith, ints),
    )

near_corners : (t : Tri) (p : Pt) → IsNearAll t.a t.b t.c → IsUpTo (low_of t) p → IsUpTo p (high_of t) → IsNearTri t p
near_corners t p (ab, ac, bc) above below = grind (arith, near_on)

pub near_box : (t : Tri) (p low high : Pt) → low ≡ low_of t → high ≡ high_of t → IsNearAll t.a t.b t.c → IsUpTo low p
    → IsUpTo p high → IsNearTri t p
near_box t p low high e f near above below =
    near_corners t p near (subst (λ (q : Pt). IsUpTo q p) e above) (subst (λ (q : Pt). IsUpTo p q) f below)
