-- Two fractions in order: by their whole parts, and by what is left of equal ones.
use Rattle.std.proofs.Common.{◌≡◌, ◌≢◌, ◌↔◌, ℕ, ◌+◌, ◌*◌, ◌/◌, ◌%◌, ◌<◌, ℤ, pos, ◌+ℤ◌, ◌*ℤ◌, ◌≤ℤ◌, ◌<ℤ◌, arith}
use Rattle.std.proofs.lemmas.Int.{ints}
use Rattle.integer_ring.proofs.Ring.{num, ◌⊕◌, ◌⊖◌, ◌⊗◌}
use Rattle.integer_ring.proofs.Claims.{◌≐◌, ◌≼◌, ◌≺◌, gap, over, eqn, ◌⊞◌, ◌⊠◌, ◌because◌, ◌⇒◌, follows}

-- the fraction n/m has the whole part q, and r is left
pub record HasWhole (n m q r : ℕ) : Type 0 where
  pub is : n ≡ q * m + r
  pub left : r < m

pub whole_of : (n m : ℕ) → 0 < m → HasWhole n m (n / m) (n % m)
whole_of n m some = record { is = grind arith; left = grind arith }

lesser_whole : (n m q r i j t s : ℤ) → n ≡ q *ℤ m +ℤ r → r <ℤ m → i ≡ t *ℤ j +ℤ s → pos 0 ≤ℤ s → (q +ℤ pos 1) ≤ℤ t
    → pos 0 <ℤ m → pos 0 <ℤ j → (n *ℤ j) <ℤ (i *ℤ m)
lesser_whole =
    follows 8 (λ n m q r i j t s. n ≐ q ⊗ m ⊕ r ⇒ r ≺ m ⇒ i ≐ t ⊗ j ⊕ s ⇒ num (pos 0) ≼ s ⇒ q ⊕ num (pos 1) ≼ t
    ⇒ num (pos 0) ≺ m ⇒ num (pos 0) ≺ j ⇒ n ⊗ j ≺ i ⊗ m
    because eqn 0 j ⊞ eqn 2 (num (pos 0) ⊖ m) ⊞ gap 4 ⊠ gap 5 ⊠ gap 6 ⊞ gap 6 ⊠ over 1 ⊞ over 6 ⊞ gap 3 ⊠ gap 5) tt

same_whole : (n m q r i j s : ℤ) → n ≡ q *ℤ m +ℤ r → i ≡ q *ℤ j +ℤ s → (r *ℤ j) <ℤ (s *ℤ m) → (n *ℤ j) <ℤ (i *ℤ m)
same_whole =
    follows 7 (λ n m q r i j s. n ≐ q ⊗ m ⊕ r ⇒ i ≐ q ⊗ j ⊕ s ⇒ r ⊗ j ≺ s ⊗ m ⇒ n ⊗ j ≺ i ⊗ m
    because eqn 0 j ⊞ eqn 1 (num (pos 0) ⊖ m) ⊞ over 2) tt

same_left : (n m q r i j s : ℤ) → n ≡ q *ℤ m +ℤ r → i ≡ q *ℤ j +ℤ s → (n *ℤ j) <ℤ (i *ℤ m) → (r *ℤ j) <ℤ (s *ℤ m)
same_left =
    follows 7 (λ n m q r i j s. n ≐ q ⊗ m ⊕ r ⇒ i ≐ q ⊗ j ⊕ s ⇒ n ⊗ j ≺ i ⊗ m ⇒ r ⊗ j ≺ s ⊗ m
    because eqn 0 (num (pos 0) ⊖ j) ⊞ eqn 1 m ⊞ over 2) tt

up_is : (i j : ℕ) → i ≡ j → pos i ≡ pos j
up_is i j e = omega (arith, ints)

up_below : (i j : ℕ) → i < j → pos i <ℤ pos j
up_below i j h = omega (arith, ints)

up_next : (q t : ℕ) → q < t → (pos q +ℤ pos 1) ≤ℤ pos t
up_next q t h = omega (arith, ints)

up_least : (s : ℕ) → pos 0 ≤ℤ pos s
up_least s = omega (arith, ints)

down_below : (i j : ℕ) → pos i <ℤ pos j → i < j
down_below i j h = omega (arith, ints)

pub below_by_whole : (n m q r i j t s : ℕ) → HasWhole n m q r → HasWhole i j t s → q < t → n * j < i * m
below_by_whole n m q r i j t s one other order =
    let left = one.left in let more = other.left in
    down_below (n * j) (i * m)
    (lesser_whole (pos n) (pos m) (pos q) (pos r) (pos i) (pos j) (pos t) (pos s) (up_is n (q * m + r) one.is)
    (up_below r m left) (up_is i (t * j + s) other.is) (up_least s) (up_next q t order)
    (up_below 0 m (omega arith)) (up_below 0 j (omega arith)))

pub below_by_left : (n m q r i j s : ℕ) → HasWhole n m q r → HasWhole i j q s → (r * j < s * m) ↔ (n * j < i * m)
below_by_left n m q r i j s one other =
    let is = up_is n (q * m + r) one.is in let are = up_is i (q * j + s) other.is in (
      λ h. down_below (n * j) (i * m)
          (same_whole (pos n) (pos m) (pos q) (pos r) (pos i) (pos j) (pos s) is are (up_below (r * j) (s * m) h)),
      λ h. down_below (r * j) (s * m)
          (same_left (pos n) (pos m) (pos q) (pos r) (pos i) (pos j) (pos s) is are (up_below (n * j) (i * m) h)),
    )

not_both : (i j : ℕ) → i < j → j < i → ⊥
not_both i j h k = omega arith

pub whole_below : (n m q r i j t s : ℕ) → HasWhole n m q r → HasWhole i j t s → q ≢ t → n * j < i * m → q < t
whole_below n m q r i j t s one other apart order =
    grind (arith, apart, not_both (n * j) (i * m) order, below_by_whole i j t s n m q r other one)
