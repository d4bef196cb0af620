-- Weights in ℕ, and their sums in ℤ.
use Rattle.std.proofs.Common.{◌≡◌, ℕ, ◌+◌, ◌<◌, ℤ, pos, negsuc, ◌+ℤ◌, ◌-ℤ◌, ◌*ℤ◌, ◌≤ℤ◌, ◌<ℤ◌, List, [], ◌∷◌, sum, arith}
use Rattle.std.proofs.lemmas.Int.{ints}
use Rattle.std.proofs.lemmas.List.Sums.{sum_by-cons}
use Rattle.integer_ring.proofs.Ring.{num, ◌⊕◌, ◌⊖◌, ◌⊗◌}
use Rattle.integer_ring.proofs.Claims.{◌≐◌, ◌≼◌, ◌≺◌, gap, over, eqn, ◌⊞◌, ◌⊠◌, ◌because◌, ◌⇒◌, follows, solve}

pub sum-cons : (w : ℕ) (ws : List ℕ) → sum (w ∷ ws) ≡ w + sum ws
sum-cons w ws = sum_by-cons (λ x. x) w ws

-- ---- weights that are not all 0
pub one_positive : (k : ℕ) → 0 < sum (k ∷ []) → pos 0 <ℤ pos k
one_positive k h = omega (arith, ints)

pub two_positive : (k l : ℕ) → 0 < k + l → pos 0 <ℤ (pos k +ℤ pos l)
two_positive k l h = omega (arith, ints)

pub two_some : (k l : ℕ) → pos 0 <ℤ (pos k +ℤ pos l) → 0 < sum (k ∷ l ∷ [])
two_some k l h = omega (arith, ints)

pub three_positive : (i j k : ℕ) → 0 < sum (i ∷ j ∷ k ∷ []) → pos 0 <ℤ (pos i +ℤ pos j +ℤ pos k)
three_positive i j k h = omega (arith, ints)

-- ---- a share n of d, as the weights l and k
pub share_some : (n d : ℤ) (k l : ℕ) → n ≡ pos k → d -ℤ n ≡ pos l → pos 0 <ℤ d → 0 < l + k
share_some n d k l e f h = omega (arith, ints)

pub share_axis : (n d k l a b : ℤ) → n ≡ k → d -ℤ n ≡ l → (d -ℤ n) *ℤ a +ℤ n *ℤ b ≡ l *ℤ a +ℤ (k *ℤ b +ℤ pos 0)
share_axis = follows 6 (λ n d k l a b. n ≐ k ⇒ d ⊖ n ≐ l ⇒ (d ⊖ n) ⊗ a ⊕ n ⊗ b ≐ l ⊗ a
    ⊕ (k ⊗ b ⊕ num (pos 0)) because eqn 0 b ⊞ eqn 1 a) tt

-- a mix of one number with itself
pub same_axis : (k l a : ℤ) → (k *ℤ a +ℤ (l *ℤ a +ℤ pos 0)) *ℤ pos 1 ≡ a *ℤ (k *ℤ pos 1 +ℤ (l *ℤ pos 1 +ℤ pos 0))
same_axis = solve 3 (λ k l a. (k ⊗ a ⊕ (l ⊗ a ⊕ num (pos 0))) ⊗ num (pos 1) ≐ a
    ⊗ (k ⊗ num (pos 1) ⊕ (l ⊗ num (pos 1) ⊕ num (pos 0)))) tt

-- a mix of zeros is 0
pub zero_mix : (k l s t : ℤ) → s ≡ pos 0 → t ≡ pos 0 → k *ℤ s +ℤ l *ℤ t ≡ pos 0
zero_mix = follows 4 (λ k l s t. s ≐ num (pos 0) ⇒ t ≐ num (pos 0) ⇒ k ⊗ s ⊕ l ⊗ t
    ≐ num (pos 0) because eqn 0 k ⊞ eqn 1 l) tt

-- a factor of a product that is 0
pub zero_factor : (s t v : ℤ) → s *ℤ t ≡ v *ℤ pos 0 → t *ℤ s ≡ pos 0 *ℤ s
zero_factor = follows 3 (λ s t v. s ⊗ t ≐ v ⊗ num (pos 0) ⇒ t ⊗ s ≐ num (pos 0) ⊗ s because eqn 0 (num (pos 1))) tt

-- ---- a natural number that is as large as a number is below 0
pub lift : (z : ℤ) → (n : ℕ) × (pos 0 ≤ℤ (pos n +ℤ z))
lift (pos k) = (0, omega (arith, ints))
lift (negsuc k) = (k + 1, omega (arith, ints))

pub lift_both : (m n : ℕ) (y z : ℤ) → pos 0 ≤ℤ (pos m +ℤ y) → pos 0 ≤ℤ (pos n +ℤ z)
    → (pos 0 ≤ℤ (pos (m + n) +ℤ y)) × (pos 0 ≤ℤ (pos (m + n) +ℤ z))
lift_both m n y z h k = (omega (arith, ints), omega (arith, ints))

pub lift_times : (n d z : ℤ) → pos 0 ≤ℤ (n +ℤ z) → pos 0 ≤ℤ n → pos 0 <ℤ d → pos 0 ≤ℤ (n *ℤ d +ℤ z)
lift_times = follows 3 (λ n d z. num (pos 0) ≼ n ⊕ z ⇒ num (pos 0) ≼ n ⇒ num (pos 0) ≺ d ⇒ num (pos 0) ≼ n ⊗ d
    ⊕ z because gap 0 ⊞ gap 1 ⊠ over 2) tt

-- of two weights one is some
pub weight_above : (k l : ℕ) → pos 0 <ℤ (pos k +ℤ pos l) → 0 < k + l
weight_above k l h = omega (arith, ints)

-- a mix of two numbers is one of three, where the third, the first or the second has no weight
pub no_third : (k l a b c : ℤ) → k *ℤ a +ℤ (l *ℤ b +ℤ pos 0) ≡ k *ℤ a +ℤ (l *ℤ b +ℤ (pos 0 *ℤ c +ℤ pos 0))
no_third = solve 5 (λ k l a b c. k ⊗ a ⊕ (l ⊗ b ⊕ num (pos 0)) ≐ k ⊗ a ⊕ (l ⊗ b ⊕ (num (pos 0) ⊗ c ⊕ num (pos 0)))) tt

pub no_first : (k l a b c : ℤ) → k *ℤ b +ℤ (l *ℤ c +ℤ pos 0) ≡ pos 0 *ℤ a +ℤ (k *ℤ b +ℤ (l *ℤ c +ℤ pos 0))
no_first = solve 5 (λ k l a b c. k ⊗ b ⊕ (l ⊗ c ⊕ num (pos 0)) ≐ num (pos 0) ⊗ a ⊕ (k ⊗ b ⊕ (l ⊗ c ⊕ num (pos 0)))) tt

pub no_second : (k l a b c : ℤ) → k *ℤ c +ℤ (l *ℤ a +ℤ pos 0) ≡ l *ℤ a +ℤ (pos 0 *ℤ b +ℤ (k *ℤ c +ℤ pos 0))
no_second = solve 5 (λ k l a b c. k ⊗ c ⊕ (l ⊗ a ⊕ num (pos 0)) ≐ l ⊗ a ⊕ (num (pos 0) ⊗ b ⊕ (k ⊗ c ⊕ num (pos 0)))) tt
