-- Rounding half up gives the nearest whole number, and the greater of two that are equally near.
use Rattle.std.proofs.Common.{◌≡◌, ◌⊎◌, inl, inr, ◌≤◌, ◌<◌, ℤ, pos, ◌+ℤ◌, ◌-ℤ◌, ◌*ℤ◌, ◌≤ℤ◌, ◌<ℤ◌, unsigned_abs, arith}
use Rattle.std.proofs.Common.{sym, subst, ℕ}
use Rattle.std.proofs.lemmas.Int.{ints}
use Rattle.integer_ring.proofs.Ring.{num, ◌⊕◌, ◌⊖◌, ◌⊗◌}
use Rattle.integer_ring.proofs.Order.{≤_or_>, ≤_antisymm}
use Rattle.integer_ring.proofs.Floor.{floor-≤, floor-<, floor_is}
use Rattle.integer_ring.proofs.Claims.{◌≼◌, ◌≺◌, gap, over, ◌⊠◌, ◌because◌, ◌⇒◌, follows}
use Rattle.frac128.specs.Rounding.{half_up_of, IsWithinHalf, HalfUpIsWithinHalf, IsNearest, HalfUpIsNearest}

twice_positive : (d : ℤ) → pos 0 <ℤ d → pos 0 <ℤ (pos 2 *ℤ d)
twice_positive d h = omega (arith, ints)

-- the floor of (2a + d) / 2d
low_of : (a d r : ℤ) → (r *ℤ (pos 2 *ℤ d)) ≤ℤ (pos 2 *ℤ a +ℤ d) → ((pos 2 *ℤ r -ℤ pos 1) *ℤ d) ≤ℤ (pos 2 *ℤ a)
low_of = follows 3 (λ a d r. r ⊗ (num (pos 2) ⊗ d) ≼ num (pos 2) ⊗ a ⊕ d ⇒ (num (pos 2) ⊗ r ⊖ num (pos 1))
    ⊗ d ≼ num (pos 2) ⊗ a because gap 0) tt

high_of : (a d r : ℤ) → (pos 2 *ℤ a +ℤ d) <ℤ (r *ℤ (pos 2 *ℤ d) +ℤ pos 2 *ℤ d)
    → (pos 2 *ℤ a) <ℤ ((pos 2 *ℤ r +ℤ pos 1) *ℤ d)
high_of = follows 3 (λ a d r. num (pos 2) ⊗ a ⊕ d ≺ r ⊗ (num (pos 2) ⊗ d) ⊕ num (pos 2) ⊗ d ⇒ num (pos 2)
    ⊗ a ≺ (num (pos 2) ⊗ r ⊕ num (pos 1)) ⊗ d because over 0) tt

of_low : (a d r : ℤ) → ((pos 2 *ℤ r -ℤ pos 1) *ℤ d) ≤ℤ (pos 2 *ℤ a) → (r *ℤ (pos 2 *ℤ d)) ≤ℤ (pos 2 *ℤ a +ℤ d)
of_low = follows 3 (λ a d r. (num (pos 2) ⊗ r ⊖ num (pos 1)) ⊗ d ≼ num (pos 2) ⊗ a ⇒ r ⊗ (num (pos 2) ⊗ d) ≼ num (pos 2)
    ⊗ a ⊕ d because gap 0) tt

of_high : (a d r : ℤ) → (pos 2 *ℤ a) <ℤ ((pos 2 *ℤ r +ℤ pos 1) *ℤ d)
    → (pos 2 *ℤ a +ℤ d) <ℤ (r *ℤ (pos 2 *ℤ d) +ℤ pos 2 *ℤ d)
of_high = follows 3 (λ a d r. num (pos 2) ⊗ a ≺ (num (pos 2) ⊗ r ⊕ num (pos 1)) ⊗ d ⇒ num (pos 2) ⊗ a ⊕ d ≺ r
    ⊗ (num (pos 2) ⊗ d) ⊕ num (pos 2) ⊗ d because over 0) tt

pub within : (a d : ℤ) → pos 0 <ℤ d → IsWithinHalf a d (half_up_of a d)
within a d h =
    let r = half_up_of a d in
    record {
      low = low_of a d r (floor-≤ (pos 2 *ℤ a +ℤ d) (pos 2 *ℤ d) (twice_positive d h));
      high = high_of a d r (floor-< (pos 2 *ℤ a +ℤ d) (pos 2 *ℤ d) (twice_positive d h));
    }

pub half_up_is_within_half : HalfUpIsWithinHalf
half_up_is_within_half a d r h = (
  λ w. floor_is (pos 2 *ℤ a +ℤ d) (pos 2 *ℤ d) r (twice_positive d h) (of_low a d r w.low) (of_high a d r w.high),
  λ e. subst (λ (z : ℤ). IsWithinHalf a d z) (sym e) (within a d h),
)

-- e is num - r·den, and c is num - z·den
up : (e d : ℤ) → (pos 0 -ℤ d) ≤ℤ (pos 2 *ℤ e) → (pos 2 *ℤ e) <ℤ d → (c : ℤ) → c ≤ℤ (e -ℤ d)
    → unsigned_abs e < unsigned_abs c
up e d low high c further = omega (arith, ints)

down : (e d : ℤ) → (pos 0 -ℤ d) ≤ℤ (pos 2 *ℤ e) → (pos 2 *ℤ e) <ℤ d → (c : ℤ) → (e +ℤ d) ≤ℤ c
    → unsigned_abs e ≤ unsigned_abs c
down e d low high c further = omega (arith, ints)

low_rest : (a d r : ℤ) → ((pos 2 *ℤ r -ℤ pos 1) *ℤ d) ≤ℤ (pos 2 *ℤ a) → (pos 0 -ℤ d) ≤ℤ (pos 2 *ℤ (a -ℤ r *ℤ d))
low_rest = follows 3 (λ a d r. (num (pos 2) ⊗ r ⊖ num (pos 1)) ⊗ d ≼ num (pos 2) ⊗ a ⇒ num (pos 0) ⊖ d ≼ num (pos 2)
    ⊗ (a ⊖ r ⊗ d) because gap 0) tt

high_rest : (a d r : ℤ) → (pos 2 *ℤ a) <ℤ ((pos 2 *ℤ r +ℤ pos 1) *ℤ d) → (pos 2 *ℤ (a -ℤ r *ℤ d)) <ℤ d
high_rest = follows 3 (λ a d r. num (pos 2) ⊗ a ≺ (num (pos 2) ⊗ r ⊕ num (pos 1)) ⊗ d ⇒ num (pos 2)
    ⊗ (a ⊖ r ⊗ d) ≺ d because over 0) tt

further_up : (a d r z : ℤ) → pos 0 <ℤ d → r <ℤ z → (a -ℤ z *ℤ d) ≤ℤ (a -ℤ r *ℤ d -ℤ d)
further_up = follows 4 (λ a d r z. num (pos 0) ≺ d ⇒ r ≺ z ⇒ a ⊖ z ⊗ d ≼ a ⊖ r ⊗ d ⊖ d because over 1 ⊠ gap 0) tt

further_down : (a d r z : ℤ) → pos 0 <ℤ d → z <ℤ r → (a -ℤ r *ℤ d +ℤ d) ≤ℤ (a -ℤ z *ℤ d)
further_down = follows 4 (λ a d r z. num (pos 0) ≺ d ⇒ z ≺ r ⇒ a ⊖ r ⊗ d ⊕ d ≼ a ⊖ z ⊗ d because over 1 ⊠ gap 0) tt

less_above : (a d r z : ℤ) → pos 0 <ℤ d → IsWithinHalf a d r → r <ℤ z
    → unsigned_abs (a -ℤ r *ℤ d) < unsigned_abs (a -ℤ z *ℤ d)
less_above a d r z h w l = up (a -ℤ r *ℤ d) d (low_rest a d r w.low) (high_rest a d r w.high) (a -ℤ z *ℤ d)
    (further_up a d r z h l)

no_less_below : (a d r z : ℤ) → pos 0 <ℤ d → IsWithinHalf a d r → z <ℤ r
    → unsigned_abs (a -ℤ r *ℤ d) ≤ unsigned_abs (a -ℤ z *ℤ d)
no_less_below a d r z h w l = down (a -ℤ r *ℤ d) d (low_rest a d r w.low) (high_rest a d r w.high) (a -ℤ z *ℤ d)
    (further_down a d r z h l)

itself : (n : ℕ) → n ≤ n
itself n = omega arith

weaker : (m n : ℕ) → m < n → m ≤ n
weaker m n h = omega arith

not_equal : (m n : ℕ) → m < n → n ≡ m → ⊥
not_equal m n h e = omega arith

nearest_of : (a d r : ℤ) → pos 0 <ℤ d → IsWithinHalf a d r → IsNearest a d r
nearest_of a d r h w = record {
  nearest = λ z. go z (≤_or_> z r) (≤_or_> r z);
  greatest =
      λ z e. upward z e (≤_or_> z r);
}
  where
    go : (z : ℤ) → (z ≤ℤ r) ⊎ (r <ℤ z) → (r ≤ℤ z) ⊎ (z <ℤ r) → unsigned_abs (a -ℤ r *ℤ d) ≤ unsigned_abs (a -ℤ z *ℤ d)
    go z (inr above) k = weaker (unsigned_abs (a -ℤ r *ℤ d)) (unsigned_abs (a -ℤ z *ℤ d)) (less_above a d r z h w above)
    go z (inl k) (inr below) = no_less_below a d r z h w below
    go z (inl k) (inl l) = subst (λ (y : ℤ). unsigned_abs (a -ℤ r *ℤ d) ≤ unsigned_abs (a -ℤ y *ℤ d))
        (≤_antisymm r z l k) (itself (unsigned_abs (a -ℤ r *ℤ d)))

    upward : (z : ℤ) → unsigned_abs (a -ℤ z *ℤ d) ≡ unsigned_abs (a -ℤ r *ℤ d) → (z ≤ℤ r) ⊎ (r <ℤ z) → z ≤ℤ r
    upward z e (inl k) = k
    upward z e (inr above) = absurd (not_equal (unsigned_abs (a -ℤ r *ℤ d)) (unsigned_abs (a -ℤ z *ℤ d))
        (less_above a d r z h w above) e)

pub half_up_is_nearest : HalfUpIsNearest
half_up_is_nearest a d h = nearest_of a d (half_up_of a d) h (within a d h)
