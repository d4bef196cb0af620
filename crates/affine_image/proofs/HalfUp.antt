-- Rounding half up of one value in other spellings, and between bounds.
use Rattle.std.proofs.Common.{◌≡◌, ℤ, pos, negsuc, ◌+ℤ◌, ◌-ℤ◌, ◌*ℤ◌, ◌≤ℤ◌, ◌<ℤ◌}
use Rattle.integer_ring.proofs.Ring.{num, ◌⊕◌, ◌⊖◌, ◌⊗◌}
use Rattle.integer_ring.proofs.Signs.{≤_of_mul, <_of_mul}
use Rattle.integer_ring.proofs.Claims.{◌≐◌, ◌≼◌, ◌≺◌, gap, over, eqn, nat, ◌⊞◌, ◌⊠◌, ◌because◌, ◌otherwise◌, ◌⇒◌}
use Rattle.integer_ring.proofs.Claims.{follows, solve}
use Rattle.frac128.specs.Rounding.{half_up_of}
use Rattle.frac128.proofs.Nearest.{half_up_is_within_half, within}

-- ---- a/d and b/e of one value
low_same : (a d b e r : ℤ) → pos 0 <ℤ e → a *ℤ e ≡ b *ℤ d → ((pos 2 *ℤ r -ℤ pos 1) *ℤ d) ≤ℤ (pos 2 *ℤ a)
    → (((pos 2 *ℤ r -ℤ pos 1) *ℤ e) *ℤ d) ≤ℤ ((pos 2 *ℤ b) *ℤ d)
low_same =
    follows 5 (λ a d b e r.
    num (pos 0) ≺ e ⇒ a ⊗ e ≐ b ⊗ d ⇒ (num (pos 2) ⊗ r ⊖ num (pos 1)) ⊗ d ≼ num (pos 2) ⊗ a
    ⇒ ((num (pos 2) ⊗ r ⊖ num (pos 1)) ⊗ e) ⊗ d ≼ (num (pos 2) ⊗ b) ⊗ d because gap 2 ⊠ gap 0 ⊞ eqn 1 (num (pos 2))) tt

high_same : (a d b e r : ℤ) → pos 0 <ℤ e → a *ℤ e ≡ b *ℤ d → (pos 2 *ℤ a) <ℤ ((pos 2 *ℤ r +ℤ pos 1) *ℤ d)
    → ((pos 2 *ℤ b) *ℤ d) <ℤ (((pos 2 *ℤ r +ℤ pos 1) *ℤ e) *ℤ d)
high_same =
    follows 5 (λ a d b e r.
    num (pos 0) ≺ e ⇒ a ⊗ e ≐ b ⊗ d ⇒ num (pos 2) ⊗ a ≺ (num (pos 2) ⊗ r ⊕ num (pos 1)) ⊗ d
    ⇒ (num (pos 2) ⊗ b) ⊗ d ≺ ((num (pos 2) ⊗ r ⊕ num (pos 1)) ⊗ e)
    ⊗ d because over 2 ⊠ gap 0 ⊞ over 0 ⊞ eqn 1 (num (negsuc 1))) tt

pub same_rounded : (a d b e : ℤ) → pos 0 <ℤ d → pos 0 <ℤ e → a *ℤ e ≡ b *ℤ d → half_up_of a d ≡ half_up_of b e
same_rounded a d b e hd he same =
    let r = half_up_of a d in let w = within a d hd in
    (half_up_is_within_half b e r he).0 (record {
      low = ≤_of_mul ((pos 2 *ℤ r -ℤ pos 1) *ℤ e) (pos 2 *ℤ b) d hd (low_same a d b e r he same w.low);
      high = <_of_mul (pos 2 *ℤ b) ((pos 2 *ℤ r +ℤ pos 1) *ℤ e) d hd (high_same a d b e r he same w.high);
    })

-- ---- a whole number more
low_more : (n d z m r : ℤ) → m ≡ n +ℤ z *ℤ d → ((pos 2 *ℤ r -ℤ pos 1) *ℤ d) ≤ℤ (pos 2 *ℤ n)
    → ((pos 2 *ℤ (z +ℤ r) -ℤ pos 1) *ℤ d) ≤ℤ (pos 2 *ℤ m)
low_more =
    follows 5 (λ n d z m r.
    m ≐ n ⊕ z ⊗ d ⇒ (num (pos 2) ⊗ r ⊖ num (pos 1)) ⊗ d ≼ num (pos 2) ⊗ n
    ⇒ (num (pos 2) ⊗ (z ⊕ r) ⊖ num (pos 1)) ⊗ d ≼ num (pos 2) ⊗ m because gap 1 ⊞ eqn 0 (num (negsuc 1))) tt

high_more : (n d z m r : ℤ) → m ≡ n +ℤ z *ℤ d → (pos 2 *ℤ n) <ℤ ((pos 2 *ℤ r +ℤ pos 1) *ℤ d)
    → (pos 2 *ℤ m) <ℤ ((pos 2 *ℤ (z +ℤ r) +ℤ pos 1) *ℤ d)
high_more =
    follows 5 (λ n d z m r.
    m ≐ n ⊕ z ⊗ d ⇒ num (pos 2) ⊗ n ≺ (num (pos 2) ⊗ r ⊕ num (pos 1)) ⊗ d
    ⇒ num (pos 2) ⊗ m ≺ (num (pos 2) ⊗ (z ⊕ r) ⊕ num (pos 1)) ⊗ d because over 1 ⊞ eqn 0 (num (pos 2))) tt

rounded_more : (n d z m : ℤ) → pos 0 <ℤ d → m ≡ n +ℤ z *ℤ d → z +ℤ half_up_of n d ≡ half_up_of m d
rounded_more n d z m h e =
    let r = half_up_of n d in let w = within n d h in
    (half_up_is_within_half m d (z +ℤ r) h).0
    (record { low = low_more n d z m r e w.low; high = high_more n d z m r e w.high })

-- ---- between whole numbers
not_below : (n d l r : ℤ) → pos 0 <ℤ d → (l *ℤ d) ≤ℤ n → (pos 2 *ℤ n) <ℤ ((pos 2 *ℤ r +ℤ pos 1) *ℤ d) → l ≤ℤ r
not_below =
    follows 4 (λ n d l r.
    num (pos 0) ≺ d ⇒ l ⊗ d ≼ n ⇒ num (pos 2) ⊗ n ≺ (num (pos 2) ⊗ r ⊕ num (pos 1)) ⊗ d
    ⇒ l ≼ r otherwise over 2 ⊞ nat 2 ⊠ gap 1 ⊞ nat 2 ⊠ (over 3 ⊠ gap 0) ⊞ gap 0) tt

not_above : (n d m r : ℤ) → pos 0 <ℤ d → n ≤ℤ (m *ℤ d) → ((pos 2 *ℤ r -ℤ pos 1) *ℤ d) ≤ℤ (pos 2 *ℤ n) → r ≤ℤ m
not_above =
    follows 4 (λ n d m r.
    num (pos 0) ≺ d ⇒ n ≼ m ⊗ d ⇒ (num (pos 2) ⊗ r ⊖ num (pos 1)) ⊗ d ≼ num (pos 2) ⊗ n
    ⇒ r ≼ m otherwise gap 2 ⊞ nat 2 ⊠ gap 1 ⊞ nat 2 ⊠ (over 3 ⊠ gap 0) ⊞ over 0) tt

pub rounded_not_below : (n d l : ℤ) → pos 0 <ℤ d → (l *ℤ d) ≤ℤ n → l ≤ℤ half_up_of n d
rounded_not_below n d l h k = not_below n d l (half_up_of n d) h k (within n d h).high

pub rounded_not_above : (n d m : ℤ) → pos 0 <ℤ d → n ≤ℤ (m *ℤ d) → half_up_of n d ≤ℤ m
rounded_not_above n d m h k = not_above n d m (half_up_of n d) h k (within n d h).low

-- ---- a mix of two ways, with no more weight than the whole
mix_low : (u v d s t l : ℤ) → pos 0 ≤ℤ u → pos 0 ≤ℤ v → (u +ℤ v) ≤ℤ d → l ≤ℤ pos 0 → l ≤ℤ s → l ≤ℤ t
    → (l *ℤ d) ≤ℤ (u *ℤ s +ℤ v *ℤ t)
mix_low =
    follows 6 (λ u v d s t l.
    num (pos 0) ≼ u ⇒ num (pos 0) ≼ v ⇒ u ⊕ v ≼ d ⇒ l ≼ num (pos 0) ⇒ l ≼ s ⇒ l ≼ t
    ⇒ l ⊗ d ≼ u ⊗ s ⊕ v ⊗ t because gap 0 ⊠ gap 4 ⊞ gap 1 ⊠ gap 5 ⊞ gap 2 ⊠ gap 3) tt

mix_high : (u v d s t m : ℤ) → pos 0 ≤ℤ u → pos 0 ≤ℤ v → (u +ℤ v) ≤ℤ d → pos 0 ≤ℤ m → s ≤ℤ m → t ≤ℤ m
    → (u *ℤ s +ℤ v *ℤ t) ≤ℤ (m *ℤ d)
mix_high =
    follows 6 (λ u v d s t m.
    num (pos 0) ≼ u ⇒ num (pos 0) ≼ v ⇒ u ⊕ v ≼ d ⇒ num (pos 0) ≼ m ⇒ s ≼ m ⇒ t ≼ m
    ⇒ u ⊗ s ⊕ v ⊗ t ≼ m ⊗ d because gap 0 ⊠ gap 4 ⊞ gap 1 ⊠ gap 5 ⊞ gap 2 ⊠ gap 3) tt

pub mix_not_below : (u v d s t l : ℤ) → pos 0 <ℤ d → pos 0 ≤ℤ u → pos 0 ≤ℤ v → (u +ℤ v) ≤ℤ d → l ≤ℤ pos 0 → l ≤ℤ s
    → l ≤ℤ t → l ≤ℤ half_up_of (u *ℤ s +ℤ v *ℤ t) d
mix_not_below u v d s t l h hu hv hw l0 ls lt =
    rounded_not_below (u *ℤ s +ℤ v *ℤ t) d l h (mix_low u v d s t l hu hv hw l0 ls lt)

pub mix_not_above : (u v d s t m : ℤ) → pos 0 <ℤ d → pos 0 ≤ℤ u → pos 0 ≤ℤ v → (u +ℤ v) ≤ℤ d → pos 0 ≤ℤ m → s ≤ℤ m
    → t ≤ℤ m → half_up_of (u *ℤ s +ℤ v *ℤ t) d ≤ℤ m
mix_not_above u v d s t m h hu hv hw m0 sm tm =
    rounded_not_above (u *ℤ s +ℤ v *ℤ t) d m h (mix_high u v d s t m hu hv hw m0 sm tm)

-- ---- a mix by the ways from the first number
from_first : (u v d a b c : ℤ) → (d -ℤ u -ℤ v) *ℤ a +ℤ u *ℤ b +ℤ v *ℤ c ≡ (u *ℤ (b -ℤ a) +ℤ v *ℤ (c -ℤ a)) +ℤ a *ℤ d
from_first = solve 6 (λ u v d a b c. (d ⊖ u ⊖ v) ⊗ a ⊕ u ⊗ b ⊕ v ⊗ c ≐ (u ⊗ (b ⊖ a) ⊕ v ⊗ (c ⊖ a)) ⊕ a ⊗ d) tt

pub rounded_from_first : (u v d a b c : ℤ) → pos 0 <ℤ d
    → a +ℤ half_up_of (u *ℤ (b -ℤ a) +ℤ v *ℤ (c -ℤ a)) d ≡ half_up_of ((d -ℤ u -ℤ v) *ℤ a +ℤ u *ℤ b +ℤ v *ℤ c) d
rounded_from_first u v d a b c h = rounded_more (u *ℤ (b -ℤ a) +ℤ v *ℤ (c -ℤ a)) d a
    ((d -ℤ u -ℤ v) *ℤ a +ℤ u *ℤ b +ℤ v *ℤ c) h (from_first u v d a b c)
