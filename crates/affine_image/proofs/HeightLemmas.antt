-- Heights of points of a segment: their size, and their laws.
use Rattle.std.proofs.Common.{◌≡◌, ◌≤◌, ◌<◌, ◌^◌, ◌*◌, ◌-◌, ℤ, pos, ◌+ℤ◌, ◌-ℤ◌, ◌*ℤ◌, ◌≤ℤ◌, ◌<ℤ◌, unsigned_abs, SFits}
use Rattle.std.proofs.Common.{arith, ap, ap₂, sym, ◌∙◌, mul-le-mul}
use Rattle.std.proofs.lemmas.Int.{ints, unsigned_abs-mul}
use mir.Syntax.{w64, w128}
use Rattle.integer_ring.proofs.Ring.{num, ◌⊕◌, ◌⊖◌, ◌⊗◌}
use Rattle.integer_ring.proofs.Claims.{◌≐◌, ◌≼◌, gap, eqn, nat, ◌⊞◌, ◌⊠◌, ◌because◌, ◌⇒◌, follows, solve}
use Rattle.frac128.specs.Rounding.{half_up_of}
use Rattle.frac128.specs.Sizes.{IsSmall}
use Rattle.mm_decimal.specs.declared.limits.TheConstants.{LIMIT}
use Rattle.affine_image.specs.Heights.{height_of, EndsKeepHeights, HeightsAreBetween, HeightsAgree}
use Rattle.affine_image.proofs.HalfUp.{same_rounded, rounded_not_below, rounded_not_above, rounded_from_first}

-- ---- how large
pub share_small : (w z : ℤ) → IsSmall w → unsigned_abs z ≤ 2 * LIMIT → unsigned_abs (w *ℤ z) < 2 ^ 114
share_small w z h k = grind (arith, unsigned_abs, unsigned_abs-mul, mul-le-mul)

pub share_fits : (w z : ℤ) → IsSmall w → unsigned_abs z ≤ 2 * LIMIT → SFits w128 (w *ℤ z)
share_fits w z h k = let s = share_small w z h k in omega (arith, ints)

pub rise_fits : (r : ℤ) → unsigned_abs r ≤ 2 * LIMIT → SFits w64 r
rise_fits r h = omega (arith, ints)

pub way_fits : (a b : ℤ) → unsigned_abs a ≤ LIMIT → unsigned_abs b ≤ LIMIT → SFits w64 (b -ℤ a)
way_fits a b h k = omega (arith, ints)

pub height_fits : (a r : ℤ) → unsigned_abs a ≤ LIMIT → unsigned_abs r ≤ 2 * LIMIT → SFits w64 (a +ℤ r)
height_fits a r h k = omega (arith, ints)

share_low : (n d z l : ℤ) → pos 0 ≤ℤ n → n ≤ℤ d → l ≤ℤ pos 0 → l ≤ℤ z → (l *ℤ d) ≤ℤ (n *ℤ z)
share_low =
    follows 4 (λ n d z l. num (pos 0) ≼ n ⇒ n ≼ d ⇒ l ≼ num (pos 0) ⇒ l ≼ z ⇒ l ⊗ d ≼ n
    ⊗ z because gap 0 ⊠ gap 3 ⊞ gap 1 ⊠ gap 2) tt

share_high : (n d z m : ℤ) → pos 0 ≤ℤ n → n ≤ℤ d → pos 0 ≤ℤ m → z ≤ℤ m → (n *ℤ z) ≤ℤ (m *ℤ d)
share_high =
    follows 4 (λ n d z m. num (pos 0) ≼ n ⇒ n ≼ d ⇒ num (pos 0) ≼ m ⇒ z ≼ m ⇒ n ⊗ z ≼ m
    ⊗ d because gap 0 ⊠ gap 3 ⊞ gap 1 ⊠ gap 2) tt

-- a share of a rise, rounded, is no larger than the rise may be
pub rise_size : (n d z : ℤ) → pos 0 <ℤ d → pos 0 ≤ℤ n → n ≤ℤ d → unsigned_abs z ≤ 2 * LIMIT
    → unsigned_abs (half_up_of (n *ℤ z) d) ≤ 2 * LIMIT
rise_size n d z h low high size =
    let least : ℤ = pos 0 -ℤ pos (2 * LIMIT) in
    let most : ℤ = pos (2 * LIMIT) in
    let below : least ≤ℤ half_up_of (n *ℤ z) d =
    rounded_not_below (n *ℤ z) d least h (share_low n d z least low high (omega (arith, ints))
    (omega (arith, ints))) in
    let above : half_up_of (n *ℤ z) d ≤ℤ most =
    rounded_not_above (n *ℤ z) d most h (share_high n d z most low high (omega (arith, ints))
    (omega (arith, ints))) in
    omega (arith, ints)

-- ---- the mix
only_second : (n a b : ℤ) → n *ℤ (b -ℤ a) +ℤ pos 0 *ℤ (a -ℤ a) ≡ n *ℤ (b -ℤ a)
only_second = solve 3 (λ n a b. n ⊗ (b ⊖ a) ⊕ num (pos 0) ⊗ (a ⊖ a) ≐ n ⊗ (b ⊖ a)) tt

mixed_of : (n d a b : ℤ) → (d -ℤ n -ℤ pos 0) *ℤ a +ℤ n *ℤ b +ℤ pos 0 *ℤ a ≡ (d -ℤ n) *ℤ a +ℤ n *ℤ b
mixed_of = solve 4 (λ n d a b. (d ⊖ n ⊖ num (pos 0)) ⊗ a ⊕ n ⊗ b ⊕ num (pos 0) ⊗ a ≐ (d ⊖ n) ⊗ a ⊕ n ⊗ b) tt

whole_of : (n d : ℤ) → d ≡ (d -ℤ n) +ℤ n
whole_of = solve 2 (λ n d. d ≐ (d ⊖ n) ⊕ n) tt

-- the first end's height with the share of the rise is the height of the mix
pub rise_is_mix : (n d a b : ℤ) → pos 0 <ℤ d → a +ℤ half_up_of (n *ℤ (b -ℤ a)) d ≡ height_of (d -ℤ n) n a b
rise_is_mix n d a b h =
    ap (λ (z : ℤ). a +ℤ half_up_of z d) (sym (only_second n a b)) ∙ rounded_from_first n (pos 0) d a b a h
    ∙ ap₂ (λ (m e : ℤ). half_up_of m e) (mixed_of n d a b) (whole_of n d)

-- ---- laws
first_low : (w a b : ℤ) → (a *ℤ (w +ℤ pos 0)) ≤ℤ (w *ℤ a +ℤ pos 0 *ℤ b)
first_low = follows 3 (λ w a b. a ⊗ (w ⊕ num (pos 0)) ≼ w ⊗ a ⊕ num (pos 0) ⊗ b because nat 0) tt

first_high : (w a b : ℤ) → (w *ℤ a +ℤ pos 0 *ℤ b) ≤ℤ (a *ℤ (w +ℤ pos 0))
first_high = follows 3 (λ w a b. w ⊗ a ⊕ num (pos 0) ⊗ b ≼ a ⊗ (w ⊕ num (pos 0)) because nat 0) tt

second_low : (w a b : ℤ) → (b *ℤ (pos 0 +ℤ w)) ≤ℤ (pos 0 *ℤ a +ℤ w *ℤ b)
second_low = follows 3 (λ w a b. b ⊗ (num (pos 0) ⊕ w) ≼ num (pos 0) ⊗ a ⊕ w ⊗ b because nat 0) tt

second_high : (w a b : ℤ) → (pos 0 *ℤ a +ℤ w *ℤ b) ≤ℤ (b *ℤ (pos 0 +ℤ w))
second_high = follows 3 (λ w a b. num (pos 0) ⊗ a ⊕ w ⊗ b ≼ b ⊗ (num (pos 0) ⊕ w) because nat 0) tt

both_sides : (z a : ℤ) → a ≤ℤ z → z ≤ℤ a → z ≡ a
both_sides z a h k = omega (arith, ints)

pub ends_keep_heights : EndsKeepHeights
ends_keep_heights w a b h =
    grind (arith, both_sides, rounded_not_below, first_low, rounded_not_above, first_high, second_low, second_high)

mix_low : (u v a b l : ℤ) → pos 0 ≤ℤ u → pos 0 ≤ℤ v → l ≤ℤ a → l ≤ℤ b → (l *ℤ (u +ℤ v)) ≤ℤ (u *ℤ a +ℤ v *ℤ b)
mix_low =
    follows 5 (λ u v a b l.
    num (pos 0) ≼ u ⇒ num (pos 0) ≼ v ⇒ l ≼ a ⇒ l ≼ b ⇒ l ⊗ (u ⊕ v) ≼ u ⊗ a ⊕ v
    ⊗ b because gap 0 ⊠ gap 2 ⊞ gap 1 ⊠ gap 3) tt

mix_high : (u v a b m : ℤ) → pos 0 ≤ℤ u → pos 0 ≤ℤ v → a ≤ℤ m → b ≤ℤ m → (u *ℤ a +ℤ v *ℤ b) ≤ℤ (m *ℤ (u +ℤ v))
mix_high =
    follows 5 (λ u v a b m.
    num (pos 0) ≼ u ⇒ num (pos 0) ≼ v ⇒ a ≼ m ⇒ b ≼ m ⇒ u ⊗ a ⊕ v ⊗ b ≼ m
    ⊗ (u ⊕ v) because gap 0 ⊠ gap 2 ⊞ gap 1 ⊠ gap 3) tt

pub heights_are_between : HeightsAreBetween
heights_are_between u v a b least most are la lb am bm =
    grind (arith, rounded_not_below, mix_low, rounded_not_above, mix_high)

one_ratio : (u v s t a b : ℤ) → u *ℤ t ≡ s *ℤ v → (u *ℤ a +ℤ v *ℤ b) *ℤ (s +ℤ t) ≡ (s *ℤ a +ℤ t *ℤ b) *ℤ (u +ℤ v)
one_ratio =
    follows 6 (λ u v s t a b. u ⊗ t ≐ s ⊗ v ⇒ (u ⊗ a ⊕ v ⊗ b) ⊗ (s ⊕ t) ≐ (s ⊗ a ⊕ t ⊗ b)
    ⊗ (u ⊕ v) because eqn 0 (a ⊖ b)) tt

pub heights_agree : HeightsAgree
heights_agree u v s t a b are also same =
    same_rounded (u *ℤ a +ℤ v *ℤ b) (u +ℤ v) (s *ℤ a +ℤ t *ℤ b) (s +ℤ t) are.some also.some (one_ratio u v s t a b same)
