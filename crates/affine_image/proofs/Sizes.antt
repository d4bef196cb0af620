-- How large the numbers on the way to an image are.
use Rattle.std.proofs.Common.{◌≡◌, ◌≤◌, ◌<◌, ◌^◌, ◌-◌, ◌*◌, ℤ, pos, negsuc, ◌+ℤ◌, ◌-ℤ◌, ◌*ℤ◌, ◌≤ℤ◌, ◌<ℤ◌, neg_ℤ}
use Rattle.std.proofs.Common.{unsigned_abs, SFits, arith, mul-le-mul, subst, sym}
use Rattle.std.proofs.lemmas.Int.{ints, unsigned_abs-mul}
use mir.Syntax.{w64, w128}
use Rattle.integer_ring.proofs.Ring.{num, ◌⊕◌}
use Rattle.integer_ring.proofs.Claims.{◌≐◌, ◌≼◌, gap, eqn, ◌⊞◌, ◌because◌, ◌⇒◌, follows}
use Rattle.frac128.specs.Sizes.{IsSmall}
use Rattle.frac128.specs.Rounding.{half_up_of}
use Rattle.frac128.specs.declared.frac.TheConstants.{TURN}
use Rattle.plane_base.specs.Plane.{IsShort}
use Rattle.plane_base.specs.declared.shapes.TheConstants.{SPAN}
use Rattle.affine_image.specs.Laws.{DoubledNumeratorsAreSmall}
use Rattle.affine_image.proofs.HalfUp.{mix_not_below, mix_not_above}

pub part_size : (w z : ℤ) → IsSmall w → IsShort z → pos (unsigned_abs (w *ℤ z)) <ℤ (TURN *ℤ SPAN)
part_size w z h k = grind (arith, unsigned_abs, unsigned_abs-mul, mul-le-mul)

pub part_fits : (z : ℤ) → pos (unsigned_abs z) <ℤ (TURN *ℤ SPAN) → SFits w128 z
part_fits z h = omega (arith, ints)

pub sum_fits : (p q : ℤ) → pos (unsigned_abs p) <ℤ (TURN *ℤ SPAN) → pos (unsigned_abs q) <ℤ (TURN *ℤ SPAN)
    → SFits w128 (p +ℤ q)
sum_fits p q h k = omega (arith, ints)

pub sum_small : (p q : ℤ) → pos (unsigned_abs p) <ℤ (TURN *ℤ SPAN) → pos (unsigned_abs q) <ℤ (TURN *ℤ SPAN)
    → unsigned_abs (p +ℤ q) < 2 ^ 120
sum_small p q h k = omega (arith, ints)

-- a share of a small number is small
share_small : (u v d : ℤ) → pos 0 ≤ℤ u → pos 0 ≤ℤ v → (u +ℤ v) ≤ℤ d → IsSmall d → IsSmall u × IsSmall v
share_small u v d hu hv hw h = (omega (arith, ints), omega (arith, ints))

part_most : (w z : ℤ) → IsSmall w → IsShort z
    → unsigned_abs (w *ℤ z) ≤ (unsigned_abs TURN - 1) * (unsigned_abs SPAN - 1)
part_most w z h k = grind (arith, unsigned_abs, unsigned_abs-mul, mul-le-mul)

doubled_small : (p q d : ℤ) → unsigned_abs p ≤ (unsigned_abs TURN - 1) * (unsigned_abs SPAN - 1)
    → unsigned_abs q ≤ (unsigned_abs TURN - 1) * (unsigned_abs SPAN - 1) → IsSmall d
    → unsigned_abs (pos 2 *ℤ (p +ℤ q) +ℤ d) < 2 ^ 96
doubled_small p q d h k l = omega (arith, ints)

pub doubled_numerators_are_small : DoubledNumeratorsAreSmall
doubled_numerators_are_small u v d s t hu hv hw h hs ht = grind (arith, share_small, doubled_small, part_most)

pub short_fits : (z : ℤ) → IsShort z → SFits w64 z
short_fits z h = omega (arith, ints)

between_fits : (r : ℤ) → neg_ℤ SPAN ≤ℤ r → r ≤ℤ SPAN → SFits w64 r
between_fits r h k = omega (arith, ints)

short_low : (z : ℤ) → IsShort z → neg_ℤ SPAN ≤ℤ z
short_low z h = omega (arith, ints)

short_high : (z : ℤ) → IsShort z → z ≤ℤ SPAN
short_high z h = omega (arith, ints)

pub offset_fits : (u v d s t r : ℤ) → pos 0 <ℤ d → pos 0 ≤ℤ u → pos 0 ≤ℤ v → (u +ℤ v) ≤ℤ d → IsShort s → IsShort t
    → r ≡ half_up_of (u *ℤ s +ℤ v *ℤ t) d → SFits w64 r
offset_fits u v d s t r h hu hv hw hs ht e =
    let l : neg_ℤ SPAN ≤ℤ half_up_of (u *ℤ s +ℤ v *ℤ t) d =
    mix_not_below u v d s t (neg_ℤ SPAN) h hu hv hw (omega (arith, ints)) (short_low s hs) (short_low t ht) in
    let m : half_up_of (u *ℤ s +ℤ v *ℤ t) d ≤ℤ SPAN =
    mix_not_above u v d s t SPAN h hu hv hw (omega (arith, ints)) (short_high s hs) (short_high t ht) in
    between_fits r (subst (λ (z : ℤ). neg_ℤ SPAN ≤ℤ z) (sym e) l) (subst (λ (z : ℤ). z ≤ℤ SPAN) (sym e) m)

-- between numbers that fit
pub place_fits : (a b c r : ℤ) → SFits w64 a → SFits w64 b → SFits w64 c
    → ((least : ℤ) → least ≤ℤ pos 0 → least ≤ℤ (b -ℤ a) → least ≤ℤ (c -ℤ a) → least ≤ℤ r)
    → ((most : ℤ) → pos 0 ≤ℤ most → (b -ℤ a) ≤ℤ most → (c -ℤ a) ≤ℤ most → r ≤ℤ most) → SFits w64 (a +ℤ r)
place_fits a b c r fa fb fc low high =
    let l = negsuc (2 ^ 63 - 1) -ℤ a in let m = pos (2 ^ 63 - 1) -ℤ a in
    let lr : l ≤ℤ r = low l (omega (arith, ints)) (omega (arith, ints)) (omega (arith, ints)) in
    let rm : r ≤ℤ m = high m (omega (arith, ints)) (omega (arith, ints)) (omega (arith, ints)) in
    omega (arith, ints)

-- no more than the whole, where there is no third weight
pub no_more : (n d u w : ℤ) → u ≡ n → w ≡ d → n ≤ℤ d → (u +ℤ pos 0) ≤ℤ w
no_more = follows 4 (λ n d u w. u ≐ n ⇒ w ≐ d ⇒ n ≼ d ⇒ u
    ⊕ num (pos 0) ≼ w because gap 2 ⊞ eqn 0 (num (pos 1)) ⊞ eqn 1 (num (negsuc 0))) tt
