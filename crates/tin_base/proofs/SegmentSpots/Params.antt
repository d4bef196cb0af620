-- Parameters from 0 to 1 as spots: their order is the order of the values.
use Rattle.std.proofs.Common.{◌≡◌, ℕ, ◌*◌, ◌<◌, ℤ, pos, ◌-ℤ◌, ◌*ℤ◌, ◌≤ℤ◌, ◌<ℤ◌, unsigned_abs, ap, arith}
use Rattle.std.proofs.lemmas.Int.{ints}
use Rattle.integer_ring.proofs.Ring.{num, neg, ◌⊖◌, ◌⊗◌}
use Rattle.integer_ring.proofs.Order.{≤-to-nonneg}
use Rattle.integer_ring.proofs.Claims.{◌≐◌, ◌≺◌, over, eqn, ◌⊞◌, ◌because◌, ◌⇒◌, follows}
use Rattle.frac128.specs.declared.frac.Frac.{Frac}
use Rattle.frac128.specs.Fractions.{IsSameValue, IsBelow}
use Rattle.plane_base.specs.Slices.{IsParam}
use Rattle.tin_base.specs.Segments.{Spot, IsBefore, IsSameSpot}
use Rattle.tin_base.proofs.SegmentSpots.Ends.{IsSpot}
use Rattle.tin_base.proofs.SegmentSpots.SegmentSlices.{IsSpotAt}
use Rattle.tin_base.specs.Slices.{spot_of}
use Rattle.plain_laws.proofs.Weights.{share_some}

abs_is : (z : ℤ) → pos 0 ≤ℤ z → z ≡ pos (unsigned_abs z)
abs_is z h = omega (arith, ints)

pub at_spot : (f : Frac) → IsParam f.num f.den → IsSpotAt f.num f.den (spot_of f)
at_spot f h = record { share = abs_is f.num h.1; rest = abs_is (f.den -ℤ f.num) (≤-to-nonneg f.num f.den h.2) }

pub spot_some : (f : Frac) → IsParam f.num f.den → IsSpot (spot_of f)
spot_some f h = let s = at_spot f h in share_some f.num f.den (spot_of f).of_b (spot_of f).of_a s.share s.rest h.0

pub spot_is : (f : Frac) (s : Spot) → IsSpotAt f.num f.den s → spot_of f ≡ s
spot_is f s h = grind (arith, unsigned_abs)

-- ---- orders
same_z : (n d m e k l s t : ℤ) → n ≡ k → d -ℤ n ≡ l → m ≡ t → e -ℤ m ≡ s → n *ℤ e ≡ m *ℤ d → k *ℤ s ≡ t *ℤ l
same_z = follows 8 (λ n d m e k l s t. n ≐ k ⇒ d ⊖ n ≐ l ⇒ m ≐ t ⇒ e ⊖ m ≐ s ⇒ n ⊗ e ≐ m ⊗ d ⇒ k ⊗ s ≐ t
    ⊗ l because eqn 4 (num (pos 1)) ⊞ eqn 0 (neg (e ⊖ m)) ⊞ eqn 3 (neg k) ⊞ eqn 2 (d ⊖ n) ⊞ eqn 1 t) tt

back_same_z : (n d m e k l s t : ℤ) → n ≡ k → d -ℤ n ≡ l → m ≡ t → e -ℤ m ≡ s → k *ℤ s ≡ t *ℤ l → n *ℤ e ≡ m *ℤ d
back_same_z = follows 8 (λ n d m e k l s t. n ≐ k ⇒ d ⊖ n ≐ l ⇒ m ≐ t ⇒ e ⊖ m ≐ s ⇒ k ⊗ s ≐ t ⊗ l ⇒ n ⊗ e ≐ m
    ⊗ d because eqn 4 (num (pos 1)) ⊞ eqn 0 (e ⊖ m) ⊞ eqn 3 k ⊞ eqn 2 (neg (d ⊖ n)) ⊞ eqn 1 (neg t)) tt

back_less_z : (n d m e k l s t : ℤ) → n ≡ k → d -ℤ n ≡ l → m ≡ t → e -ℤ m ≡ s → (k *ℤ s) <ℤ (t *ℤ l)
    → (n *ℤ e) <ℤ (m *ℤ d)
back_less_z = follows 8 (λ n d m e k l s t. n ≐ k ⇒ d ⊖ n ≐ l ⇒ m ≐ t ⇒ e ⊖ m ≐ s ⇒ k ⊗ s ≺ t ⊗ l ⇒ n ⊗ e ≺ m
    ⊗ d because over 4 ⊞ eqn 0 (e ⊖ m) ⊞ eqn 3 k ⊞ eqn 2 (neg (d ⊖ n)) ⊞ eqn 1 (neg t)) tt

out_same : (m n : ℕ) → pos m ≡ pos n → m ≡ n
out_same m n e = omega (arith, ints)

less_in : (m n : ℕ) → m < n → pos m <ℤ pos n
less_in m n h = omega (arith, ints)

pub same_spot : (f g : Frac) → IsParam f.num f.den → IsParam g.num g.den → IsSameValue f g
    → IsSameSpot (spot_of f) (spot_of g)
same_spot f g hf hg e =
    let s = at_spot f hf in let t = at_spot g hg in
    out_same ((spot_of f).of_b * (spot_of g).of_a) ((spot_of g).of_b * (spot_of f).of_a)
    (same_z f.num f.den g.num g.den (pos (spot_of f).of_b) (pos (spot_of f).of_a) (pos (spot_of g).of_a)
    (pos (spot_of g).of_b) s.share s.rest t.share t.rest e)

pub same_value : (f g : Frac) → IsParam f.num f.den → IsParam g.num g.den → IsSameSpot (spot_of f) (spot_of g)
    → IsSameValue f g
same_value f g hf hg e =
    let s = at_spot f hf in let t = at_spot g hg in
    back_same_z f.num f.den g.num g.den (pos (spot_of f).of_b) (pos (spot_of f).of_a) (pos (spot_of g).of_a)
    (pos (spot_of g).of_b) s.share s.rest t.share t.rest (ap pos e)

pub below : (f g : Frac) → IsParam f.num f.den → IsParam g.num g.den → IsBefore (spot_of f) (spot_of g) → IsBelow f g
below f g hf hg h = grind (arith, at_spot, back_less_z, less_in)
