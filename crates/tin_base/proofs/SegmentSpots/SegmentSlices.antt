-- The slice of a segment by a triangle is the triangle's part: fractions along the segment as spots.
use Rattle.std.proofs.Common.{◌≡◌, ℕ, ◌+◌, ◌*◌, ◌<◌, ℤ, pos, ◌+ℤ◌, ◌-ℤ◌, ◌*ℤ◌, ◌≤ℤ◌, ◌<ℤ◌, List, sym, subst, refl}
use Rattle.std.proofs.Common.{length, arith}
use Rattle.std.proofs.lemmas.Int.{ints}
use Rattle.integer_ring.proofs.Ring.{neg, ◌⊕◌, ◌⊖◌, ◌⊗◌}
use Rattle.integer_ring.proofs.Order.{to_nat, ≤-to-nonneg}
use Rattle.integer_ring.proofs.Claims.{◌≐◌, ◌≼◌, ◌≺◌, gap, over, eqn, ◌⊞◌, ◌because◌, ◌⇒◌, follows}
use Rattle.plane_base.specs.Plane.{Point, IsMix, whole, corners_of, along}
use Rattle.plane_base.specs.declared.shapes.Pt.{Pt}
use Rattle.plane_base.specs.declared.shapes.Tri.{Tri}
use Rattle.plane_base.specs.Slices.{IsParam, IsIn, IsCommon}
use Rattle.plane_base.specs.declared.stretches.Stretch.{Stretch}
use Rattle.plane_base.proofs.MixLaws.Mixes.{same_refl, same_moved, same_trans}
use Rattle.plane_base.proofs.MixLaws.Along.{along-w}
use Rattle.tin_base.specs.declared.frames.Frame.TheVariants.{Source}
use Rattle.tin_base.specs.Triangulation.{Triangulation, numbers_of, places}
use Rattle.tin_base.specs.Segments.{Spot, spot_at, IsPart}
use Rattle.tin_base.proofs.SegmentSpots.Spots.{spot-w}
use Rattle.tin_base.proofs.SegmentSpots.Ends.{IsSpot, out_z}
use Rattle.plain_laws.proofs.Weights.{share_some, share_axis}
pub use Rattle.plain_laws.proofs.Weights.{share_axis as one_axis}

-- the spot at n/d
pub record IsSpotAt (n d : ℤ) (s : Spot) : Type 0 where
  pub share : n ≡ pos s.of_b
  pub rest : d -ℤ n ≡ pos s.of_a

spot_of : (n d : ℤ) → IsParam n d → (s : Spot) × IsSpotAt n d s
spot_of n d h = go (to_nat n h.1) (to_nat (d -ℤ n) (≤-to-nonneg n d h.2))
  where
    go : (k : ℕ) × (n ≡ pos k) → (l : ℕ) × (d -ℤ n ≡ pos l) → (s : Spot) × IsSpotAt n d s
    go k l = (record { of_a = l.0; of_b = k.0 }, record { share = k.1; rest = l.1 })

param_of : (k l : ℕ) → 0 < l + k → IsParam (pos k) (pos l +ℤ pos k)
param_of k l h = (omega (arith, ints), omega (arith, ints), omega (arith, ints))

itself : (k l : ℕ) → pos l +ℤ pos k -ℤ pos k ≡ pos l
itself k l = omega (arith, ints)

pub mix_by : (p q : Point) (ps : List Point) → pos 0 <ℤ p.w → q.x ≡ p.x → q.y ≡ p.y → q.w ≡ p.w → IsMix p ps
    → IsMix q ps
mix_by p q ps h ex ey ew m = (m.0, m.1, m.2, same_trans q p _ h (same_moved q q p ex ey ew (same_refl q)) m.3)

spot_in : (a b : Pt) (r : Tri) (n d : ℤ) (s : Spot) → IsSpotAt n d s → IsIn a b r n d
    → IsMix (spot_at a b s) (corners_of r)
spot_in a b r n d s at h = grind (arith, mix_by, along-w, share_axis)

pub in_spot : (a b : Pt) (r : Tri) (s : Spot) → IsSpot s → IsMix (spot_at a b s) (corners_of r)
    → IsIn a b r (pos s.of_b) (pos s.of_a +ℤ pos s.of_b)
in_spot a b r s some m =
    let k = pos s.of_b in let l = pos s.of_a in
    let e = itself s.of_b s.of_a in (
      param_of s.of_b s.of_a some,
      mix_by (spot_at a b s) (along (whole a) (whole b) k (l +ℤ k)) (corners_of r) (spot-w a b s some)
          (share_axis k (l +ℤ k) k l a.x b.x refl e) (share_axis k (l +ℤ k) k l a.y b.y refl e)
          (share_axis k (l +ℤ k) k l (pos 1) (pos 1) refl e) m,
    )

-- orders: of fractions, as of spots
pub from_z : (n d k l s t : ℤ) → n ≡ k → d -ℤ n ≡ l → (n *ℤ (s +ℤ t)) ≤ℤ (t *ℤ d) → (k *ℤ s) ≤ℤ (t *ℤ l)
from_z = follows 6 (λ n d k l s t. n ≐ k ⇒ d ⊖ n ≐ l ⇒ n ⊗ (s ⊕ t) ≼ t ⊗ d ⇒ k ⊗ s ≼ t
    ⊗ l because gap 2 ⊞ eqn 0 (neg s) ⊞ eqn 1 t) tt

pub upto_z : (n d k l s t : ℤ) → n ≡ k → d -ℤ n ≡ l → (t *ℤ d) ≤ℤ (n *ℤ (s +ℤ t)) → (t *ℤ l) ≤ℤ (k *ℤ s)
upto_z = follows 6 (λ n d k l s t. n ≐ k ⇒ d ⊖ n ≐ l ⇒ t ⊗ d ≼ n ⊗ (s ⊕ t) ⇒ t ⊗ l ≼ k
    ⊗ s because gap 2 ⊞ eqn 0 s ⊞ eqn 1 (neg t)) tt

less_z : (n d m e k l s t : ℤ) → n ≡ k → d -ℤ n ≡ l → m ≡ t → e -ℤ m ≡ s → (n *ℤ e) <ℤ (m *ℤ d) → (k *ℤ s) <ℤ (t *ℤ l)
less_z = follows 8 (λ n d m e k l s t. n ≐ k ⇒ d ⊖ n ≐ l ⇒ m ≐ t ⇒ e ⊖ m ≐ s ⇒ n ⊗ e ≺ m ⊗ d ⇒ k ⊗ s ≺ t
    ⊗ l because over 4 ⊞ eqn 0 (neg (e ⊖ m)) ⊞ eqn 3 (neg k) ⊞ eqn 2 (d ⊖ n) ⊞ eqn 1 t) tt

less_out : (m n : ℕ) → pos m <ℤ pos n → m < n
less_out m n h = omega (arith, ints)

-- the part that a slice of two different parameters gives
pub record SlicePart (tin : Triangulation) (a b : Pt) (t : ℕ) (slice : Stretch) : Type 0 where
  pub first : Spot
  pub last : Spot
  pub at_lo : IsSpotAt slice.lo.num slice.lo.den first
  pub at_hi : IsSpotAt slice.hi.num slice.hi.den last
  pub part : IsPart tin a b t first last

pub slice_part : (tin : Triangulation) (a b : Pt) (t : ℕ) (r : Tri) (slice : Stretch) → t < length tin.triangles
    → corners_of r ≡ places tin Source (numbers_of tin t) → IsCommon a b r slice
    → (slice.lo.num *ℤ slice.hi.den) <ℤ (slice.hi.num *ℤ slice.lo.den) → SlicePart tin a b t slice
slice_part tin a b t r slice ht is common order =
    go (spot_of slice.lo.num slice.lo.den common.0.0) (spot_of slice.hi.num slice.hi.den common.1.0)
  where
    there : (p : Point) → IsMix p (corners_of r) → IsMix p (places tin Source (numbers_of tin t))
    there p m = subst (λ (ps : List Point). IsMix p ps) is m

    back : (p : Point) → IsMix p (places tin Source (numbers_of tin t)) → IsMix p (corners_of r)
    back p m = subst (λ (ps : List Point). IsMix p ps) (sym is) m

    go : (s : Spot) × IsSpotAt slice.lo.num slice.lo.den s → (s : Spot) × IsSpotAt slice.hi.num slice.hi.den s
        → SlicePart tin a b t slice
    go f l =
        let at_lo = f.1 in let at_hi = l.1 in
        let first = f.0 in let last = l.0 in
        record {
          first = first;
          last = last;
          at_lo = at_lo;
          at_hi = at_hi;
          part = record {
            in_range = ht;
            has_first = record {
              some = share_some slice.lo.num slice.lo.den first.of_b first.of_a at_lo.share
                  at_lo.rest slice.lo.positive;
              inside =
                  there (spot_at a b first) (spot_in a b r slice.lo.num slice.lo.den first at_lo common.0);
            };
            has_last = record {
              some = share_some slice.hi.num slice.hi.den last.of_b last.of_a at_hi.share at_hi.rest
                  slice.hi.positive;
              inside = there (spot_at a b last)
                  (spot_in a b r slice.hi.num slice.hi.den last at_hi common.1);
            };
            differ = less_out (first.of_b * last.of_a) (last.of_b * first.of_a)
                (less_z slice.lo.num slice.lo.den slice.hi.num slice.hi.den (pos first.of_b) (pos first.of_a)
                (pos last.of_a) (pos last.of_b) at_lo.share at_lo.rest at_hi.share at_hi.rest order);
            none_before = λ s h. out_z (first.of_b * s.of_a) (s.of_b * first.of_a)
                (from_z slice.lo.num slice.lo.den (pos first.of_b) (pos first.of_a) (pos s.of_a) (pos s.of_b)
                at_lo.share at_lo.rest (common.2 (pos s.of_b) (pos s.of_a +ℤ pos s.of_b)
                (in_spot a b r s h.some (back (spot_at a b s) h.inside))).0);
            none_after = λ s h. out_z (s.of_b * last.of_a) (last.of_b * s.of_a)
                (upto_z slice.hi.num slice.hi.den (pos last.of_b) (pos last.of_a) (pos s.of_a) (pos s.of_b) at_hi.share
                at_hi.rest (common.2 (pos s.of_b) (pos s.of_a +ℤ pos s.of_b)
                (in_spot a b r s h.some (back (spot_at a b s) h.inside))).1);
          };
        }
