-- The slice of a triangle, and the part that begins at a parameter.
use Rattle.std.proofs.Common.{◌≡◌, ℕ, ◌*◌, ◌<◌, pos, ◌+ℤ◌, List, length, Option, Some, None, IfSome, sym, ◌∙◌, subst}
use Rattle.frac128.specs.declared.frac.Frac.{Frac}
use Rattle.frac128.specs.Fractions.{IsSameValue, IsBelow}
use Rattle.plane_base.specs.Plane.{Point, IsMix, corners_of}
use Rattle.plane_base.specs.Slices.{IsParam, IsCommon, AreEnds, IsWholeWay, slice_of}
use Rattle.plane_base.specs.declared.shapes.Pt.{Pt}
use Rattle.plane_base.specs.declared.shapes.Tri.{Tri}
use Rattle.plane_base.specs.declared.stretches.Stretch.{Stretch}
use Rattle.tin_base.specs.declared.frames.Frame.TheVariants.{Source}
use Rattle.tin_base.specs.Triangulation.{Triangulation, numbers_of, places}
use Rattle.tin_base.specs.Limits.{IsWithinLimits}
use Rattle.tin_base.specs.Segments.{Spot, spot_at, IsNotAfter, IsSameSpot, IsShared, IsPart}
use Rattle.tin_base.specs.Slices.{spot_of, IsSliceIn}
use Rattle.tin_base.proofs.SegmentSpots.Ends.{out_z, before_trans_left, before_trans_right, no_later_trans, up_to_same, from_same}
use Rattle.tin_base.proofs.SegmentSpots.Ends.{same_of}
use Rattle.tin_base.proofs.SegmentSpots.SegmentSlices.{SlicePart, slice_part, in_spot, from_z, upto_z}
use Rattle.tin_base.proofs.TriangleLemmas.TrianglePlaces.{moved_to, stands}
use Rattle.tin_base.proofs.SegmentSpots.Params.{at_spot, spot_is, spot_some, same_value, below}

-- ---- the slice of a triangle that is where one of the triangulation is
pub slice_told : (tin : Triangulation) (a b : Pt) (t : Tri) (u : ℕ) (answer : Option Stretch)
    → corners_of t ≡ places tin Source (numbers_of tin u) → slice_of a b t answer → IfSome answer (λ s. AreEnds a b t s)
    → (a ≡ b → IfSome answer (λ s. IsWholeWay s)) → IfSome answer (λ s. IsSliceIn tin a b u s)
slice_told tin a b t u None is common ends point = tt
slice_told tin a b t u (Some s) is common ends point =
    λ r e. (
      moved_to (λ (v : Tri). IsCommon a b v s) t r (is ∙ sym e) common,
      moved_to (λ (v : Tri). AreEnds a b v s) t
          r (is ∙ sym e) ends,
      point,
    )

-- ---- a slice that goes on is the part
pub part_told : (tin : Triangulation) (a b : Pt) (t : ℕ) (slice : Stretch) → IsWithinLimits tin
    → t < length tin.triangles → IsSliceIn tin a b t slice → IsBelow slice.lo slice.hi
    → IsPart tin a b t (spot_of slice.lo) (spot_of slice.hi)
part_told tin a b t slice limits ht told order = go (stands tin t limits ht)
  where
    by : SlicePart tin a b t slice → IsPart tin a b t (spot_of slice.lo) (spot_of slice.hi)
    by p = subst (λ (s : Spot). IsPart tin a b t (spot_of slice.lo) s) (sym (spot_is slice.hi p.last p.at_hi))
        (subst (λ (s : Spot). IsPart tin a b t s p.last) (sym (spot_is slice.lo p.first p.at_lo)) p.part)

    go : (r : Tri) × (corners_of r ≡ places tin Source (numbers_of tin t))
        → IsPart tin a b t (spot_of slice.lo) (spot_of slice.hi)
    go r = by (slice_part tin a b t r.0 slice ht r.1 (told r.0 r.1).0 order)

-- ---- both ends of a slice are parameters
pub record HasParams (slice : Stretch) : Type 0 where
  pub lo : IsParam slice.lo.num slice.lo.den
  pub hi : IsParam slice.hi.num slice.hi.den

pub params : (tin : Triangulation) (a b : Pt) (t : ℕ) (slice : Stretch) → IsWithinLimits tin → t < length tin.triangles
    → IsSliceIn tin a b t slice → HasParams slice
params tin a b t slice limits ht told = go (stands tin t limits ht)
  where
    go : (r : Tri) × (corners_of r ≡ places tin Source (numbers_of tin t)) → HasParams slice
    go r = let common = (told r.0 r.1).0 in record { lo = common.0.0; hi = common.1.0 }

-- ---- each spot of the triangle is from the slice's first to its last
pub within : (tin : Triangulation) (a b : Pt) (t : ℕ) (slice : Stretch) (s : Spot) → IsWithinLimits tin
    → t < length tin.triangles → IsSliceIn tin a b t slice → IsShared tin a b t s
    → IsNotAfter (spot_of slice.lo) s × IsNotAfter s (spot_of slice.hi)
within tin a b t slice s limits ht told h = go (stands tin t limits ht) (params tin a b t slice limits ht told)
  where
    go : (r : Tri) × (corners_of r ≡ places tin Source (numbers_of tin t)) → HasParams slice
        → IsNotAfter (spot_of slice.lo) s × IsNotAfter s (spot_of slice.hi)
    go r ends =
        let common = (told r.0 r.1).0 in
        let at_lo = at_spot slice.lo ends.lo in let at_hi = at_spot slice.hi ends.hi in
        let first = spot_of slice.lo in let last = spot_of slice.hi in
        let between = common.2 (pos s.of_b) (pos s.of_a +ℤ pos s.of_b)
        (in_spot a b r.0 s h.some (subst (λ (ps : List Point). IsMix (spot_at a b s) ps) (sym r.1) h.inside)) in (
          out_z (first.of_b * s.of_a) (s.of_b * first.of_a)
              (from_z slice.lo.num slice.lo.den (pos first.of_b) (pos first.of_a) (pos s.of_a) (pos s.of_b) at_lo.share
              at_lo.rest between.0),
          out_z (s.of_b * last.of_a) (last.of_b * s.of_a)
              (upto_z slice.hi.num slice.hi.den (pos last.of_b) (pos last.of_a) (pos s.of_a) (pos s.of_b) at_hi.share
              at_hi.rest between.1),
        )

-- ---- a triangle whose slice does not go on from a parameter has no part that begins there
pub not_begun : (tin : Triangulation) (a b : Pt) (t : ℕ) (slice : Stretch) (at : Frac) (f l : Spot) → IsWithinLimits tin
    → t < length tin.triangles → IsSliceIn tin a b t slice → IsParam at.num at.den
    → (IsSameValue slice.lo at × IsBelow slice.lo slice.hi → ⊥) → IsPart tin a b t f l → IsSameSpot f (spot_of at) → ⊥
not_begun tin a b t slice at f l limits ht told param out p begins = go (params tin a b t slice limits ht told)
  where
    go : HasParams slice → ⊥
    go ends =
        let has_f = p.has_first in let has_l = p.has_last in
        let lo = spot_of slice.lo in let hi = spot_of slice.hi in
        let by_f = within tin a b t slice f limits ht told p.has_first in
        let by_l = within tin a b t slice l limits ht told p.has_last in
        let lo_some = spot_some slice.lo ends.lo in
        let hi_some = spot_some slice.hi ends.hi in
        let at_some = spot_some at param in
        let order = below slice.lo slice.hi ends.lo ends.hi
        (before_trans_left lo f hi lo_some by_f.0 (before_trans_right f l hi hi_some p.differ by_l.1)) in
        let part = part_told tin a b t slice limits ht told order in
        let f_lo = p.none_before lo part.has_first in
        let upto = no_later_trans lo f (spot_of at) has_f.some by_f.0 (up_to_same f (spot_of at) begins) in
        let from = no_later_trans (spot_of at) f lo has_f.some (from_same f (spot_of at) begins) f_lo in
        out (same_value slice.lo at ends.lo param (same_of lo (spot_of at) upto from), order)
