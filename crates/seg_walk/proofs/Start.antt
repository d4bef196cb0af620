-- The first step: from the least triangle that has the first point.
use Rattle.std.proofs.Common.{◌≡◌, ◌⊎◌, inl, inr, ℕ, ◌<◌, ◌<ℤ◌, unsigned_abs, length, refl, sym}
use Rattle.std.proofs.Common.{subst, arith}
use Rattle.frac128.specs.declared.frac.Frac.{Frac}
use Rattle.frac128.specs.Fractions.{IsBelow}
use Rattle.plane_base.specs.Plane.{whole}
use Rattle.plane_base.specs.Slices.{IsParam}
use Rattle.plane_base.specs.declared.shapes.Pt.{Pt}
use Rattle.plane_base.specs.declared.stretches.Stretch.{Stretch}
use Rattle.plane_base.proofs.MixLaws.Mixes.{mix_moved, same_sym}
use Rattle.tin_base.specs.declared.frames.Frame.TheVariants.{Source}
use Rattle.tin_base.specs.Triangulation.{Triangulation, numbers_of, places, IsInTriangle}
use Rattle.tin_base.specs.Soundness.{IsSound}
use Rattle.tin_base.specs.Limits.{IsWithinLimits}
use Rattle.tin_base.specs.Segments.{Spot, spot_at, at_a, IsBefore, IsNotAfter, IsSameSpot, IsShared}
use Rattle.tin_base.proofs.SegmentSpots.Ends.{IsSpot, before_or, no_later_trans, up_to_same}
use Rattle.tin_base.proofs.PieceChains.Further.{start_is}
use Rattle.tin_base.proofs.SegmentSpots.Spots.{one, spot-w}
use Rattle.seg_walk.specs.declared.steps.Step.{Step}
use Rattle.tin_base.specs.Slices.{spot_of, IsSliceIn}
use Rattle.seg_walk.specs.InsideStarts.{MissesTriangle, IsStepFrom}
use Rattle.tin_base.proofs.SegmentSpots.SlicedParts.{params, part_told, within}
use Rattle.seg_walk.proofs.FirstTriangles.{not_missed}
use Rattle.tin_base.proofs.SegmentSpots.Params.{spot_some, below}
use Rattle.tin_base.proofs.PieceChains.Apart.{begun}

-- ---- the first point as a spot
shared_a : (tin : Triangulation) (a b : Pt) (t : ℕ) → IsInTriangle tin Source t (whole a) → IsShared tin a b t at_a
shared_a tin a b t m = record {
  some = omega arith;
  inside =
      mix_moved (whole a) (spot_at a b at_a) (places tin Source (numbers_of tin t)) one (start_is a b at_a refl) m;
}

in_a : (tin : Triangulation) (a b : Pt) (t : ℕ) → IsShared tin a b t at_a → IsInTriangle tin Source t (whole a)
in_a tin a b t h = mix_moved (spot_at a b at_a) (whole a) (places tin Source (numbers_of tin t))
    (spot-w a b at_a h.some) (same_sym (spot_at a b at_a) (whole a) (start_is a b at_a refl)) h.inside

pub first_not_missed : (tin : Triangulation) (a b : Pt) (t : ℕ) → IsWithinLimits tin → t < length tin.triangles
    → IsInTriangle tin Source t (whole a) → MissesTriangle tin a b t → ⊥
first_not_missed tin a b t limits ht m misses = not_missed tin a b t at_a limits ht misses (shared_a tin a b t m)

no_share : (s : Spot) → IsNotAfter s at_a → s.of_b ≡ 0
no_share s h = omega arith

is_first : (s : Spot) → s.of_b ≡ 0 → IsSameSpot s at_a
is_first s e = grind arith

-- ---- the slice begins there
from_first : (tin : Triangulation) (a b : Pt) (t : ℕ) (slice : Stretch) → IsWithinLimits tin → t < length tin.triangles
    → IsSliceIn tin a b t slice → IsInTriangle tin Source t (whole a) → (spot_of slice.lo).of_b ≡ 0
from_first tin a b t slice limits ht told m =
    no_share (spot_of slice.lo) (within tin a b t slice at_a limits ht told (shared_a tin a b t m)).0

-- and goes on: it is the first step
pub goes_on : (tin : Triangulation) (a b : Pt) (t : ℕ) (slice : Stretch) (step : Step) → IsWithinLimits tin
    → IsSound tin → t < length tin.triangles → IsSliceIn tin a b t slice → IsInTriangle tin Source t (whole a)
    → ((other : ℕ) → other < t → IsInTriangle tin Source other (whole a) → ⊥) → IsBelow slice.lo slice.hi
    → step ≡ record { tri = t; slice = slice } → IsStepFrom tin a b at_a step
goes_on tin a b t slice step limits sound ht told m least order is =
    subst (λ (s : Step). IsStepFrom tin a b at_a s) (sym is)
    (record {
      from = record {
        slice = told;
        part = part_told tin a b t slice limits ht told order;
        begins =
            is_first (spot_of slice.lo) (from_first tin a b t slice limits ht told m);
      };
      least = λ u h f l p same. least u h (in_a tin a b u (begun tin a b u at_a f l sound (omega arith) p same));
    })

-- or it is the first point alone
pub ends_there : (tin : Triangulation) (a b : Pt) (t : ℕ) (slice : Stretch) → IsWithinLimits tin
    → t < length tin.triangles → IsSliceIn tin a b t slice → IsInTriangle tin Source t (whole a)
    → (IsBelow slice.lo slice.hi → ⊥) → (spot_of slice.hi).of_b ≡ 0
ends_there tin a b t slice limits ht told m out =
    let ends = params tin a b t slice limits ht told in
    go ends.lo ends.hi (before_or (spot_of slice.lo) (spot_of slice.hi))
  where
    go : IsParam slice.lo.num slice.lo.den → IsParam slice.hi.num slice.hi.den
        → IsBefore (spot_of slice.lo) (spot_of slice.hi) ⊎ IsNotAfter (spot_of slice.hi) (spot_of slice.lo)
        → (spot_of slice.hi).of_b ≡ 0
    go lo hi (inl h) = absurd (out (below slice.lo slice.hi lo hi h))
    go lo hi (inr h) = no_share (spot_of slice.hi)
        (no_later_trans (spot_of slice.hi) (spot_of slice.lo) at_a (spot_some slice.lo lo) h
        (up_to_same (spot_of slice.lo) at_a (is_first (spot_of slice.lo)
        (from_first tin a b t slice limits ht told m))))

pub far_from_end : (f : Frac) → (spot_of f).of_b ≡ 0 → f.num <ℤ f.den
far_from_end f e = grind (arith, unsigned_abs)

-- ---- spots with no share of b are one
pub to_first : (x f : Spot) → IsSpot x → x.of_b ≡ 0 → IsSameSpot f x → IsSameSpot f at_a
to_first x f some e same = grind (arith, is_first)

pub from_first_spot : (x f : Spot) → x.of_b ≡ 0 → IsSameSpot f at_a → IsSameSpot f x
from_first_spot x f e same = grind arith
