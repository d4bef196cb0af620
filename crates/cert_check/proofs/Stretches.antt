-- The stretch of a triangle, and the part that begins at a parameter.
use Rattle.std.specs.Prelude.{Option, Some, None, IfSome, IfNone}
use Rattle.std.proofs.Common.{◌≡◌, ℕ, ◌<◌, ℤ, pos, ◌+ℤ◌, List, length, sym, subst, arith}
use Rattle.frac128.specs.declared.frac.Frac.{Frac}
use Rattle.frac128.specs.Fractions.{IsSameValue, IsBelow}
use Rattle.plane_base.specs.Plane.{Point, IsMix, corners_of}
use Rattle.plane_base.specs.Slices.{IsParam, IsIn, slice_of}
use Rattle.plane_base.specs.declared.shapes.Pt.{Pt}
use Rattle.plane_base.specs.declared.shapes.Tri.{Tri}
use Rattle.plane_base.specs.declared.stretches.Stretch.{Stretch}
use Rattle.tin_base.specs.declared.frames.Frame.TheVariants.{Source}
use Rattle.tin_base.specs.Triangulation.{Triangulation, numbers_of, places}
use Rattle.tin_base.specs.Limits.{IsWithinLimits}
use Rattle.tin_base.specs.Segments.{Spot, spot_at, IsInside, IsShared}
use Rattle.tin_base.specs.Slices.{spot_of, IsSliceIn, AreNearTriangle}
use Rattle.tin_base.proofs.SegmentSpots.SegmentSlices.{in_spot}
use Rattle.tin_base.proofs.SegmentSpots.Params.{same_spot}
use Rattle.tin_base.proofs.SegmentSpots.SlicedParts.{part_told, params}
use Rattle.cert_check.specs.InsideSlices.{IsPartAt}

-- ---- a triangle without a common point shares no spot
not_shared : (tin : Triangulation) (a b : Pt) (t : ℕ) (r : Tri)
    → corners_of r ≡ places tin Source (numbers_of tin t)
    → ((n d : ℤ) → IsIn a b r n d → ⊥) → (s : Spot) → IsShared tin a b t s → ⊥
not_shared tin a b t r stands none s h =
    none (pos s.of_b) (pos s.of_a +ℤ pos s.of_b)
    (in_spot a b r s h.some (subst (λ (ps : List Point). IsMix (spot_at a b s) ps) (sym stands) h.inside))

-- ---- a stretch that goes on from the parameter
pub part_here : (tin : Triangulation) (a b : Pt) (t : ℕ) (slice : Stretch) (at : Frac) → IsWithinLimits tin
    → t < length tin.triangles → IsSliceIn tin a b t slice → AreNearTriangle tin a b t → IsParam at.num at.den
    → IsSameValue slice.lo at × IsBelow slice.lo slice.hi → IsPartAt tin a b t (spot_of at) slice
part_here tin a b t slice at limits ht told near param goes =
    grind (
      arith,
      params tin a b t slice limits ht told,
      part_told tin a b t slice limits ht told goes.1,
      same_spot slice.lo at,
    )

pub near_some : (answer : Option Stretch) (P : Type 0) → P → IfSome answer (λ _. P)
near_some answer P p = grind arith

pub none_shared : (tin : Triangulation) (a b : Pt) (t : ℕ) (r : Tri) (answer : Option Stretch)
    → corners_of r ≡ places tin Source (numbers_of tin t) → slice_of a b r answer
    → IfNone answer (IsInside tin a b → (s : Spot) → IsShared tin a b t s → ⊥)
none_shared tin a b t r None stands none = λ inside s h. not_shared tin a b t r stands none s h
none_shared tin a b t r (Some stretch) stands common = tt
