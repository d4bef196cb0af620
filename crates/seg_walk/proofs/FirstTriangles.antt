-- A triangle with a part is not missed.
use Rattle.std.proofs.Common.{◌≡◌, ℕ, ◌<◌, pos, ◌+ℤ◌, List, sym, subst, length}
use Rattle.plane_base.specs.Plane.{Point, IsMix, corners_of}
use Rattle.plane_base.specs.declared.shapes.Pt.{Pt}
use Rattle.plane_base.specs.declared.shapes.Tri.{Tri}
use Rattle.tin_base.specs.declared.frames.Frame.TheVariants.{Source}
use Rattle.tin_base.specs.Triangulation.{Triangulation, numbers_of, places}
use Rattle.tin_base.specs.Limits.{IsWithinLimits}
use Rattle.tin_base.specs.Segments.{Spot, spot_at, IsShared}
use Rattle.tin_base.proofs.SegmentSpots.SegmentSlices.{in_spot}
use Rattle.tin_base.proofs.TriangleLemmas.TrianglePlaces.{stands}
use Rattle.seg_walk.specs.InsideStarts.{MissesTriangle}

pub not_missed : (tin : Triangulation) (a b : Pt) (t : ℕ) (s : Spot) → IsWithinLimits tin → t < length tin.triangles
    → MissesTriangle tin a b t → IsShared tin a b t s → ⊥
not_missed tin a b t s limits ht misses h = go (stands tin t limits ht)
  where
    go : (r : Tri) × (corners_of r ≡ places tin Source (numbers_of tin t)) → ⊥
    go r = misses r.0 r.1 (pos s.of_b) (pos s.of_a +ℤ pos s.of_b)
        (in_spot a b r.0 s h.some (subst (λ (ps : List Point). IsMix (spot_at a b s) ps) (sym r.1) h.inside))
