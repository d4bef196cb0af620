-- Pieces that begin at a given spot.
use Rattle.std.specs.Prelude.{◌≡◌, ℕ, ◌<◌, ℤ, List, length, Contains, Option, MatchOption}
use Rattle.plane_base.specs.Plane.{corners_of}
use Rattle.plane_base.specs.Slices.{IsIn}
use Rattle.plane_base.specs.declared.shapes.Pt.{Pt}
use Rattle.plane_base.specs.declared.shapes.Tri.{Tri}
use Rattle.tin_base.specs.declared.frames.Frame.TheVariants.{Source}
use Rattle.tin_base.specs.Triangulation.{Triangulation, numbers_of, places}
use Rattle.tin_base.specs.Segments.{Spot, IsSameSpot, IsPart}
use Rattle.seg_walk.specs.declared.steps.Step.{Step}
use Rattle.tin_base.specs.Slices.{spot_of, IsSliceIn}
use Rattle.seg_walk.specs.Steps.{part_of}

-- no point of the segment is in triangle t
abbrev pub MissesTriangle : Triangulation → Pt → Pt → ℕ → Type 0
MissesTriangle tin a b t = (r : Tri) → corners_of r ≡ places tin Source (numbers_of tin t) → (n d : ℤ) → IsIn a b r n d
    → ⊥

-- triangle u has no part that begins at the spot
abbrev pub HasNoPartFrom : Triangulation → Pt → Pt → Spot → ℕ → Type 0
HasNoPartFrom tin a b x u = (first last : Spot) → IsPart tin a b u first last → IsSameSpot first x → ⊥

-- none of the triangles below t has one
abbrev pub HasNoneFrom : Triangulation → Pt → Pt → Spot → ℕ → Type 0
HasNoneFrom tin a b x t = (u : ℕ) → u < t → HasNoPartFrom tin a b x u

-- the step is a triangle's part that begins at the spot
pub record IsPartFrom (tin : Triangulation) (a b : Pt) (x : Spot) (step : Step) : Type 0 where
  pub slice : IsSliceIn tin a b step.tri step.slice
  pub part : IsPart tin a b step.tri (part_of step).first (part_of step).last
  pub begins : IsSameSpot (spot_of step.slice.lo) x

-- and no lesser one of the numbers is of a triangle that has one
pub record IsLeastAmong (tin : Triangulation) (a b : Pt) (x : Spot) (numbers : List ℕ) (step : Step) : Type 0 where
  pub from : IsPartFrom tin a b x step
  pub least : (u : ℕ) → u < step.tri → Contains numbers u → HasNoPartFrom tin a b x u

-- and no lesser triangle at all has one
pub record IsStepFrom (tin : Triangulation) (a b : Pt) (x : Spot) (step : Step) : Type 0 where
  pub from : IsPartFrom tin a b x step
  pub least : HasNoneFrom tin a b x step.tri

-- the step with the least triangle that has a part from there, or none where no triangle has one
abbrev pub GoesOn : Triangulation → Pt → Pt → Spot → Option Step → Type 0
GoesOn tin a b x next = MatchOption next (HasNoneFrom tin a b x (length tin.triangles))
    (λ step. IsStepFrom tin a b x step)
