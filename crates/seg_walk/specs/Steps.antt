-- The steps of a segment through a triangulation: its pieces, each with the slice of its triangle.
use Rattle.std.specs.Prelude.{◌≡◌, ◌≢◌, List, [], ◌∷◌, map}
use Rattle.plane_base.specs.declared.shapes.Pt.{Pt}
use Rattle.tin_base.specs.Triangulation.{Triangulation}
use Rattle.tin_base.specs.Segments.{at_a, Part, ArePiecesOf}
use Rattle.tin_base.specs.Slices.{spot_of, IsSliceIn}
use Rattle.seg_walk.specs.declared.steps.Step.{Step}

-- the piece that a step states
abbrev pub part_of : Step → Part
part_of step = record { triangle = step.tri; first = spot_of step.slice.lo; last = spot_of step.slice.hi }

-- and where the segment is one point
abbrev pub point_of : Step → Part
point_of step = record { triangle = step.tri; first = at_a; last = at_a }

-- each step has the slice of its triangle
abbrev pub HaveSlices : Triangulation → Pt → Pt → List Step → Type 0
HaveSlices tin a b [] = Unit {0}
HaveSlices tin a b (step ∷ steps) = IsSliceIn tin a b step.tri step.slice × HaveSlices tin a b steps

-- the steps are the pieces of the segment from a to b, with their slices
pub record AreSteps (tin : Triangulation) (a b : Pt) (steps : List Step) : Type 0 where
  pub parts : List Part
  pub pieces : ArePiecesOf tin a b parts
  pub of_point : a ≡ b → parts ≡ map point_of steps
  pub of_segment : a ≢ b → parts ≡ map part_of steps
  pub slices : HaveSlices tin a b steps
