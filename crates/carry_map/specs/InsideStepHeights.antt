-- Steps that each end at a parameter from 0 to 1.
use Rattle.std.specs.Prelude.{List, [], ◌∷◌}
use Rattle.plane_base.specs.Slices.{IsParam}
use Rattle.seg_walk.specs.declared.steps.Step.{Step}

-- each step's part ends at a parameter
abbrev pub HaveParams : List Step → Type 0
HaveParams [] = Unit {0}
HaveParams (step ∷ steps) = IsParam step.slice.hi.num step.slice.hi.den × HaveParams steps
