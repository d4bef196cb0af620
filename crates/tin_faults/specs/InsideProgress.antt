-- How far the list of faults has come. Only private functions speak of it.
use Rattle.std.specs.Prelude.{◌≡◌, ◌⊎◌, ℕ, pos, ◌<ℤ◌, List, [], ◌∷◌, Contains, Option, Some, None}
use Rattle.tin_base.specs.declared.frames.Frame.{Frame}
use Rattle.tin_base.specs.Triangulation.{Triangulation}
use Rattle.tin_base.specs.Soundness.{turn_in}
use Rattle.tin_check.specs.Faults.{IsLowerRank}
use Rattle.tin_faults.specs.declared.faults.Fault.{Fault}
use Rattle.tin_faults.specs.declared.faults.Fault.TheVariants.{Flat, TurnsOver, Overlap}
use Rattle.tin_faults.specs.Faults.{IsFaultOf, rank_of, AreInOrder}

-- where the faults of a triangle of a frame begin, and those of a pair
abbrev pub triangle_key : ℕ → ℕ → List ℕ
triangle_key frame triangle = 0 ∷ frame ∷ triangle ∷ []

abbrev pub pair_key : ℕ → ℕ → ℕ → List ℕ
pair_key frame first second = 1 ∷ frame ∷ first ∷ second ∷ []

-- the fault comes before the key
abbrev pub IsPassed : List ℕ → Fault → Type 0
IsPassed key fault = IsLowerRank (rank_of fault) key

-- the list has the faults before the key, and no others, in order
pub record HasFaultsBefore (tin : Triangulation) (key : List ℕ) (faults : List Fault) : Type 0 where
  pub in_order : AreInOrder faults
  pub each : (fault : Fault) → Contains faults fault → IsFaultOf tin fault × IsPassed key fault
  pub all : (fault : Fault) → IsFaultOf tin fault → IsPassed key fault → Contains faults fault

-- the fault of a triangle's turn, where it has one
abbrev pub IsTurnFault : Triangulation → Frame → ℕ → Option Fault → Type 0
IsTurnFault tin frame triangle None = pos 0 <ℤ turn_in tin frame triangle
IsTurnFault tin frame triangle (Some fault) = (fault ≡ Flat frame triangle ⊎ fault ≡ TurnsOver frame triangle)
    × IsFaultOf tin fault

-- each triangle that does not fit together with the first one is of the list
abbrev pub DoListOverlaps : Triangulation → Frame → ℕ → List ℕ → Type 0
DoListOverlaps tin frame first seconds = (second : ℕ) → IsFaultOf tin (Overlap frame first second)
    → Contains seconds second
