-- All faults of a triangulation, in order.
use Rattle.std.specs.Prelude.{◌≡◌, ◌≢◌, ◌↔◌, ℕ, ◌<◌, pos, ◌<ℤ◌, List, [], ◌∷◌, length, Contains}
use Rattle.std.specs.List.{AllByRecursion}
use Rattle.tin_base.specs.Triangulation.{Triangulation}
use Rattle.tin_base.specs.Soundness.{turn_in, DoFit}
use Rattle.tin_check.specs.Faults.{frame_rank, IsLowerRank}
use Rattle.tin_faults.specs.declared.faults.Fault.{Fault}
use Rattle.tin_faults.specs.declared.faults.Fault.TheVariants.{Flat, TurnsOver, Overlap}

-- what each fault says of a triangulation; a triangle that is flat in a frame is a fault of its own there, and of no pair
abbrev pub IsFaultOf : Triangulation → Fault → Type 0
IsFaultOf tin (Flat frame triangle) = (triangle < length tin.triangles) × (turn_in tin frame triangle ≡ pos 0)
IsFaultOf tin (TurnsOver frame triangle) = (triangle < length tin.triangles) × (turn_in tin frame triangle <ℤ pos 0)
IsFaultOf tin (Overlap frame first second) = (first < second) × (second < length tin.triangles)
    × (turn_in tin frame first ≢ pos 0) × (turn_in tin frame second ≢ pos 0) × (DoFit tin frame first second → ⊥)

-- where a fault is in the order: triangles before pairs, the source before the target, and then by the numbers
abbrev pub rank_of : Fault → List ℕ
rank_of (Flat frame triangle) = 0 ∷ frame_rank frame ∷ triangle ∷ []
rank_of (TurnsOver frame triangle) = 0 ∷ frame_rank frame ∷ triangle ∷ []
rank_of (Overlap frame first second) = 1 ∷ frame_rank frame ∷ first ∷ second ∷ []

-- the one comes before the other
abbrev pub IsBefore : Fault → Fault → Type 0
IsBefore fault other = IsLowerRank (rank_of fault) (rank_of other)

-- each comes before all that are after it in the list, so each is there once
abbrev pub AreInOrder : List Fault → Type 0
AreInOrder [] = Unit {0}
AreInOrder (fault ∷ faults) = AllByRecursion (λ other. IsBefore fault other) faults × AreInOrder faults

-- all faults of the triangulation, and no others, in order
pub record AreFaults (tin : Triangulation) (faults : List Fault) : Type 0 where
  pub in_order : AreInOrder faults
  pub exact : (fault : Fault) → Contains faults fault ↔ IsFaultOf tin fault

-- it has more faults than this number
pub record HasMoreFaults (tin : Triangulation) (most : ℕ) : Type 0 where
  pub faults : List Fault
  pub in_order : AreInOrder faults
  pub each : AllByRecursion (λ fault. IsFaultOf tin fault) faults
  pub more : most < length faults
