-- The faults of a triangulation, and the order in which the first of them is named.
use Rattle.std.specs.Prelude.{◌≡◌, ◌⊎◌, ℕ, ◌<◌, pos, ◌<ℤ◌, List, [], ◌∷◌, length}
use Rattle.tin_base.specs.declared.frames.Frame.{Frame}
use Rattle.tin_base.specs.declared.frames.Frame.TheVariants.{Source, Target}
use Rattle.tin_base.specs.Triangulation.{Triangulation}
use Rattle.tin_base.specs.Soundness.{turn_in, DoFit, IsSound}
use Rattle.tin_check.specs.declared.faults.CheckFault.{CheckFault}
use Rattle.tin_check.specs.declared.faults.CheckFault.TheVariants.{Flat, TurnsOver, Meets, NoMemory}

-- what each fault says of a triangulation; running out of memory is no such fault
abbrev pub IsFault : Triangulation → CheckFault → Type 0
IsFault tin (Flat triangle frame) = (triangle < length tin.triangles) × (turn_in tin frame triangle ≡ pos 0)
IsFault tin (TurnsOver triangle) = (triangle < length tin.triangles)
    × ((turn_in tin Source triangle <ℤ pos 0) ⊎ (turn_in tin Target triangle <ℤ pos 0))
IsFault tin (Meets first second frame) = (first < second) × (second < length tin.triangles)
    × (DoFit tin frame first second → ⊥)
IsFault tin NoMemory = ⊥

-- the source before the target
abbrev pub frame_rank : Frame → ℕ
frame_rank Source = 0
frame_rank Target = 1

-- where a fault is in the order: triangles before pairs; of one triangle flat in the source, flat in the target,
-- turned over; of one pair the source before the target
abbrev pub rank : CheckFault → List ℕ
rank (Flat triangle frame) = 0 ∷ triangle ∷ frame_rank frame ∷ []
rank (TurnsOver triangle) = 0 ∷ triangle ∷ 2 ∷ []
rank (Meets first second frame) = 1 ∷ first ∷ second ∷ frame_rank frame ∷ []
rank NoMemory = 2 ∷ []

-- at the first place where two ranks differ the one has the lesser number
abbrev pub IsLowerRank : List ℕ → List ℕ → Type 0
IsLowerRank [] ns = ⊥
IsLowerRank (m ∷ ms) [] = ⊥
IsLowerRank (m ∷ ms) (n ∷ ns) = (m < n) ⊎ ((m ≡ n) × IsLowerRank ms ns)

-- a fault of the triangulation before which there is none
pub record IsFirstFault (tin : Triangulation) (fault : CheckFault) : Type 0 where
  pub is_one : IsFault tin fault
  pub none_before : (other : CheckFault) → IsLowerRank (rank other) (rank fault) → IsFault tin other → ⊥

-- what a refusal says: the first fault; running out of memory says nothing
abbrev pub IsCause : Triangulation → CheckFault → Type 0
IsCause tin (Flat triangle frame) = IsFirstFault tin (Flat triangle frame)
IsCause tin (TurnsOver triangle) = IsFirstFault tin (TurnsOver triangle)
IsCause tin (Meets first second frame) = IsFirstFault tin (Meets first second frame)
IsCause tin NoMemory = Unit {0}

-- a triangulation has one first fault at most
abbrev pub FirstFaultIsOne : Type 0
FirstFaultIsOne = (tin : Triangulation) (fault other : CheckFault) → IsFirstFault tin fault → IsFirstFault tin other
    → fault ≡ other

-- and it has one only where it is not sound
abbrev pub FaultsAreUnsound : Type 0
FaultsAreUnsound = (tin : Triangulation) (fault : CheckFault) → IsFault tin fault → IsSound tin → ⊥

-- each triangulation is sound or has a first fault
abbrev pub OutcomeExists : Type 0
OutcomeExists = (tin : Triangulation) → IsSound tin ⊎ ((fault : CheckFault) × IsFirstFault tin fault)
