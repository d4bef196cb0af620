-- What holds of the list of all faults.
use Rattle.std.specs.Prelude.{◌≡◌, ◌↔◌, ℕ, ◌<◌, List, [], length, Contains}
use Rattle.tin_base.specs.Triangulation.{Triangulation}
use Rattle.tin_base.specs.Soundness.{IsSound}
use Rattle.tin_base.specs.declared.frames.Frame.{Frame}
use Rattle.tin_check.specs.declared.faults.CheckFault.{CheckFault}
use Rattle.tin_check.specs.declared.faults.CheckFault.TheVariants as checks
use Rattle.tin_check.specs.Faults.{IsFirstFault}
use Rattle.tin_faults.specs.declared.faults.Fault.{Fault}
use Rattle.tin_faults.specs.declared.faults.Fault.TheVariants.{Flat, TurnsOver, Overlap}
use Rattle.tin_faults.specs.Faults.{AreFaults, HasMoreFaults}

-- a triangulation has one list of all faults at most
abbrev pub FaultsAreOne : Type 0
FaultsAreOne = (tin : Triangulation) (faults others : List Fault) → AreFaults tin faults → AreFaults tin others
    → faults ≡ others

-- and it has one
abbrev pub FaultsExist : Type 0
FaultsExist = (tin : Triangulation) → (faults : List Fault) × AreFaults tin faults

-- there are none exactly where it is sound
abbrev pub NoneAreSound : Type 0
NoneAreSound = (tin : Triangulation) → AreFaults tin [] ↔ IsSound tin

-- the list has the fault that a check names first
abbrev pub HasFirst : List Fault → CheckFault → Type 0
HasFirst faults (checks.Flat triangle frame) = Contains faults (Flat frame triangle)
HasFirst faults (checks.TurnsOver triangle) = (frame : Frame) × Contains faults (TurnsOver frame triangle)
HasFirst faults (checks.Meets first second frame) = Contains faults (Overlap frame first second)
HasFirst faults checks.NoMemory = ⊥

abbrev pub FirstIsListed : Type 0
FirstIsListed = (tin : Triangulation) (faults : List Fault) (fault : CheckFault) → AreFaults tin faults
    → IsFirstFault tin fault → HasFirst faults fault

-- the list has more than some number of them exactly where the triangulation has
abbrev pub ListsAreCounted : Type 0
ListsAreCounted = (tin : Triangulation) (faults : List Fault) (most : ℕ) → AreFaults tin faults
    → HasMoreFaults tin most ↔ (most < length faults)
