-- A run has an outcome, and just one, and the text of faults is JSON.
use Rattle.std.specs.Prelude.{◌≡◌, ℕ, ◌<◌, ◌^◌, Bool, List, length, Option, None, Some}
use Rattle.std.specs.List.{AllByRecursion}
use Rattle.shelf_io.specs.Files.{Files}
use Rattle.jtext.specs.Texts.{Whole, IsWhole}
use Rattle.change_places.specs.Laws.{IsPointHeld}
use Rattle.runs.specs.declared.status.Status.{Status}
use Rattle.fault_runs.specs.declared.spots.TriangleSpot.{TriangleSpot}
use Rattle.fault_runs.specs.declared.spots.FaultSpot.{FaultSpot}
use Rattle.fault_runs.specs.FaultsText.{faults_text}
use Rattle.fault_runs.specs.FaultsValue.{faults_value, faults_whole}
use Rattle.fault_runs.specs.Outcome.{HasOutcome}

-- two outcomes of the same words and files have the same status and the same text; where files have the same name, the
-- first of them is meant
abbrev pub OutcomeIsOne : Type 0
OutcomeIsOne =
    (words : List (List ℕ)) (files : Files) (status other : Status) (made others : Files)
    → HasOutcome words files status made → HasOutcome words files other others
    → (status ≡ other) × (made ≡ others)

-- words and files have an outcome
abbrev pub OutcomeExists : Type 0
OutcomeExists = (words : List (List ℕ)) (files : Files) → (status : Status) × (made : Files)
    × HasOutcome words files status made

-- ---- the text of faults
-- numbers fit their fields
pub record IsTriangleHeld (spot : TriangleSpot) : Type 0 where
  pub triangle : spot.triangle < 2 ^ 32
  pub a : spot.a < 2 ^ 32
  pub b : spot.b < 2 ^ 32
  pub c : spot.c < 2 ^ 32
  pub at_a : IsPointHeld spot.at_a
  pub at_b : IsPointHeld spot.at_b
  pub at_c : IsPointHeld spot.at_c

abbrev pub IsOtherHeld : Option TriangleSpot → Type 0
IsOtherHeld None = Unit {0}
IsOtherHeld (Some spot) = IsTriangleHeld spot

pub record IsFaultHeld (fault : FaultSpot) : Type 0 where
  pub first : IsTriangleHeld fault.first
  pub second : IsOtherHeld fault.second

-- how deep the text nests at most: with lines a position is seven levels deep
abbrev pub faults_depth : ℕ
faults_depth = 7

-- the text is that of the faults' value, and of no other
pub record IsFaultsJson (lines : Bool) (faults : List FaultSpot) : Type 0 where
  pub whole : IsWhole faults_depth (faults_whole lines faults) (faults_text lines faults)
  pub one : (depth : ℕ) (other : Whole) → IsWhole depth other (faults_text lines faults)
      → other.value ≡ faults_value lines faults

abbrev pub FaultsAreJson : Type 0
FaultsAreJson = (lines : Bool) (faults : List FaultSpot) → AllByRecursion IsFaultHeld faults → length faults < 2 ^ 64
    → IsFaultsJson lines faults
