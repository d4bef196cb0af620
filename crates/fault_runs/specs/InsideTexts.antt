-- A text of faults. Only private functions speak of it.
use Rattle.std.specs.Prelude.{◌≡◌, ℕ, Bool, List}
use Rattle.fault_runs.specs.declared.spots.FaultSpot.{FaultSpot}
use Rattle.fault_runs.specs.FaultsText.{faults_text}
use Rattle.fault_runs.specs.Laws.{IsFaultsJson}

-- the text is one of faults, and is JSON
abbrev pub IsFaultsText : Bool → List ℕ → Type 0
IsFaultsText lines said = (faults : List FaultSpot) × (said ≡ faults_text lines faults) × IsFaultsJson lines faults
