-- The outcome of a layer's bytes: a sheet or a first fault, one of them, and just one.
use Rattle.std.specs.Prelude.{◌≡◌, ◌⊎◌, ℕ, List}
use Rattle.sheet_base.specs.declared.faults.LayerFault.{LayerFault}
use Rattle.sheet_base.specs.declared.faults.LayerFault.TheVariants.{NoMemory}
use Rattle.sheet_base.specs.declared.flags.How.{How}
use Rattle.sheet_base.specs.Sheets.{Contents}

-- Of bytes that a format reads as these sheets and refuses by these faults: they have one sheet at most, or one fault
-- at most, and not both.
pub record HasOneOutcome (reads : Contents → Type 0) (refuses : LayerFault → Type 0) : Type 0 where
  pub one_sheet : (sheet other : Contents) → reads sheet → reads other → sheet ≡ other
  pub one_fault : (fault other : LayerFault) → refuses fault → refuses other → fault ≡ other
  pub apart : (sheet : Contents) (fault : LayerFault) → reads sheet → refuses fault → ⊥

-- they have a sheet or a fault
abbrev pub HasOutcome : (Contents → Type 0) → (LayerFault → Type 0) → Type 0
HasOutcome reads refuses = ((sheet : Contents) × reads sheet) ⊎ ((fault : LayerFault) × refuses fault)

-- the laws of a format: this is so of all bytes, whatever is refused, left out or passed over
abbrev pub OutcomeIsOne : (How → List ℕ → Contents → Type 0) → (How → List ℕ → LayerFault → Type 0) → Type 0
OutcomeIsOne reads refuses = (how : How) (bytes : List ℕ) → HasOneOutcome (reads how bytes) (refuses how bytes)

abbrev pub OutcomeExists : (How → List ℕ → Contents → Type 0) → (How → List ℕ → LayerFault → Type 0) → Type 0
OutcomeExists reads refuses = (how : How) (bytes : List ℕ) → HasOutcome (reads how bytes) (refuses how bytes)

-- that memory runs out is no fault of any bytes
abbrev pub MemoryIsNoFault : (How → List ℕ → LayerFault → Type 0) → Type 0
MemoryIsNoFault refuses = (how : How) (bytes : List ℕ) → refuses how bytes NoMemory → ⊥
