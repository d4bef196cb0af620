-- Values or the first fault, one step after the other.
use Rattle.std.specs.Prelude.{Result, Ok, Err}
use Rattle.sheet_base.specs.declared.faults.LayerFault.{LayerFault}

-- the fault, or else what is made of the value
abbrev pub and_then : {A B : Type 0} → (A → Result B LayerFault) → Result A LayerFault → Result B LayerFault
and_then f (Ok value) = f value
and_then f (Err fault) = Err fault
