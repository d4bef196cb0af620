-- The refusals of a list of points. Only private functions speak of them.
use Rattle.sheet_base.specs.declared.faults.LayerFault.{LayerFault}
use Rattle.sheet_base.specs.declared.faults.LayerFault.TheVariants as layers
use Rattle.tin_height.specs.declared.raises.RaiseFault.{RaiseFault}
use Rattle.tin_height.specs.declared.raises.RaiseFault.TheVariants as raises
use Rattle.runs.specs.declared.refusal.Refusal.{Refusal}
use Rattle.runs.specs.declared.refusal.Refusal.TheVariants.{Layer, Outside, NoMemory}

-- a list of points is layer 0
abbrev pub refusal_of_reading : LayerFault → Refusal
refusal_of_reading layers.NoMemory = NoMemory
refusal_of_reading fault = Layer 0 fault

-- a point is a path of one segment
abbrev pub refusal_of_raising : RaiseFault → Refusal
refusal_of_raising (raises.Outside point) = Outside 0 point 0
refusal_of_raising raises.NoMemory = NoMemory
