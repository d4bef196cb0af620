-- Memory that runs out is no fault of what is read step by step.
use Rattle.std.proofs.Common.{◌≡◌, Bool, true, false, cond, Result, Ok, Err, ap}
use Rattle.sheet_base.specs.declared.faults.LayerFault.{LayerFault}
use Rattle.sheet_base.specs.declared.faults.LayerFault.TheVariants.{NoMemory}
use Rattle.sheet_base.specs.Faults.{and_then}

-- the result is not that memory ran out
abbrev pub Never : {A : Type 0} → Result A LayerFault → Type 0
Never {A} result = ◌≡◌ {A = Result A LayerFault} result (Err NoMemory) → ⊥

-- neither is what a further step makes of it
pub never_then : {A B : Type 0} (f : A → Result B LayerFault) (result : Result A LayerFault) → Never result
    → ((value : A) → Never (f value)) → Never (and_then f result)
never_then f (Ok value) first later = later value
never_then f (Err fault) first later = λ is. let same : fault ≡ NoMemory = cc in first (ap Err same)

-- neither is one of two such results
pub never_either : {A : Type 0} (test : Bool) (one other : Result A LayerFault) → Never one → Never other
    → Never (cond test one other)
never_either true one other first second = first
never_either false one other first second = second
