-- Answers that are handed on.
use Rattle.std.proofs.Common.{◌≡◌, sym, subst}
use Rattle.std.specs.Prelude.{Result, Err}
use Rattle.sheet_base.specs.declared.faults.LayerFault.{LayerFault}
use Rattle.sheet_base.specs.declared.faults.LayerFault.TheVariants as faults
use Rattle.gj_layer.specs.InsideNodes.{Gives}

-- an answer that is a fault gives what is wanted where that is the same fault
pub give_fault : {A B : Type 0} (R : A → B → Type 0) (r : Result A LayerFault) (wanted : Result B LayerFault)
    (fault : LayerFault) → r ≡ Err fault → ((fault ≡ faults.NoMemory → ⊥) → wanted ≡ Err fault)
    → Gives R r wanted
give_fault R r wanted fault is same = subst (λ q. Gives R q wanted) (sym is) same
