-- What an error is that a `?` passed on.
use Rattle.std.proofs.Common.{◌≡◌, ap}
use Rattle.std.specs.Prelude.{Result, Ok, Err, IsErrAnd}
use Rattle.sheet_base.specs.declared.faults.LayerFault.{LayerFault}

-- a fault that is handed on is the same
pub passed_on : {A : Type 0} (fault : LayerFault) (r : Result A LayerFault) → IsErrAnd r (λ f. f ≡ fault)
    → r ≡ Err fault
passed_on fault (Ok one) is = absurd is
passed_on fault (Err other) is = ap Err is
