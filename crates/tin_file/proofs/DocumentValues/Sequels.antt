-- What follows on a value that was found, and on a fault.
use Rattle.std.proofs.Common.{◌≡◌, arith}
use Rattle.std.specs.Prelude.{Result, Ok, Err}
use Rattle.tin_file.specs.Keys.{and_then}
use Rattle.tin_file.specs.InsideNodes.{Gives, Equals}
use Rattle.tin_file.specs.declared.faults.TinFault.{TinFault}

pub equals_is : {A : Type 0} (result wanted : Result A TinFault) → result ≡ wanted → Equals result wanted
equals_is result wanted h = grind arith

-- a fault stays the fault
pub fault_stays : {A B C D : Type 0} (R : A → B → Type 0) (S : C → D → Type 0) (f : B → Result D TinFault)
    (fault : TinFault) (r : Result B TinFault)
    → Gives R (Err fault) r → Gives S (Err fault) (and_then f r)
fault_stays R S f fault r h = grind arith

-- what is made of a value
pub then_made : {A B C D : Type 0} (R : A → B → Type 0) (S : C → D → Type 0) (f : B → Result D TinFault) (one : A)
    (r : Result B TinFault) (made : Result C TinFault)
    → Gives R (Ok one) r → ((other : B) → R one other → Gives S made (f other)) → Gives S made (and_then f r)
then_made R S f one r made h on = grind arith
