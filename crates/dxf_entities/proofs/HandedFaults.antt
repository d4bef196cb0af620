-- A fault that is handed on is the one of what is read.
use Rattle.std.proofs.Common.{◌≡◌, List, sym, subst, Result, Ok, Err}
use Rattle.std.specs.Prelude.{IsErrAnd}
use Rattle.sheet_base.specs.Sheets.{Contents}
use Rattle.sheet_base.specs.declared.faults.LayerFault.{LayerFault}
use Rattle.dxf_entities.specs.Shapes.{Shape}
use Rattle.dxf_entities.specs.DrawingContents.{RefusesBy, Reads}

-- a fault that is handed on is the one of what is read
pub handed_on : (wanted : Result (List Shape) LayerFault) (before now : Contents) (fault : LayerFault)
    (answer : Result (Unit {0}) LayerFault) → IsErrAnd answer (λ other. other ≡ fault) → RefusesBy wanted fault
    → Reads wanted before answer now
handed_on wanted before now fault (Ok done) is refused = absurd is
handed_on wanted before now fault (Err other) is refused = subst (RefusesBy wanted) (sym is) refused
