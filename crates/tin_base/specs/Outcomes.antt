-- Each segment has its pieces, or some point of it is in no triangle.
use Rattle.std.specs.Prelude.{◌⊎◌, List}
use Rattle.plane_base.specs.declared.shapes.Pt.{Pt}
use Rattle.tin_base.specs.Triangulation.{Triangulation}
use Rattle.tin_base.specs.Soundness.{IsSound}
use Rattle.tin_base.specs.Segments.{Part, IsInside, ArePiecesOf}

-- For each sound triangulation
abbrev pub OutcomeExists : Type 0
OutcomeExists = (tin : Triangulation) → IsSound tin → (a b : Pt)
    → ((parts : List Part) × ArePiecesOf tin a b parts × IsInside tin a b) ⊎ (IsInside tin a b → ⊥)
