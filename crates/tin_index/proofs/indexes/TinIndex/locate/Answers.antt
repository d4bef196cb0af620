-- Answers to the goals of `TinIndex::locate` in src/indexes.rt.
use Rattle.std.proofs.Common.{ℕ, ◌<◌, IfSome, subst}
use Rattle.plane_base.specs.Plane.{whole}
use Rattle.tin_base.specs.declared.frames.Frame.TheVariants.{Source}
use Rattle.tin_base.specs.Triangulation.{Triangulation, IsInTriangle}
use Rattle.tin_index.proofs.indexes.TinIndex.locate.Goals as goal

pub returns-clause-least : goal.returns-clause-least
returns-clause-least c =
    subst (λ (tin : Triangulation). IfSome c.locate_in.result
    (λ t. (other : ℕ) → other < t → IsInTriangle tin Source other (whole c.args.p) → ⊥)) c.self.view_is
    c.locate_in.ensures.least
