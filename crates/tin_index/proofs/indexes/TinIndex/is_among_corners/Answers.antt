-- Answers to the goals of `TinIndex::is_among_corners` in src/indexes.rt.
use Rattle.std.proofs.Common.{IsTrue, subst}
use Rattle.plane_base.specs.Plane.{whole}
use Rattle.tin_base.specs.declared.frames.Frame.TheVariants.{Source}
use Rattle.tin_base.specs.Images.{IsInSome}
use Rattle.tin_base.specs.Triangulation.{Triangulation}
use Rattle.tin_index.specs.Boxes.{IsNearCorners}
use Rattle.tin_index.proofs.Round.{round_has, round_near}
use Rattle.tin_index.proofs.indexes.TinIndex.is_among_corners.Goals as goal

pub returns-clause-has : goal.returns-clause-has
returns-clause-has c =
    subst (λ (tin : Triangulation). IsInSome tin Source (whole c.args.p) → IsTrue c.has_point.result) c.self.view_is
    (λ inside. c.has_point.ensures.1 (round_has c.self.inside.tin c.self.inside.round c.args.p c.show_soundness.ensures.limits
    (let kept = c.self.invariant in kept.round) inside))

pub returns-clause-near : goal.returns-clause-near
returns-clause-near c =
    λ yes.
    subst (λ (tin : Triangulation). IsNearCorners tin c.args.p) c.self.view_is
    (round_near c.self.inside.tin c.self.inside.round c.args.p c.show_soundness.ensures.limits
    (let kept = c.self.invariant in kept.round) (c.has_point.ensures.0 yes))
