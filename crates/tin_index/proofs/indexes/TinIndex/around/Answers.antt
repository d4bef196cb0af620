-- Answers to the goals of `TinIndex::around` in src/indexes.rt.
use Rattle.std.proofs.Common.{◌<◌, length, subst, sym, ◌∙◌}
use Rattle.tin_base.specs.Triangulation.{Triangulation}
use Rattle.tin_index.specs.Sides.{IsStar}
use Rattle.tin_index.proofs.TriangleStars.{star_is}
use Rattle.tin_index.proofs.indexes.TinIndex.around.Goals as goal

pub returns : goal.returns
returns c =
    let stars = c.self.invariant.stars in
    let within = subst (λ (tin : Triangulation). c.args.corner < length tin.corners) (sym c.self.view_is) c.requires in
    subst (λ (tin : Triangulation). IsStar tin c.args.corner c.at.result.now) c.self.view_is
    (star_is c.self.inside.tin c.args.corner c.at.result.now (c.at.ensures ∙ stars.each c.args.corner within))
