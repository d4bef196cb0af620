-- Answers to the goals of `is_in` in src/locations.rt.
use Rattle.std.proofs.Common.{◌↔◌, subst, IsTrue, List}
use Rattle.plane_base.specs.Plane.{Point, IsMix, whole}
use Rattle.tin_index.proofs.locations.is_in.Goals as goal

pub returns : goal.returns
returns c = subst (λ (cs : List Point). IsTrue c.has_point.result ↔ IsMix (whole c.args.p) cs) c.tri.ensures.corners
    c.has_point.ensures
