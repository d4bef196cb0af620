-- Answers to the goals of `has_point` in src/meet_rel_piece_tests.rt.
use Rattle.std.proofs.Common.{List, subst}
use Rattle.plane_base.specs.Plane.{Point, IsMix, whole}
use Rattle.tin_tests.proofs.meet_rel_piece_tests.has_point.Goals as goal

pub returns : goal.returns
returns c = λ h. subst (λ (ps : List Point). IsMix (whole c.args.p) ps) c.tri.ensures.corners (c.does_hold.ensures h)
