-- Answers to the goals of `has_point` in src/right_lists.rt.
use Rattle.std.proofs.Common.{List, sym, subst, arith}
use Rattle.plane_base.specs.Plane.{Point, whole, IsMix}
use Rattle.affine_image.proofs.Near.{near_corners}
use Rattle.cert_check.proofs.ListPasses.{refused, never}
use Rattle.cert_check.proofs.right_lists.has_point.Goals as goal

pub returns-then-not-is_near_corners : goal.returns-then-not-is_near_corners
returns-then-not-is_near_corners c =
    never _ (λ h. refused c.is_near_corners.result _ c.if-not-is_near_corners.true c.is_near_corners.ensures
    (near_corners c.tri-corners.result c.args.p c.tri-corners.ensures.near
    (subst (λ (ps : List Point). IsMix (whole c.args.p) ps) (sym c.tri-corners.ensures.corners) h.1)))

pub returns : goal.returns
returns c = (
  λ h. (
    omega arith,
    subst (λ (ps : List Point). IsMix (whole c.args.p) ps) c.tri-corners.ensures.corners
        (c.holds.ensures.0 h),
  ),
  λ h. c.holds.ensures.1 (subst (λ (ps : List Point). IsMix (whole c.args.p) ps) (sym c.tri-corners.ensures.corners)
      h.1),
)
