-- Answers to the goals of `image` in src/affine_image_tests.rt.
use Rattle.std.proofs.Common.{subst, List}
use Rattle.plane_base.specs.Plane.{Point, IsMix, whole}
use Rattle.tin_base.proofs.TriangleLemmas.TestAnswers.{told}
use Rattle.tin_tests.proofs.affine_image_tests.image.Goals as goal

pub image_of-requires-clause-inside : goal.image_of-requires-clause-inside
image_of-requires-clause-inside c = subst (λ (cs : List Point). IsMix (whole c.args.p) cs) c.tri-source.ensures.corners
    (told c.if-not-holds.ensures)
