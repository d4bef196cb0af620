-- Answers to the goals of `find` in src/paths.rt.
use Rattle.std.proofs.Common.{subst}
use Rattle.tin_base.specs.Triangulation.{Triangulation}
use Rattle.affine_image.specs.RoundedImages.{IsRoundedImage}
use Rattle.carry_map.proofs.paths.find.Goals as goal

pub returns-clause-image : goal.returns-clause-image
returns-clause-image c = subst (λ (tin : Triangulation). IsRoundedImage tin c.args.p c.image_of.result) c.tin.ensures
    c.image_of.ensures
