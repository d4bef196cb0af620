-- The proof of the law `rounded_images_are_in_reach` in src/laws.rt.
use Rattle.affine_image.proofs.Reach.{rounded_images_are_in_reach}
use Rattle.affine_image.proofs.laws.rounded_images_are_in_reach.Goals as goal

pub returns : goal.returns
returns c = rounded_images_are_in_reach
