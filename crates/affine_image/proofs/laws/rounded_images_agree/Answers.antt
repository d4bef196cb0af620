-- The proof of the law `rounded_images_agree` in src/laws.rt.
use Rattle.affine_image.proofs.RoundedImages.{rounded_images_agree}
use Rattle.affine_image.proofs.laws.rounded_images_agree.Goals as goal

pub returns : goal.returns
returns c = rounded_images_agree
