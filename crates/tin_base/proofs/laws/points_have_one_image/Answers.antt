-- The proof of the law `points_have_one_image` in src/laws.rt.
use Rattle.tin_base.proofs.FrameImages.Agreement.{each_has_image, all_images_agree}
use Rattle.tin_base.proofs.laws.points_have_one_image.Goals as goal

pub returns : goal.returns
returns c = λ tin sound. (each_has_image tin, all_images_agree tin sound)
