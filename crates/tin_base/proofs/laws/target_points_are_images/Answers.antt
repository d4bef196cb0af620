-- The proof of the law `target_points_are_images` in src/laws.rt.
use Rattle.tin_base.proofs.FrameImages.Agreement.{each_is_image}
use Rattle.tin_base.proofs.laws.target_points_are_images.Goals as goal

pub returns : goal.returns
returns c = λ tin sound. each_is_image tin
