-- The proof of the law `different_points_have_different_images` in src/laws.rt.
use Rattle.tin_base.proofs.FrameImages.Agreement.{images_differ}
use Rattle.tin_base.proofs.laws.different_points_have_different_images.Goals as goal

pub returns : goal.returns
returns c = images_differ
