-- The proof of the law `cuts_are_images` in src/laws.rt.
use Rattle.affine_image.proofs.CornerSegments.{cuts_are_images}
use Rattle.affine_image.proofs.laws.cuts_are_images.Goals as goal

pub returns : goal.returns
returns c = cuts_are_images
