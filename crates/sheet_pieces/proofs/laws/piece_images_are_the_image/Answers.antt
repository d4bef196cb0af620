-- Answers to the goals of `piece_images_are_the_image` in src/laws.rt.
use Rattle.sheet_pieces.proofs.SegmentImages.{piece_images_are_the_image}
use Rattle.sheet_pieces.proofs.laws.piece_images_are_the_image.Goals as goal

pub returns : goal.returns
returns c = piece_images_are_the_image
