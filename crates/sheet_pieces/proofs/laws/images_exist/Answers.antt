-- The proof of the law `images_exist` in src/laws.rt.
use Rattle.sheet_pieces.proofs.SomeImages.{images_exist}
use Rattle.sheet_pieces.proofs.laws.images_exist.Goals as goal

pub returns : goal.returns
returns c = images_exist
