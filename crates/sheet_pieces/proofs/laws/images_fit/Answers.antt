-- The proof of the law `images_fit` in src/laws.rt.
use Rattle.sheet_pieces.proofs.SheetImages.{images_fit}
use Rattle.sheet_pieces.proofs.laws.images_fit.Goals as goal

pub returns : goal.returns
returns c = images_fit
