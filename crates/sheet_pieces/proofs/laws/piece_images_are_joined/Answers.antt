-- The proof of the law `piece_images_are_joined` in src/laws.rt.
use Rattle.sheet_pieces.proofs.PieceParts.{piece_images_are_joined}
use Rattle.sheet_pieces.proofs.laws.piece_images_are_joined.Goals as goal

pub returns : goal.returns
returns c = piece_images_are_joined
