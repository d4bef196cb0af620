-- The proof of the law `image_segments_are_pieces` in src/laws.rt.
use Rattle.sheet_pieces.proofs.PathSegments.{image_segments_are_pieces}
use Rattle.sheet_pieces.proofs.laws.image_segments_are_pieces.Goals as goal

pub returns : goal.returns
returns c = image_segments_are_pieces
