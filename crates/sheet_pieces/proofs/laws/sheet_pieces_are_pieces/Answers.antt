-- The proof of the law `sheet_pieces_are_pieces` in src/laws.rt.
use Rattle.sheet_pieces.proofs.SinglePieces.{sheet_pieces_are_pieces}
use Rattle.sheet_pieces.proofs.laws.sheet_pieces_are_pieces.Goals as goal

pub returns : goal.returns
returns c = sheet_pieces_are_pieces
