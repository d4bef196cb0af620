-- Answers to the goals of `piece_triangles_are_right` in src/laws.rt.
use Rattle.cert_check.proofs.ListPoints.{pieces_right}
use Rattle.cert_check.proofs.laws.piece_triangles_are_right.Goals as goal

pub returns : goal.returns
returns c = pieces_right
