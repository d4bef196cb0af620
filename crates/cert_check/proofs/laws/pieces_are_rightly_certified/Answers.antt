-- Answers to the goals of `pieces_are_rightly_certified` in src/laws.rt.
use Rattle.cert_check.proofs.PieceRows.{sheet_certified}
use Rattle.cert_check.proofs.laws.pieces_are_rightly_certified.Goals as goal

pub returns : goal.returns
returns c = sheet_certified
