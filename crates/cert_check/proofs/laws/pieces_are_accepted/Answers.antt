-- Answers to the goals of `pieces_are_accepted` in src/laws.rt.
use Rattle.cert_check.proofs.SheetCertificates.{pieces_accepted}
use Rattle.cert_check.proofs.laws.pieces_are_accepted.Goals as goal

pub returns : goal.returns
returns c = pieces_accepted
