-- Answers to the goals of `text_outcome_exists` in src/laws.rt.
use Rattle.cert_check.proofs.SomeCertificate.{text_outcome_exists}
use Rattle.cert_check.proofs.laws.text_outcome_exists.Goals as goal

pub returns : goal.returns
returns c = text_outcome_exists
