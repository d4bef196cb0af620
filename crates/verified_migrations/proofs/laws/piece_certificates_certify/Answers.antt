-- Answers to the goals of `piece_certificates_certify` in src/laws.rt.
use Rattle.verified_migrations.proofs.PieceCertificates.{certify}
use Rattle.verified_migrations.proofs.laws.piece_certificates_certify.Goals as goal

pub returns : goal.returns
returns g c how tin source =
    certify c.pieces_are_rightly_certified.ensures tin source (g.L.Layer.reads how source) (g.L.Layer.text source how)
