-- Answers to the goals of `verify_as` in src/certificates.rt.
use Rattle.verify_mode.proofs.VerificationSteps.{uncertified_as}
use Rattle.verify_mode.proofs.certificates.verify_as.Goals as goal

pub returns-in-Err-clause-refused : goal.returns-in-Err-clause-refused
returns-in-Err-clause-refused g c =
    rw c.refuse_certificate.ensures
    (uncertified_as c.args.tin.now c.args.source.now c.args.written.now (g.L.Layer.reads c.args.how c.args.source.now)
    (g.L.Layer.refuses c.args.how c.args.source.now) (g.L.Layer.text c.args.source.now c.args.how) c.args.cert.now
    c.in-Err.fault c.in-Err.ensures.cause)
