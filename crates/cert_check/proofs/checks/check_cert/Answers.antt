-- Answers to the goals of `check_cert` in src/checks.rt.
use Rattle.cert_check.specs.Checks.{IsCertCause}
use Rattle.cert_check.proofs.CertCauses.{source_cert, migrated_of}
use Rattle.cert_check.proofs.PathLists.{exits}
use Rattle.cert_check.proofs.checks.check_cert.Goals as goal

pub returns-in_err-sheet-clause-cause : goal.returns-in_err-sheet-clause-cause
returns-in_err-sheet-clause-cause g c =
    exits (λ fault. IsCertCause c.args.tin.now c.args.source.now c.args.written.now
    (g.L.Layer.reads c.args.how c.args.source.now) (g.L.Layer.refuses c.args.how c.args.source.now)
    (g.L.Layer.text c.args.source.now c.args.how) c.args.cert.now fault)
    c.in_err-sheet.field-0.0 c.from_residual.result c.from_residual.ensures.1
    (source_cert c.args.tin.now c.args.source.now c.args.written.now (g.L.Layer.reads c.args.how c.args.source.now)
    (g.L.Layer.refuses c.args.how c.args.source.now) (g.L.Layer.text c.args.source.now c.args.how) c.args.cert.now
    c.in_err-sheet.field-0.0 c.in_err-sheet.ensures.cause)

pub returns-clause-migrated : goal.returns-clause-migrated
returns-clause-migrated g c =
    migrated_of c.args.tin.now c.args.source.now c.args.written.now (g.L.Layer.reads c.args.how c.args.source.now)
    (g.L.Layer.text c.args.source.now c.args.how) c.args.cert.now c.check_sheet.result
    c.check_sheet.ensures.certified
