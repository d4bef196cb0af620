-- Answers to the goals of `check_sheet` in src/checks.rt.
use Rattle.std.proofs.lemmas.Result.{IfErr-weaker}
use Rattle.sheet_base.specs.Splices.{splice_of}
use Rattle.cert_check.specs.Checks.{IsCertCause}
use Rattle.cert_check.specs.InsideSheetLists.{IsTextCause}
use Rattle.cert_check.proofs.CertCauses.{count_cert, image_cert, certified_text, other_text}
use Rattle.cert_check.proofs.PathLists.{exits}
use Rattle.cert_check.proofs.checks.check_sheet.Goals as goal

pub returns-in_err-count_lists-clause-cause : goal.returns-in_err-count_lists-clause-cause
returns-in_err-count_lists-clause-cause g c =
    exits (λ fault. IsCertCause c.args.tin.now c.args.source.now c.args.written.now
    (g.L.Layer.reads c.args.how c.args.source.now) (g.L.Layer.refuses c.args.how c.args.source.now)
    (g.L.Layer.text c.args.source.now c.args.how) c.args.cert.now fault)
    c.in_err-count_lists.field-0.0 c.from_residual.result c.from_residual.ensures.1
    (count_cert c.args.tin.now c.args.source.now c.args.written.now (g.L.Layer.reads c.args.how c.args.source.now)
    (g.L.Layer.refuses c.args.how c.args.source.now) (g.L.Layer.text c.args.source.now c.args.how) c.args.cert.now
    c.args.sheet.now c.in_err-count_lists.field-0.0 c.requires.sheet c.in_err-count_lists.ensures.cause)

pub returns-in_err-images-clause-cause : goal.returns-in_err-images-clause-cause
returns-in_err-images-clause-cause g c =
    exits (λ fault. IsCertCause c.args.tin.now c.args.source.now c.args.written.now
    (g.L.Layer.reads c.args.how c.args.source.now) (g.L.Layer.refuses c.args.how c.args.source.now)
    (g.L.Layer.text c.args.source.now c.args.how) c.args.cert.now fault)
    c.in_err-images.field-0.0 c.from_residual-in_err-images.result c.from_residual-in_err-images.ensures.1
    (image_cert c.args.tin.now c.args.source.now c.args.written.now (g.L.Layer.reads c.args.how c.args.source.now)
    (g.L.Layer.refuses c.args.how c.args.source.now) (g.L.Layer.text c.args.source.now c.args.how) c.args.cert.now
    c.args.sheet.now c.in_err-images.field-0.0 c.requires.sheet c.in_err-images.ensures.cause)

pub returns-clause-certified : goal.returns-clause-certified
returns-clause-certified g c =
    certified_text c.args.tin.now c.args.source.now c.args.written.now (g.L.Layer.reads c.args.how c.args.source.now)
    (g.L.Layer.text c.args.source.now c.args.how) c.args.cert.now c.args.sheet.now c.in_ok-images.images
    c.compare_layer.result c.show_soundness.ensures.sound c.requires.sheet c.in_ok-images.ensures.right
    c.in_ok-images.ensures.images c.compare_layer.ensures.same

pub returns-clause-cause : goal.returns-clause-cause
returns-clause-cause g c =
    IfErr-weaker c.compare_layer.result
    (λ fault. IsTextCause (splice_of c.args.source.now
    (g.L.Layer.text c.args.source.now c.args.how c.args.sheet.now c.in_ok-images.images) c.args.sheet.now.edits)
    c.args.written.now fault)
    (λ fault. IsCertCause c.args.tin.now c.args.source.now c.args.written.now
    (g.L.Layer.reads c.args.how c.args.source.now) (g.L.Layer.refuses c.args.how c.args.source.now)
    (g.L.Layer.text c.args.source.now c.args.how) c.args.cert.now fault)
    (λ fault cause. other_text c.args.tin.now c.args.source.now c.args.written.now
    (g.L.Layer.reads c.args.how c.args.source.now) (g.L.Layer.refuses c.args.how c.args.source.now)
    (g.L.Layer.text c.args.source.now c.args.how) c.args.cert.now c.args.sheet.now c.in_ok-images.images fault
    c.requires.sheet c.in_ok-images.ensures.right c.in_ok-images.ensures.images cause)
    c.compare_layer.ensures.cause
