-- Answers to the goals of `verify_by_format` in src/certificates.rt.
use Rattle.std.proofs.Common.{IfErr, OnOk, sym, subst}
use Rattle.job_words.specs.declared.formats.Format.{Format}
use Rattle.verify_mode.specs.Certificates.{IsCertifiedAs, IsUncertified}
use Rattle.verify_mode.proofs.certificates.verify_by_format.Goals as goal

pub returns-in-Wkt-by_format-clause-certified : goal.returns-in-Wkt-by_format-clause-certified
returns-in-Wkt-by_format-clause-certified c =
    subst (λ (format : Format). OnOk c.by_format-verify_as.result
    (IsCertifiedAs c.args.how c.args.tin.now format c.args.source.now c.args.written.now c.args.cert.now))
    (sym c.in-Wkt-by_format.is) c.by_format-verify_as.ensures.certified

pub returns-in-Wkt-by_format-clause-refused : goal.returns-in-Wkt-by_format-clause-refused
returns-in-Wkt-by_format-clause-refused c =
    subst (λ (format : Format). IfErr c.by_format-verify_as.result
    (λ refusal. IsUncertified c.args.how c.args.tin.now format c.args.source.now c.args.written.now c.args.cert.now
    refusal)) (sym c.in-Wkt-by_format.is) c.by_format-verify_as.ensures.refused

pub returns-in-GeoJson-by_format-clause-certified : goal.returns-in-GeoJson-by_format-clause-certified
returns-in-GeoJson-by_format-clause-certified c =
    subst (λ (format : Format). OnOk c.by_format-verify_as-2.result
    (IsCertifiedAs c.args.how c.args.tin.now format c.args.source.now c.args.written.now c.args.cert.now))
    (sym c.in-GeoJson-by_format.is) c.by_format-verify_as-2.ensures.certified

pub returns-in-GeoJson-by_format-clause-refused : goal.returns-in-GeoJson-by_format-clause-refused
returns-in-GeoJson-by_format-clause-refused c =
    subst (λ (format : Format). IfErr c.by_format-verify_as-2.result
    (λ refusal. IsUncertified c.args.how c.args.tin.now format c.args.source.now c.args.written.now c.args.cert.now
    refusal)) (sym c.in-GeoJson-by_format.is) c.by_format-verify_as-2.ensures.refused

pub returns-in-Drawing-by_format-clause-certified : goal.returns-in-Drawing-by_format-clause-certified
returns-in-Drawing-by_format-clause-certified c =
    subst (λ (format : Format). OnOk c.by_format-verify_as-3.result
    (IsCertifiedAs c.args.how c.args.tin.now format c.args.source.now c.args.written.now c.args.cert.now))
    (sym c.in-Drawing-by_format.is) c.by_format-verify_as-3.ensures.certified

pub returns-in-Drawing-by_format-clause-refused : goal.returns-in-Drawing-by_format-clause-refused
returns-in-Drawing-by_format-clause-refused c =
    subst (λ (format : Format). IfErr c.by_format-verify_as-3.result
    (λ refusal. IsUncertified c.args.how c.args.tin.now format c.args.source.now c.args.written.now c.args.cert.now
    refusal)) (sym c.in-Drawing-by_format.is) c.by_format-verify_as-3.ensures.refused
