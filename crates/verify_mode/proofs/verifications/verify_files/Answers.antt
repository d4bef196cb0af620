-- Answers to the goals of `verify_files` in src/verifications.rt.
use Rattle.runs.proofs.PassedRefusals.{handed_on, refused_more}
use Rattle.verify_mode.proofs.VerificationSteps.{files_refused, files_causes, cert_refused, cert_causes}
use Rattle.verify_mode.proofs.VerificationSteps.{all_certified, on_ok_more}
use Rattle.verify_mode.proofs.verifications.verify_files.Goals as goal

pub returns-in_err-texts-clause-refused : goal.returns-in_err-texts-clause-refused
returns-in_err-texts-clause-refused g c =
    handed_on _ c.in_err-texts.field-0.0 c.from_residual.result c.from_residual.ensures.1
    (files_refused (g.S.Shelf.files c.args.shelf.now) c.args.verification.now c.args.tin.now _ _ c.in_err-texts.field-0.0 c.requires.way (λ rose. rose) c.in_err-texts.ensures.refused)

pub returns-in_err-texts-clause-causes : goal.returns-in_err-texts-clause-causes
returns-in_err-texts-clause-causes g c =
    handed_on _ c.in_err-texts.field-0.0 c.from_residual.result c.from_residual.ensures.1
    (files_causes (g.S.Shelf.files c.args.shelf.now) c.args.verification.now _ c.in_err-texts.field-0.0
    c.in_err-texts.ensures.refused)

pub returns-clause-certified : goal.returns-clause-certified
returns-clause-certified g c =
    on_ok_more _ _ c.verify_by_format.result
    (all_certified (g.S.Shelf.files c.args.shelf.now) c.args.verification.now c.args.tin.now
    c.known_format-format.result c.in_ok-texts.texts.source.items c.in_ok-texts.texts.written.items
    c.in_ok-texts.texts.cert.items c.requires.way (rw c.text.ensures at c.known_format-format.ensures)
    c.in_ok-texts.ensures.ok)
    (rw (c.deref.ensures.value, c.deref-2.ensures.value, c.deref-3.ensures.value) at
    c.verify_by_format.ensures.certified)

pub returns-clause-refused : goal.returns-clause-refused
returns-clause-refused g c =
    refused_more _ _ c.verify_by_format.result
    (λ refusal why. cert_refused (g.S.Shelf.files c.args.shelf.now) c.args.verification.now c.args.tin.now
    c.known_format-format.result c.in_ok-texts.texts.source.items c.in_ok-texts.texts.written.items
    c.in_ok-texts.texts.cert.items _ refusal c.requires.way (rw c.text.ensures at c.known_format-format.ensures)
    c.in_ok-texts.ensures.ok why)
    (rw (c.deref.ensures.value, c.deref-2.ensures.value, c.deref-3.ensures.value) at
    c.verify_by_format.ensures.refused)

pub returns-clause-causes : goal.returns-clause-causes
returns-clause-causes g c =
    refused_more _ _ c.verify_by_format.result
    (λ refusal why. cert_causes c.args.verification.now.how c.args.tin.now c.known_format-format.result _ _ _ _ _
    refusal why) c.verify_by_format.ensures.refused
