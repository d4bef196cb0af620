-- Answers to the goals of `prepare_verification` in src/verifications.rt.
use Rattle.runs.proofs.BytesPassed.{passed_since}
use Rattle.runs.proofs.PassedRefusals.{handed_on}
use Rattle.verify_mode.proofs.VerificationSteps.{tin_refused, tin_causes, causes_more, output_verified}
use Rattle.verify_mode.proofs.verifications.prepare_verification.Goals as goal

pub returns-in_err-tin-clause-refused : goal.returns-in_err-tin-clause-refused
returns-in_err-tin-clause-refused g c =
    handed_on _ c.in_err-tin.field-0.0 c.from_residual.result c.from_residual.ensures.1
    (tin_refused (g.S.Shelf.files c.args.shelf.now) c.args.verification.now _ _ c.in_err-tin.field-0.0
    (rw c.text.ensures at c.in_err-tin.ensures.refused))

pub returns-in_err-tin-clause-causes : goal.returns-in_err-tin-clause-causes
returns-in_err-tin-clause-causes g c =
    handed_on _ c.in_err-tin.field-0.0 c.from_residual.result c.from_residual.ensures.1
    (tin_causes (g.S.Shelf.files c.args.shelf.now) c.args.verification.now _ c.in_err-tin.field-0.0
    (rw c.text.ensures at c.in_err-tin.ensures.refused))

pub verify_files-requires-clause-way : goal.verify_files-requires-clause-way
verify_files-requires-clause-way g c =
    rw c.in_ok-tin.ensures.files (rw c.text.ensures at c.in_ok-tin.ensures.ok)

pub returns-in_err-verify_files-clause-refused : goal.returns-in_err-verify_files-clause-refused
returns-in_err-verify_files-clause-refused g c =
    handed_on _ c.in_err-verify_files.field-0.0 c.from_residual-in_err-verify_files.result
    c.from_residual-in_err-verify_files.ensures.1
    (rw (c.in_ok-tin.ensures.files, c.in_ok-tin.ensures.faults.same) at c.in_err-verify_files.ensures.refused)

pub returns-in_err-verify_files-clause-causes : goal.returns-in_err-verify_files-clause-causes
returns-in_err-verify_files-clause-causes g c =
    let before = c.in_ok-tin.ensures.given in
    handed_on _ c.in_err-verify_files.field-0.0 c.from_residual-in_err-verify_files.result
    c.from_residual-in_err-verify_files.ensures.1
    (causes_more _ _ _ c.in_err-verify_files.field-0.0 (λ rose. rose) (λ most past. passed_since _ _ _ _ before past)
    (rw (c.in_ok-tin.ensures.files, c.in_ok-tin.ensures.faults.same) at c.in_err-verify_files.ensures.causes))

pub returns-clause-ok : goal.returns-clause-ok
returns-clause-ok g c =
    output_verified (g.S.Shelf.files c.args.shelf.now) c.args.verification.now c.in_ok-tin.tin c.in_ok-written.written
    (rw c.in_ok-tin.ensures.files at c.in_ok-verify_files.ensures.certified) c.in_ok-written.ensures.form
