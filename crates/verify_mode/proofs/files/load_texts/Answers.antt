-- Answers to the goals of `load_texts` in src/files.rt.
use Rattle.std.proofs.Common.{◌+◌, ◌≤◌, arith}
use Rattle.runs.specs.declared.loads.TheConstants.{MOST_BYTES, MOST_VERIFIED}
use Rattle.runs.specs.declared.refusal.Refusal.TheVariants.{WrittenUnread, WrittenLong, CertUnread, CertLong}
use Rattle.runs.proofs.BytesPassed.{passed_since}
use Rattle.runs.proofs.PassedRefusals.{handed_on}
use Rattle.verify_mode.specs.Files.{no_written, no_cert}
use Rattle.verify_mode.proofs.VerificationSteps.{file_within, unloaded_more}
use Rattle.verify_mode.proofs.files.load_texts.Goals as goal

pub returns-in_err-written-clause-refused : goal.returns-in_err-written-clause-refused
returns-in_err-written-clause-refused g c =
    let shelf = g.S.Shelf in
    let source = c.in_ok-source.ensures in
    handed_on _ c.in_err-written.field-0.0 c.from_residual-in_err-written.result
    c.from_residual-in_err-written.ensures.1
    (no_written c.in_ok-source.source.items
    (file_within (shelf.files c.args.shelf.now) c.args.verification.now.source c.in_ok-source.source.items MOST_BYTES
    c.in_ok-source.source.len (rw c.text.ensures at source.ok) source.within c.in_ok-source.source.ok.0)
    (unloaded_more (shelf.files c.args.shelf.now) c.args.verification.now.written MOST_VERIFIED WrittenUnread
    WrittenLong c.in_err-written.field-0.0 _ _ _ _ (λ rose. rose)
    (λ past. passed_since (shelf.given c.args.shelf.now) (shelf.given c.load_file.new.shelf) (MOST_VERIFIED + 1)
    (shelf.given c.load_file-2.new.shelf) source.given_later past)
    (rw (source.files, source.faults.same, c.text-2.ensures) at c.in_err-written.ensures.refused)))

pub returns-in_err-cert-clause-refused : goal.returns-in_err-cert-clause-refused
returns-in_err-cert-clause-refused g c =
    let shelf = g.S.Shelf in
    let source = c.in_ok-source.ensures in
    let written = c.in_ok-written.ensures in
    let before = source.given_later in
    let more = written.given_later in
    let later : shelf.given c.args.shelf.now ≤ shelf.given c.load_file-2.new.shelf = omega (arith, before, more) in
    handed_on _ c.in_err-cert.field-0.0 c.from_residual-in_err-cert.result c.from_residual-in_err-cert.ensures.1
    (no_cert c.in_ok-source.source.items
    (file_within (shelf.files c.args.shelf.now) c.args.verification.now.source c.in_ok-source.source.items MOST_BYTES
    c.in_ok-source.source.len (rw c.text.ensures at source.ok) source.within c.in_ok-source.source.ok.0)
    c.in_ok-written.written.items
    (file_within (shelf.files c.args.shelf.now) c.args.verification.now.written c.in_ok-written.written.items
    MOST_VERIFIED c.in_ok-written.written.len (rw (source.files, c.text-2.ensures) at written.ok) written.within
    c.in_ok-written.written.ok.0)
    (unloaded_more (shelf.files c.args.shelf.now) c.args.verification.now.cert MOST_VERIFIED CertUnread CertLong
    c.in_err-cert.field-0.0 _ _ _ _ (λ rose. rose)
    (λ past. passed_since (shelf.given c.args.shelf.now) (shelf.given c.load_file-2.new.shelf) (MOST_VERIFIED + 1)
    (shelf.given c.load_file-3.new.shelf) later past)
    (rw (written.files, source.files, written.faults.same, source.faults.same, c.text-3.ensures) at
    c.in_err-cert.ensures.refused)))
