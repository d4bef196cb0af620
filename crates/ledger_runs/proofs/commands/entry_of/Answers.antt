-- Answers to the goals of `entry_of` in src/commands.rt.
use Rattle.std.proofs.Common.{rules, ◌≡◌, ◌≢◌, ℕ, List, length, subst, Option, IfSome}
use Rattle.std.proofs.lemmas.Result.{err_from_is_err_and}
use Rattle.shelf_io.specs.Count.{Rose}
use Rattle.shelf_io.specs.Files.{Files}
use Rattle.report_text.specs.Beginnings.{IsReportText}
use Rattle.ledger_runs.specs.Ends.{IsUnread}
use Rattle.ledger_runs.specs.InsideEntries.{TextFails, LayersFail}
use Rattle.ledger_runs.proofs.EntryRuns.{as-before}
use Rattle.ledger_runs.proofs.Preparing.{text-fails-told, count-fails-told, layers-fail-told}
use Rattle.ledger_runs.proofs.GivenBytes.{passed-behind}
use Rattle.ledger_runs.proofs.commands.entry_of.Goals as goal

pub returns-in_err-contents-clause-err : goal.returns-in_err-contents-clause-err
returns-in_err-contents-clause-err g c =
    let shelf = g.S.Shelf in
    let refusal = c.in_err-contents.field-0.0 in
    let p = err_from_is_err_and c.from_residual-in_err-contents.result c.from_residual-in_err-contents.ensures.1 in
    let fails : TextFails c.in_ok-bytes.bytes.items c.args.line refusal =
    subst (λ (bytes : List ℕ). TextFails bytes c.args.line refusal) c.as_slice.ensures.value c.in_err-contents.ensures.err in
    rw (p.1, p.2)
    (text-fails-told (shelf.files c.args.shelf.now) (shelf.faults c.args.shelf.now) (shelf.faults c.load_report.new.shelf)
    c.args.left c.args.line c.args.report.now c.args.layers.now c.in_ok-bytes.bytes.items refusal c.in_ok-bytes.ensures.there
    c.in_ok-bytes.ensures.few fails)

pub returns-then-layers-clause-err : goal.returns-then-layers-clause-err
returns-then-layers-clause-err g c =
    let shelf = g.S.Shelf in
    let text : IsReportText c.in_ok-bytes.bytes.items c.in_ok-contents.contents =
    subst (λ (bytes : List ℕ). IsReportText bytes c.in_ok-contents.contents) c.as_slice.ensures.value
    c.in_ok-contents.ensures.ok in
    let other : length c.in_ok-contents.contents.layers ≢ length c.args.layers.now = search rules in
    count-fails-told (shelf.files c.args.shelf.now) (shelf.faults c.args.shelf.now) (shelf.faults c.load_report.new.shelf)
    c.args.left c.args.line c.args.report.now c.args.layers.now c.in_ok-bytes.bytes.items c.in_ok-contents.contents
    c.in_ok-bytes.ensures.there c.in_ok-bytes.ensures.few text other

pub returns-in_err-seal-clause-err : goal.returns-in_err-seal-clause-err
returns-in_err-seal-clause-err g c =
    let shelf = g.S.Shelf in
    let refusal = c.in_err-seal.field-0.0 in
    let now = shelf.faults c.seal_of.new.shelf in
    let p = err_from_is_err_and c.from_residual-in_err-seal.result c.from_residual-in_err-seal.ensures.1 in
    let text : IsReportText c.in_ok-bytes.bytes.items c.in_ok-contents.contents =
    subst (λ (bytes : List ℕ). IsReportText bytes c.in_ok-contents.contents) c.as_slice.ensures.value
    c.in_ok-contents.ensures.ok in
    let same : length c.in_ok-contents.contents.layers ≡ length c.args.layers.now = search rules in
    let fails = as-before (λ (told : Option Files) (before : ℕ).
    IfSome told (λ f. LayersFail (IsUnread f (Rose before now)) f c.args.line c.args.layers.now refusal))
    (shelf.files c.args.shelf.now) (shelf.files c.load_report.new.shelf) (shelf.faults c.args.shelf.now)
    (shelf.faults c.load_report.new.shelf) c.in_ok-bytes.ensures.files c.in_ok-bytes.ensures.faults.same
    c.in_err-seal.ensures.err in
    rw (p.1, p.2)
    (layers-fail-told (shelf.files c.args.shelf.now) (shelf.faults c.args.shelf.now) now c.args.left c.args.line
    c.args.report.now c.args.layers.now c.in_ok-bytes.bytes.items c.in_ok-contents.contents refusal
    c.in_ok-bytes.ensures.there c.in_ok-bytes.ensures.few text same fails)

pub returns-in_err-seal-clause-passed : goal.returns-in_err-seal-clause-passed
returns-in_err-seal-clause-passed g c =
    let shelf = g.S.Shelf in
    let p = err_from_is_err_and c.from_residual-in_err-seal.result c.from_residual-in_err-seal.ensures.1 in
    rw (p.1, p.2)
    (passed-behind c.args.left (shelf.given c.args.shelf.now) (shelf.given c.load_report.new.shelf)
    (shelf.given c.seal_of.new.shelf) c.in_err-seal.field-0.0 c.in_ok-bytes.ensures.given_later
    (c.in_err-seal.ensures.passed c.args.left))
