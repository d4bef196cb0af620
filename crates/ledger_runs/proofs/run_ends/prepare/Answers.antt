-- Answers to the goals of `prepare` in src/run_ends.rt.
use Rattle.std.proofs.Common.{rules, arith, ◌≡◌, ℕ, List, length, map, subst, Option, IfSome}
use Rattle.std.specs.Prelude.{string_bytes}
use Rattle.std.proofs.lemmas.Result.{err_from_is_err_and}
use Rattle.shelf_io.specs.Count.{Rose}
use Rattle.shelf_io.specs.Files.{Files}
use Rattle.ledger_runs.specs.Ends.{IsUnread}
use Rattle.ledger_runs.specs.Lines.{lines_of}
use Rattle.ledger_runs.specs.Outcome.{IsRead}
use Rattle.ledger_runs.specs.InsideSteps.{ScriptReadingFails}
use Rattle.ledger_runs.specs.InsideEntries.{CommandsFail}
use Rattle.ledger_runs.specs.declared.commands.TheConstants.{MOST_REPORTS}
use Rattle.ledger_runs.specs.declared.scripts.AskedLine.{AskedLine}
use Rattle.ledger_runs.proofs.EntryRuns.{as-before}
use Rattle.ledger_runs.proofs.Preparing.{script-fails-told, reading-fails-told, commands-fail-told, asked-few}
use Rattle.ledger_runs.proofs.run_ends.prepare.Goals as goal

pub returns-in_err-text-clause-err : goal.returns-in_err-text-clause-err
returns-in_err-text-clause-err g c =
    let shelf = g.S.Shelf in
    let p = err_from_is_err_and c.from_residual-in_err-text.result c.from_residual-in_err-text.ensures.1 in
    rw (p.1, p.2)
    (script-fails-told (shelf.files c.args.shelf.now) (shelf.faults c.args.shelf.now) (shelf.faults c.load_script.new.shelf)
    (map string_bytes c.args.words.now) c.in_ok-name.name.now c.in_err-text.field-0.0 c.in_ok-name.ensures.ok
    c.in_err-text.ensures.err)

pub returns-in_err-text-clause-words : goal.returns-in_err-text-clause-words
returns-in_err-text-clause-words g c =
    let p = err_from_is_err_and c.from_residual-in_err-text.result c.from_residual-in_err-text.ensures.1 in
    rw (p.1, p.2)
    (λ is. absurd (c.in_err-text.ensures.named is), λ none. absurd (none c.in_ok-name.name.now c.in_ok-name.ensures.ok))

pub returns-in_err-asked-clause-err : goal.returns-in_err-asked-clause-err
returns-in_err-asked-clause-err g c =
    let shelf = g.S.Shelf in
    let refusal = c.in_err-asked.field-0.0 in
    let p = err_from_is_err_and c.from_residual-in_err-asked.result c.from_residual-in_err-asked.ensures.1 in
    let fails : ScriptReadingFails c.in_ok-text.text.items refusal =
    subst (λ (text : List ℕ). ScriptReadingFails text refusal) c.as_slice.ensures.value c.in_err-asked.ensures.err in
    rw (p.1, p.2)
    (reading-fails-told (shelf.files c.args.shelf.now) (shelf.faults c.args.shelf.now) (shelf.faults c.load_script.new.shelf)
    (map string_bytes c.args.words.now) c.in_ok-name.name.now c.in_ok-text.text.items refusal c.in_ok-name.ensures.ok
    c.in_ok-text.ensures.there c.in_ok-text.ensures.few fails)

pub returns-in_err-asked-clause-words : goal.returns-in_err-asked-clause-words
returns-in_err-asked-clause-words g c =
    let p = err_from_is_err_and c.from_residual-in_err-asked.result c.from_residual-in_err-asked.ensures.1 in
    rw (p.1, p.2)
    (λ is. absurd (c.in_err-asked.ensures.named is), λ none. absurd (none c.in_ok-name.name.now c.in_ok-name.ensures.ok))

pub returns-in_err-commands-clause-err : goal.returns-in_err-commands-clause-err
returns-in_err-commands-clause-err g c =
    let shelf = g.S.Shelf in
    let refusal = c.in_err-commands.field-0.0 in
    let now = shelf.faults c.commands_of.new.shelf in
    let p = err_from_is_err_and c.from_residual-in_err-commands.result c.from_residual-in_err-commands.ensures.1 in
    let read : IsRead c.in_ok-text.text.items c.in_ok-asked.asked.items =
    subst (λ (text : List ℕ). IsRead text c.in_ok-asked.asked.items) c.as_slice.ensures.value c.in_ok-asked.ensures.ok in
    let fails = as-before (λ (told : Option Files) (before : ℕ).
    IfSome told (λ f. CommandsFail (IsUnread f (Rose before now)) f MOST_REPORTS c.as_slice-2.result.now refusal))
    (shelf.files c.args.shelf.now) (shelf.files c.load_script.new.shelf) (shelf.faults c.args.shelf.now)
    (shelf.faults c.load_script.new.shelf) c.in_ok-text.ensures.files c.in_ok-text.ensures.faults.same
    c.in_err-commands.ensures.err in
    let ours = subst (λ (asked : List AskedLine). IfSome (shelf.files c.args.shelf.now)
    (λ f. CommandsFail (IsUnread f (Rose (shelf.faults c.args.shelf.now) now)) f MOST_REPORTS asked refusal))
    c.as_slice-2.ensures.value fails in
    rw (p.1, p.2)
    (commands-fail-told (shelf.files c.args.shelf.now) (shelf.faults c.args.shelf.now) now
    (map string_bytes c.args.words.now) c.in_ok-name.name.now c.in_ok-text.text.items c.in_ok-asked.asked.items refusal
    c.in_ok-name.ensures.ok c.in_ok-text.ensures.there c.in_ok-text.ensures.few read ours)

pub returns-in_err-commands-clause-words : goal.returns-in_err-commands-clause-words
returns-in_err-commands-clause-words g c =
    let p = err_from_is_err_and c.from_residual-in_err-commands.result c.from_residual-in_err-commands.ensures.1 in
    rw (p.1, p.2)
    (λ is. absurd (c.in_err-commands.ensures.named is), λ none. absurd (none c.in_ok-name.name.now c.in_ok-name.ensures.ok))

pub returns-clause-few : goal.returns-clause-few
returns-clause-few g c =
    let read : IsRead c.in_ok-text.text.items c.in_ok-asked.asked.items =
    subst (λ (text : List ℕ). IsRead text c.in_ok-asked.asked.items) c.as_slice.ensures.value c.in_ok-asked.ensures.ok in
    let asked : length c.as_slice-2.result.now ≡ length c.in_ok-asked.asked.items = search rules in
    omega (
      arith,
      c.in_ok-commands.ensures.count,
      asked,
      asked-few 1 (lines_of c.in_ok-text.text.items) c.in_ok-asked.asked.items read.asks,
      read.few,
    )
