-- Answers to the goals of `commands_of` in src/commands.rt.
use Rattle.std.proofs.Common.{rules, arith, ◌≡◌, ℕ, ◌+◌, ◌++◌, [], ◌∷◌, drop, sym, ap, ◌∙◌, subst, Option, IfSome, IsOk}
use Rattle.std.proofs.lemmas.Result.{err_from_is_err_and}
use Rattle.shelf_io.specs.Count.{Rose}
use Rattle.shelf_io.specs.Files.{Files}
use Rattle.ledger_runs.specs.Ends.{IsUnread}
use Rattle.ledger_runs.specs.InsideEntries.{CommandFails}
use Rattle.ledger_runs.specs.declared.scripts.AskedLine.{AskedLine}
use Rattle.ledger_runs.specs.Entries.{IsCommand}
use Rattle.ledger_runs.specs.declared.commands.TheConstants.{MOST_REPORTS}
use Rattle.ledger_runs.proofs.EntryRuns.{drop-here, as-before, lines-more, lines-all, line-refused}
use Rattle.ledger_runs.proofs.GivenBytes.{given-more, passed-behind-reports}
use Rattle.ledger_runs.proofs.commands.commands_of.Goals as goal

pub returns-in_err-command-clause-passed : goal.returns-in_err-command-clause-passed
returns-in_err-command-clause-passed g c =
    let shelf = g.S.Shelf in
    let p = err_from_is_err_and c.from_residual.result c.from_residual.ensures.1 in
    rw (p.1, p.2)
    (passed-behind-reports MOST_REPORTS c.loop-line.left (shelf.given c.args.shelf.now) (shelf.given c.loop-line.shelf)
    (shelf.given c.command_of.new.shelf) c.in_err-command.field-0.0 c.loop-line.invariant.read.room
    c.loop-line.invariant.given c.loop-line.invariant.given_later c.in_err-command.ensures.passed)

pub returns-in_err-command-clause-err : goal.returns-in_err-command-clause-err
returns-in_err-command-clause-err g c =
    let shelf = g.S.Shelf in
    let asked = c.args.asked.now in
    let at = c.loop-line.line-index in
    let now = shelf.faults c.command_of.new.shelf in
    let refusal = c.in_err-command.field-0.0 in
    let p = err_from_is_err_and c.from_residual.result c.from_residual.ensures.1 in
    let here : drop at asked ≡ c.line-item.result ∷ drop (at + 1) asked =
    drop-here asked at c.line-item.result c.loop-line-test.true
    ∙ ap (λ (l : AskedLine). l ∷ drop (at + 1) asked) (sym c.line-item.is) in
    let fails = as-before (λ (told : Option Files) (before : ℕ).
    IfSome told (λ f. CommandFails (IsUnread f (Rose before now)) f c.loop-line.left c.line-item.result refusal))
    (shelf.files c.args.shelf.now) (shelf.files c.loop-line.shelf) (shelf.faults c.args.shelf.now)
    (shelf.faults c.loop-line.shelf) c.loop-line.invariant.files c.loop-line.invariant.faults
    c.in_err-command.ensures.err in
    rw (p.1, p.2)
    (line-refused (shelf.files c.args.shelf.now) (shelf.faults c.args.shelf.now) now asked at c.loop-line.left
    c.loop-line.commands.items c.line-item.result refusal c.loop-line.invariant.read here fails)

pub loop-line-preserved : goal.loop-line-preserved
loop-line-preserved g c =
    let shelf = g.S.Shelf in
    let asked = c.args.asked.now in
    let at = c.loop-line.line-index in
    let here : drop at asked ≡ c.line-item.result ∷ drop (at + 1) asked =
    drop-here asked at c.line-item.result c.loop-line-test.true
    ∙ ap (λ (l : AskedLine). l ∷ drop (at + 1) asked) (sym c.line-item.is) in
    let is : IfSome (shelf.files c.args.shelf.now)
    (λ told. IsCommand told c.loop-line.left c.line-item.result.asks c.in_ok-command.command c.in_ok-command.behind) =
    subst (λ (told : Option Files). IfSome told (λ f. IsCommand f c.loop-line.left c.line-item.result.asks
    c.in_ok-command.command c.in_ok-command.behind)) c.loop-line.invariant.files c.in_ok-command.ensures.ok in
    let ok : IsOk c.push.result = search rules in
    let added : c.push.new.self.items ≡ c.loop-line.commands.items ++ c.in_ok-command.command ∷ [] = search (rules, ok) in
    record {
      files = c.in_ok-command.ensures.files ∙ c.loop-line.invariant.files;
      faults = c.in_ok-command.ensures.faults.same ∙ c.loop-line.invariant.faults;
      given =
          given-more MOST_REPORTS c.loop-line.left c.in_ok-command.behind (shelf.given c.args.shelf.now)
          (shelf.given c.loop-line.shelf) (shelf.given c.command_of.new.shelf) c.loop-line.invariant.read.room
          c.in_ok-command.ensures.fewer c.loop-line.invariant.given c.in_ok-command.ensures.given;
      given_later = omega (arith, c.loop-line.invariant.given_later, c.in_ok-command.ensures.given_later);
      read = lines-more (shelf.files c.args.shelf.now) (shelf.faults c.args.shelf.now) asked at c.loop-line.left
          c.in_ok-command.behind c.loop-line.commands.items c.push.new.self.items c.line-item.result c.in_ok-command.command
          c.loop-line.invariant.read here c.in_ok-command.ensures.fewer is added;
    }

pub returns-clause-ok : goal.returns-clause-ok
returns-clause-ok g c =
    let shelf = g.S.Shelf in
    lines-all (shelf.files c.args.shelf.now) (shelf.faults c.args.shelf.now) c.args.asked.now c.loop-line.line-index
    c.loop-line.left c.loop-line.commands.items c.loop-line.invariant.read c.loop-line-test.false
