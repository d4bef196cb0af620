-- The invariant of the loop of `commands_of` in src/commands.rt.
use Rattle.std.proofs.Common.{◌≡◌, ◌≤◌, ◌-◌}
use Rattle.shelf_io.specs.Count.{count_after}
use Rattle.ledger_runs.specs.declared.commands.TheConstants.{MOST_REPORTS}
use Rattle.ledger_runs.proofs.EntryRuns.{AreCommandsRead}
use Rattle.ledger_runs.proofs.commands.commands_of.Given as goal

-- the shelf states what it stated, its count of faults is as it was, it gave what the reports took of their room, and
-- this many lines were read
abbrev pub invariant-loop-line : goal.invariant-loop-line
invariant-loop-line g l =
    let shelf = g.S.Shelf in
    record {
      files : shelf.files l.shelf ≡ shelf.files l.fn.shelf;
      faults : shelf.faults l.shelf ≡ shelf.faults l.fn.shelf;
      given : count_after (shelf.given l.fn.shelf) (MOST_REPORTS - l.left) ≤ shelf.given l.shelf;
      given_later : shelf.given l.fn.shelf ≤ shelf.given l.shelf;
      read : AreCommandsRead (shelf.files l.fn.shelf) (shelf.faults l.fn.shelf) l.asked l.line-index l.left l.commands.items;
    }
