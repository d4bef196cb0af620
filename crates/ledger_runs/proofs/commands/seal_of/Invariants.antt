-- The invariant of the loop of `seal_of` in src/commands.rt.
use Rattle.std.proofs.Common.{◌≡◌, ◌≤◌}
use Rattle.ledger_runs.proofs.EntryRuns.{AreDigested}
use Rattle.ledger_runs.proofs.commands.seal_of.Given as goal

-- the shelf states what it stated, its count of faults is as it was, it took nothing back, and this many layers
-- were digested
abbrev pub invariant-loop-layer : goal.invariant-loop-layer
invariant-loop-layer g l =
    let shelf = g.S.Shelf in
    record {
      files : shelf.files l.shelf ≡ shelf.files l.fn.shelf;
      faults : shelf.faults l.shelf ≡ shelf.faults l.fn.shelf;
      given_later : shelf.given l.fn.shelf ≤ shelf.given l.shelf;
      digested : AreDigested (shelf.files l.fn.shelf) (shelf.faults l.fn.shelf) l.line l.report l.layers l.layer-index l.hasher;
    }
