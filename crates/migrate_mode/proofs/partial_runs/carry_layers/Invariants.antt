-- The invariants of `carry_layers` in src/partial_runs.rt.
use Rattle.std.proofs.Common.{take}
use Rattle.migrate_mode.specs.PartialRuns.{shelf_state, run_start, IsRunAfter}
use Rattle.migrate_mode.proofs.partial_runs.carry_layers.Given as goal

abbrev pub invariant-loop-number : goal.invariant-loop-number
invariant-loop-number g l =
    let shelf = g.S.Shelf in
    let first = l.initial.shelf in
    IsRunAfter (run_start (shelf_state (shelf.files first) (shelf.faults first) (shelf.given first)) l.migration
    l.migration.cert l.index) (take l.number l.migration.layers)
    (shelf_state (shelf.files l.shelf) (shelf.faults l.shelf) (shelf.given l.shelf)) l.run
