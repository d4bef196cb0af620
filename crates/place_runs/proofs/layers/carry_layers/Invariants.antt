-- The invariants of `carry_layers` in src/layers.rt.
use Rattle.std.proofs.Common.{◌≡◌, false, take, length}
use Rattle.migrate_mode.specs.PartialRuns.{shelf_state, run_start, IsRunAfter}
use Rattle.layer_features.specs.JsonFeatures.{asked_for}
use Rattle.change_places.specs.Words.{layer_words}
use Rattle.place_runs.specs.Places.{HaveAllPlaces}
use Rattle.place_runs.proofs.layers.carry_layers.Given as goal

abbrev pub invariant-loop-number : goal.invariant-loop-number
invariant-loop-number g l =
    let shelf = g.S.Shelf in
    let first = l.initial.shelf in
    record {
      run : IsRunAfter (run_start (shelf_state (shelf.files first) (shelf.faults first) (shelf.given first)) l.migration
          false l.index) (take l.number l.migration.layers)
          (shelf_state (shelf.files l.shelf) (shelf.faults l.shelf) (shelf.given l.shelf)) l.run;
      places : HaveAllPlaces (shelf.files first) l.migration.how (asked_for l.asked)
          (take l.number l.migration.layers) (layer_words l.texts.items l.places.items);
      counts : length l.texts.items ≡ length l.places.items;
    }
