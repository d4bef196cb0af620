-- Answers to the goals of `carry_layers` in src/layers.rt.
use Rattle.std.proofs.Common.{length, refl}
use Rattle.runs.proofs.PassedRefusals.{handed_on}
use Rattle.layer_features.specs.JsonFeatures.{asked_for}
use Rattle.migrate_mode.proofs.MigrationSteps.{stops_uncarried}
use Rattle.place_runs.proofs.LayerPaths.LayerPlaces.{more_places, count_more, adds_none}
use Rattle.place_runs.proofs.layers.carry_layers.Goals as goal

pub loop-number-init : goal.loop-number-init
loop-number-init g c =
    record {
      run = c.begin_run-run.ensures _ _ _;
      places = rw (c.new-texts.ensures.items, c.new-places.ensures.items) tt;
      counts = rw (c.new-texts.ensures.items, c.new-places.ensures.items) refl;
    }

pub returns-in_err-bytes-clause-refused : goal.returns-in_err-bytes-clause-refused
returns-in_err-bytes-clause-refused g c =
    let here = c.loop-number.invariant in
    handed_on _ c.in_err-bytes.field-0.0 c.from_residual.result c.from_residual.ensures.1
    (c.in_err-bytes.ensures.refused _ here.run)

pub returns-in_err-own-clause-refused : goal.returns-in_err-own-clause-refused
returns-in_err-own-clause-refused g c =
    let here = c.loop-number.invariant in
    handed_on _ c.in_err-own.field-0.0 c.from_residual-in_err-own.result c.from_residual-in_err-own.ensures.1
    (stops_uncarried _ _ _ _ _ _ (rw c.items-name-items.ensures at c.loop-number-test.true)
    (rw c.items-name-items.ensures at c.name-item.is) here.run c.in_ok-bytes.bytes.items c.in_err-own.field-0.0
    c.in_ok-bytes.ensures.text c.in_ok-bytes.ensures.within
    (adds_none c.args.migration.now.how c.args.index.now c.loop-number.number c.name-item.result
    c.in_ok-bytes.bytes.items (length c.loop-number.run.pieces.items) c.known_format.result c.in_err-own.field-0.0
    (rw c.text.ensures at c.known_format.ensures) (rw c.deref.ensures.value at c.in_err-own.ensures.refused)))

pub loop-number-preserved : goal.loop-number-preserved
loop-number-preserved g c =
    let here = c.loop-number.invariant in
    let run = here.run in
    record {
      run = c.in_ok-bytes.ensures.ok _ run;
      places =
          more_places _ c.args.migration.now.how (asked_for c.args.asked) c.args.migration.now.layers
          c.loop-number.number c.name-item.result c.known_format.result c.in_ok-bytes.bytes.items
          c.in_ok-own.own.items
          c.loop-number.places.items c.add_places.new.places.items c.loop-number.texts.items c.add_text.new.texts.items
          (rw c.items-name-items.ensures at c.loop-number-test.true)
          (rw c.items-name-items.ensures at c.name-item.is) here.counts here.places
          (rw c.text.ensures at c.known_format.ensures) (rw run.files at c.in_ok-bytes.ensures.text)
          (rw c.deref.ensures.value at c.in_ok-own.ensures.ok) c.in_ok-add_places.ensures c.in_ok-add_text.ensures;
      counts =
          count_more c.loop-number.texts.items c.loop-number.places.items c.in_ok-bytes.bytes.items c.in_ok-own.own.items
          c.add_text.new.texts.items c.add_places.new.places.items here.counts c.in_ok-add_text.ensures
          c.in_ok-add_places.ensures;
    }
