-- Answers to the goals of `prepare_places` in src/places.rt.
use Rattle.std.proofs.Common.{false, sym, subst}
use Rattle.tin_base.specs.Limits.{IsWithinLimits}
use Rattle.tin_base.specs.Triangulation.{Triangulation}
use Rattle.topo_check.specs.Changes.{AreAllComparable}
use Rattle.runs.proofs.BytesPassed.{passed_since}
use Rattle.runs.proofs.PassedRefusals.{handed_on, refused_more, done_more}
use Rattle.migrate_mode.proofs.MigrationSteps.{tin_refused, layers_refused, report_refused, run_comparable}
use Rattle.migrate_mode.proofs.LayerCauses.{layers_causes, report_causes}
use Rattle.migrate_mode.proofs.RunSheets.{may_be_sided}
use Rattle.migrate_mode.specs.LayerRuns.{setting_of}
use Rattle.place_runs.proofs.Outcomes.PieceOrder.{one_piece}
use Rattle.place_runs.proofs.LayerPaths.LayerPlaces.{places_done, rows_done}
use Rattle.change_places.specs.Words.{layer_words}
use Rattle.place_runs.proofs.LayerPaths.PathWords.{all_words_copied}
use Rattle.place_runs.proofs.PrintedMaps.PrintedNames.{printable_names}
use Rattle.place_runs.proofs.places.prepare_places.Goals as goal

pub returns-in_err-index-clause-refused : goal.returns-in_err-index-clause-refused
returns-in_err-index-clause-refused g c =
    handed_on _ c.in_err-index.field-0.0 c.from_residual.result c.from_residual.ensures.1
    (tin_refused (g.S.Shelf.files c.args.shelf.now) c.args.migration.now _ _ c.in_err-index.field-0.0
    (rw c.text.ensures at c.in_err-index.ensures.refused))

pub returns-in_err-placed-clause-refused : goal.returns-in_err-placed-clause-refused
returns-in_err-placed-clause-refused g c =
    handed_on _ c.in_err-placed.field-0.0 c.from_residual-in_err-placed.result c.from_residual-in_err-placed.ensures.1
    (layers_refused (g.S.Shelf.files c.args.shelf.now) c.args.migration.now c.in_ok-index.index _ _
    c.in_err-placed.field-0.0 (rw c.text.ensures at c.in_ok-index.ensures.ok) (λ rose. rose)
    (rw (c.in_ok-index.ensures.files, c.in_ok-index.ensures.faults.same) at c.in_err-placed.ensures.refused.refused))

pub returns-in_err-placed-clause-causes : goal.returns-in_err-placed-clause-causes
returns-in_err-placed-clause-causes g c =
    handed_on _ c.in_err-placed.field-0.0 c.from_residual-in_err-placed.result c.from_residual-in_err-placed.ensures.1
    (layers_causes c.args.migration.now (g.S.Shelf.files c.args.shelf.now) _ c.in_err-placed.field-0.0
    c.in_err-placed.ensures.refused.of_layers (rw (c.in_ok-index.ensures.files, c.in_ok-index.ensures.faults.same) at
    c.in_err-placed.ensures.refused.read)
    (λ e. passed_since _ _ _ _ c.in_ok-index.ensures.given (c.in_err-placed.ensures.refused.long e)))

pub places_of_run-requires-clause-comparable : goal.places_of_run-requires-clause-comparable
places_of_run-requires-clause-comparable g c =
    let limits : IsWithinLimits c.in_ok-index.index =
    subst (λ (t : Triangulation). IsWithinLimits t) c.into_tin-tin.ensures c.show_soundness.ensures.limits in
    subst (λ (t : Triangulation). AreAllComparable t c.in_ok-placed.placed.run.pieces.items)
    (sym c.into_tin-tin.ensures)
    (run_comparable (g.S.Shelf.files c.load_index.new.shelf) c.args.migration.now false c.in_ok-index.index
    c.in_ok-placed.placed.run limits c.in_ok-placed.ensures.ok.carried)

pub places_of_run-requires-clause-sides : goal.places_of_run-requires-clause-sides
places_of_run-requires-clause-sides g c =
    let limits : IsWithinLimits c.in_ok-index.index =
    subst (λ (t : Triangulation). IsWithinLimits t) c.into_tin-tin.ensures c.show_soundness.ensures.limits in
    let named = c.requires in
    may_be_sided (setting_of (g.S.Shelf.files c.load_index.new.shelf) c.args.migration.now.how c.in_ok-index.index)
    c.args.migration.now.layers c.in_ok-placed.placed.run limits named.few c.in_ok-placed.ensures.ok.kept

pub returns-clause-causes : goal.returns-clause-causes
returns-clause-causes g c =
    refused_more _ _ c.places_of_run.result
    (λ refusal why. report_causes _ _ c.into_tin-tin.result c.in_ok-placed.placed.run refusal why)
    c.places_of_run.ensures.refused

pub returns-clause-ok : goal.returns-clause-ok
returns-clause-ok g c =
    done_more _ _ c.places_of_run.result
    (λ prepared is.
    places_done c.args.view.now (g.S.Shelf.files c.args.shelf.now) c.args.migration.now c.in_ok-index.index c.in_ok-placed.placed.run
    (layer_words c.in_ok-placed.placed.texts.items c.in_ok-placed.placed.places.items) prepared.map prepared.changed
    (rw c.text.ensures at c.in_ok-index.ensures.ok)
    (rw c.in_ok-index.ensures.files at c.in_ok-placed.ensures.ok.carried)
    (rw c.in_ok-index.ensures.files at c.in_ok-placed.ensures.ok.kept) c.in_ok-placed.ensures.ok.sides
    (rw (c.in_ok-index.ensures.files, c.member_bytes.ensures) at c.in_ok-placed.ensures.places) is)
    (rw c.into_tin-tin.ensures at c.places_of_run.ensures.ok)

pub returns-clause-rows : goal.returns-clause-rows
returns-clause-rows g c =
    done_more _ _ c.places_of_run.result
    (λ prepared is.
    rows_done (g.S.Shelf.files c.args.shelf.now) c.args.migration.now c.in_ok-index.index c.in_ok-placed.placed.run
    prepared.rows.items (rw c.text.ensures at c.in_ok-index.ensures.ok)
    (rw c.in_ok-index.ensures.files at c.in_ok-placed.ensures.ok.carried) is)
    c.places_of_run.ensures.rows

pub places_of_run-requires-clause-one : goal.places_of_run-requires-clause-one
places_of_run-requires-clause-one g c =
    let has = c.in_ok-placed.ensures.ok.carried in
    one_piece (setting_of (g.S.Shelf.files c.load_index.new.shelf) c.args.migration.now.how c.in_ok-index.index)
    c.args.migration.now.layers c.in_ok-placed.placed.run.pieces.items has.done c.in_ok-placed.placed.run.used has.carried

pub returns-clause-form : goal.returns-clause-form
returns-clause-form g c = rw c.items.ensures at c.places_of_run.ensures.form

pub returns-clause-refused : goal.returns-clause-refused
returns-clause-refused g c =
    refused_more _ _ c.places_of_run.result
    (λ refusal why.
    report_refused (g.S.Shelf.files c.args.shelf.now) c.args.migration.now false c.in_ok-index.index
    c.in_ok-placed.placed.run _ refusal (rw c.text.ensures at c.in_ok-index.ensures.ok)
    (rw c.in_ok-index.ensures.files at c.in_ok-placed.ensures.ok.carried)
    (rw c.in_ok-index.ensures.files at c.in_ok-placed.ensures.ok.kept) c.in_ok-placed.ensures.ok.sides why)
    (rw c.into_tin-tin.ensures at c.places_of_run.ensures.refused)

pub places_of_run-requires-clause-printable : goal.places_of_run-requires-clause-printable
places_of_run-requires-clause-printable g c =
    let named = c.requires in rw c.items.ensures (printable_names c.args.migration.now.layers named.layers_named)

pub places_of_run-requires-clause-copied : goal.places_of_run-requires-clause-copied
places_of_run-requires-clause-copied g c =
    all_words_copied (g.S.Shelf.files c.load_index.new.shelf) c.args.migration.now.how c.args.view.now.member c.args.migration.now.layers
    (layer_words c.in_ok-placed.placed.texts.items c.in_ok-placed.placed.places.items)
    (rw c.member_bytes.ensures at c.in_ok-placed.ensures.places)
