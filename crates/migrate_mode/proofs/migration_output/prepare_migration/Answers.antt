-- Answers to the goals of `prepare_migration` in src/migration_output.rt.
use Rattle.std.proofs.Common.{sym, subst}
use Rattle.tin_base.specs.Limits.{IsWithinLimits}
use Rattle.tin_base.specs.Triangulation.{Triangulation}
use Rattle.topo_check.specs.Changes.{AreAllComparable}
use Rattle.runs.proofs.BytesPassed.{passed_since}
use Rattle.runs.proofs.PassedRefusals.{handed_on, refused_more, done_more}
use Rattle.migrate_mode.proofs.MigrationSteps.{tin_refused, layers_refused, report_refused, rows_named, run_comparable}
use Rattle.migrate_mode.proofs.MigrationSteps.{migration_done, migration_form}
use Rattle.migrate_mode.proofs.LayerCauses.{layers_causes, report_causes}
use Rattle.migrate_mode.proofs.RunSheets.{may_be_sided}
use Rattle.migrate_mode.specs.LayerRuns.{setting_of}
use Rattle.migrate_mode.proofs.migration_output.prepare_migration.Goals as goal

pub returns-in_err-index-clause-refused : goal.returns-in_err-index-clause-refused
returns-in_err-index-clause-refused g c =
    handed_on _ c.in_err-index.field-0.0 c.from_residual.result c.from_residual.ensures.1
    (tin_refused (g.S.Shelf.files c.args.shelf.now) c.args.migration.now _ _ c.in_err-index.field-0.0
    (rw c.text.ensures at c.in_err-index.ensures.refused))

pub returns-in_err-run-clause-refused : goal.returns-in_err-run-clause-refused
returns-in_err-run-clause-refused g c =
    handed_on _ c.in_err-run.field-0.0 c.from_residual-in_err-run.result c.from_residual-in_err-run.ensures.1
    (layers_refused (g.S.Shelf.files c.args.shelf.now) c.args.migration.now c.in_ok-index.index _ _
    c.in_err-run.field-0.0 (rw c.text.ensures at c.in_ok-index.ensures.ok) (λ rose. rose)
    (rw (c.in_ok-index.ensures.files, c.in_ok-index.ensures.faults.same) at c.in_err-run.ensures.refused.refused))

pub report_on_run-requires-clause-rows : goal.report_on_run-requires-clause-rows
report_on_run-requires-clause-rows g c =
    rows_named (g.S.Shelf.files c.load_index.new.shelf) c.args.migration.now c.in_ok-index.index c.in_ok-run.run'
    c.requires c.in_ok-run.ensures.ok.carried

pub report_on_run-requires-clause-comparable : goal.report_on_run-requires-clause-comparable
report_on_run-requires-clause-comparable g c =
    let limits : IsWithinLimits c.in_ok-index.index =
    subst (λ (t : Triangulation). IsWithinLimits t) c.into_tin-tin.ensures c.show_soundness.ensures.limits in
    subst (λ (t : Triangulation). AreAllComparable t c.in_ok-run.run'.pieces.items) (sym c.into_tin-tin.ensures)
    (run_comparable (g.S.Shelf.files c.load_index.new.shelf) c.args.migration.now c.args.migration.now.cert
    c.in_ok-index.index c.in_ok-run.run' limits c.in_ok-run.ensures.ok.carried)

pub report_on_run-requires-clause-sides : goal.report_on_run-requires-clause-sides
report_on_run-requires-clause-sides g c =
    let limits : IsWithinLimits c.in_ok-index.index =
    subst (λ (t : Triangulation). IsWithinLimits t) c.into_tin-tin.ensures c.show_soundness.ensures.limits in
    let taken = c.requires in
    may_be_sided (setting_of (g.S.Shelf.files c.load_index.new.shelf) c.args.migration.now.how c.in_ok-index.index)
    c.args.migration.now.layers c.in_ok-run.run' limits taken.few c.in_ok-run.ensures.ok.kept

pub returns-clause-ok : goal.returns-clause-ok
returns-clause-ok g c =
    done_more _ _ c.report_on_run.result
    (λ done is.
    migration_done (g.S.Shelf.files c.args.shelf.now) c.args.migration.now c.in_ok-index.index c.in_ok-run.run' done.output
    (rw c.text.ensures at c.in_ok-index.ensures.ok) (rw c.in_ok-index.ensures.files at c.in_ok-run.ensures.ok.carried)
    (rw c.in_ok-index.ensures.files at c.in_ok-run.ensures.ok.kept) c.in_ok-run.ensures.ok.sides is)
    (rw c.into_tin-tin.ensures at c.report_on_run.ensures.ok)

pub returns-clause-form : goal.returns-clause-form
returns-clause-form g c =
    done_more _ _ c.report_on_run.result
    (λ done is. migration_form (g.S.Shelf.files c.load_index.new.shelf) c.args.migration.now c.in_ok-index.index
    c.in_ok-run.run' done.output c.requires c.in_ok-run.ensures.ok.carried c.in_ok-run.ensures.ok.sides is)
    (rw c.into_tin-tin.ensures at c.report_on_run.ensures.ok)

pub returns-clause-refused : goal.returns-clause-refused
returns-clause-refused g c =
    refused_more _ _ c.report_on_run.result
    (λ refusal why.
    report_refused (g.S.Shelf.files c.args.shelf.now) c.args.migration.now c.args.migration.now.cert
    c.in_ok-index.index c.in_ok-run.run' _ refusal (rw c.text.ensures at c.in_ok-index.ensures.ok)
    (rw c.in_ok-index.ensures.files at c.in_ok-run.ensures.ok.carried)
    (rw c.in_ok-index.ensures.files at c.in_ok-run.ensures.ok.kept) c.in_ok-run.ensures.ok.sides why)
    (rw c.into_tin-tin.ensures at c.report_on_run.ensures.refused)

pub returns-in_err-run-clause-causes : goal.returns-in_err-run-clause-causes
returns-in_err-run-clause-causes g c =
    handed_on _ c.in_err-run.field-0.0 c.from_residual-in_err-run.result c.from_residual-in_err-run.ensures.1
    (layers_causes c.args.migration.now (g.S.Shelf.files c.args.shelf.now) _ c.in_err-run.field-0.0
    c.in_err-run.ensures.refused.of_layers (rw (c.in_ok-index.ensures.files, c.in_ok-index.ensures.faults.same) at
    c.in_err-run.ensures.refused.read)
    (λ e. passed_since _ _ _ _ c.in_ok-index.ensures.given (c.in_err-run.ensures.refused.long e)))

pub returns-clause-causes : goal.returns-clause-causes
returns-clause-causes g c =
    refused_more _ _ c.report_on_run.result
    (λ refusal why. report_causes _ _ c.into_tin-tin.result c.in_ok-run.run' refusal why)
    c.report_on_run.ensures.refused
