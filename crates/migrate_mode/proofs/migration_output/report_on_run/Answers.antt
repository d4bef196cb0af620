-- Answers to the goals of `report_on_run` in src/migration_output.rt.
use Rattle.std.proofs.Common.{◌∙◌, List, refl, sym, ap, subst}
use Rattle.tin_base.specs.declared.pieces.Piece.{Piece}
use Rattle.topo_check.specs.Changes.{AreAllComparable}
use Rattle.report_text.specs.ReportText.{report_text}
use Rattle.runs.specs.declared.refusal.Refusal.TheVariants.{NoMemory}
use Rattle.runs.proofs.PassedRefusals.{handed_on}
use Rattle.migrate_mode.specs.RunContents.{by_changes, by_sides}
use Rattle.migrate_mode.proofs.PairChanges.{all_changed}
use Rattle.migrate_mode.proofs.migration_output.report_on_run.Goals as goal

pub list_changes-requires-clause-comparable : goal.list_changes-requires-clause-comparable
list_changes-requires-clause-comparable c =
    subst (λ (ps : List Piece). AreAllComparable c.args.tin.now ps) (sym c.deref.ensures.value) c.requires.comparable

pub report_on-requires-clause-changes : goal.report_on-requires-clause-changes
report_on-requires-clause-changes c = let listed =
    c.in_ok-changes.ensures.ok in all_changed c.args.tin.now c.deref.result.now c.in_ok-changes.changes.items
    listed.are_changes

pub returns-clause-ok : goal.returns-clause-ok
returns-clause-ok c = record {
  changes = c.in_ok-changes.changes.items;
  listed = rw c.deref.ensures.value at c.in_ok-changes.ensures.ok;
  sides = c.in_ok-sides.sides;
  sided = rw (c.deref-2.ensures.value, c.deref-3.ensures.value) at c.in_ok-sides.ensures.ok;
  layers = refl;
  said = rw c.text.ensures at (c.of.ensures ∙ (c.in_ok-text.ensures.text ∙ ap report_text c.in_ok-report.ensures));
  changed = rw c.deref-4.ensures.value at c.is_some_listed-changed.ensures;
}

pub returns-in_err-changes-clause-refused : goal.returns-in_err-changes-clause-refused
returns-in_err-changes-clause-refused c =
    handed_on _ c.in_err-changes.field-0.0 c.from_residual.result c.from_residual.ensures.1
    (by_changes (rw c.deref.ensures.value at c.in_err-changes.ensures.refused))

pub returns-in_err-sides-clause-refused : goal.returns-in_err-sides-clause-refused
returns-in_err-sides-clause-refused c =
    handed_on _ c.in_err-sides.field-0.0 c.from_residual-in_err-sides.result c.from_residual-in_err-sides.ensures.1
    (by_sides c.in_ok-changes.changes.items (rw c.deref.ensures.value at c.in_ok-changes.ensures.ok)
    (rw (c.deref-2.ensures.value, c.deref-3.ensures.value) at c.in_err-sides.ensures.refused))

pub returns-in_err-report-clause-refused : goal.returns-in_err-report-clause-refused
returns-in_err-report-clause-refused c =
    handed_on _ NoMemory c.from_residual-in_err-report.result c.from_residual-in_err-report.ensures.1 (by_changes tt)

pub returns-in_err-text-clause-refused : goal.returns-in_err-text-clause-refused
returns-in_err-text-clause-refused c =
    handed_on _ NoMemory c.from_residual-in_err-text.result c.from_residual-in_err-text.ensures.1 (by_changes tt)
