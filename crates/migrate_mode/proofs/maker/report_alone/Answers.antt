-- Answers to the goals of `report_alone` in src/maker.rt.
use Rattle.std.proofs.Common.{Bool, refl, sym, subst}
use Rattle.runs.specs.declared.refusal.Refusal.TheVariants.{NoMemory}
use Rattle.runs.proofs.PassedRefusals.{handed_on}
use Rattle.migrate_mode.specs.RunContents.{by_changes, MayBeSided}
use Rattle.migrate_mode.proofs.MakerSteps.{unreported_of_making}
use Rattle.migrate_mode.proofs.maker.report_alone.Goals as goal

pub report_on_run-requires-clause-sides : goal.report_on_run-requires-clause-sides
report_on_run-requires-clause-sides c =
    subst (λ (b : Bool). MayBeSided b c.args.run.sheets.items c.args.run.images.items) (sym c.requires.sides) tt

pub returns-clause-ok : goal.returns-clause-ok
returns-clause-ok c = record {
  whole = c.in_ok-done.done.output;
  reported = rw c.in_ok-name.ensures at c.in_ok-done.ensures.ok;
  layers = c.new.ensures.items;
  said = refl;
  changed = refl;
}

pub returns-in_err-name-clause-refused : goal.returns-in_err-name-clause-refused
returns-in_err-name-clause-refused c =
    handed_on _ NoMemory c.from_residual.result c.from_residual.ensures.1 (by_changes tt)

pub returns-in_err-name-clause-of_making : goal.returns-in_err-name-clause-of_making
returns-in_err-name-clause-of_making c =
    handed_on _ NoMemory c.from_residual.result c.from_residual.ensures.1 tt

pub returns-in_err-done-clause-refused : goal.returns-in_err-done-clause-refused
returns-in_err-done-clause-refused c =
    handed_on _ c.in_err-done.field-0.0 c.from_residual-in_err-done.result
    c.from_residual-in_err-done.ensures.1 c.in_err-done.ensures.refused

pub returns-in_err-done-clause-of_making : goal.returns-in_err-done-clause-of_making
returns-in_err-done-clause-of_making c =
    handed_on _ c.in_err-done.field-0.0 c.from_residual-in_err-done.result
    c.from_residual-in_err-done.ensures.1
    (unreported_of_making _ c.args.run c.in_err-done.field-0.0 c.requires.sides c.in_err-done.ensures.refused)
