-- Answers to the goals of `build_made_index` in src/maker.rt.
use Rattle.std.proofs.Common.{◌≤◌, length, refl, subst}
use Rattle.runs.specs.declared.loads.TheConstants.{MOST_BYTES}
use Rattle.runs.specs.declared.refusal.Refusal.TheVariants.{NoMemory}
use Rattle.runs.specs.Causes.{no_room}
use Rattle.runs.proofs.PassedRefusals.{handed_on}
use Rattle.migrate_mode.proofs.MakerSteps.{made_directed, made_text_refused, text_of_making}
use Rattle.migrate_mode.proofs.maker.build_made_index.Goals as goal

pub returns-in_err-text-clause-refused : goal.returns-in_err-text-clause-refused
returns-in_err-text-clause-refused c =
    handed_on _ NoMemory c.from_residual.result c.from_residual.ensures.1 (no_room refl)

pub returns-in_err-text-clause-of_making : goal.returns-in_err-text-clause-of_making
returns-in_err-text-clause-of_making c =
    handed_on _ NoMemory c.from_residual.result c.from_residual.ensures.1 tt

pub returns-in_err-tin-clause-refused : goal.returns-in_err-tin-clause-refused
returns-in_err-tin-clause-refused c =
    let few : length c.in_ok-text.text.items ≤ MOST_BYTES =
    subst (λ k. k ≤ MOST_BYTES) c.in_ok-text.text.ok.0 c.in_ok-text.ensures.short in
    handed_on _ c.in_err-tin.field-0.0 c.from_residual-in_err-tin.result c.from_residual-in_err-tin.ensures.1
    (made_text_refused c.args.n c.in_ok-text.text.items c.in_err-tin.field-0.0 c.in_ok-text.ensures.text few
    (rw (c.plainly.ensures, c.deref.ensures.value) at c.in_err-tin.ensures.refused))

pub returns-in_err-tin-clause-of_making : goal.returns-in_err-tin-clause-of_making
returns-in_err-tin-clause-of_making c =
    handed_on _ c.in_err-tin.field-0.0 c.from_residual-in_err-tin.result c.from_residual-in_err-tin.ensures.1
    (text_of_making _ _ c.in_err-tin.field-0.0 c.in_err-tin.ensures.refused)

pub returns-in_err-index-clause-refused : goal.returns-in_err-index-clause-refused
returns-in_err-index-clause-refused c =
    handed_on _ NoMemory c.from_residual-in_err-index.result c.from_residual-in_err-index.ensures.1 (no_room refl)

pub returns-in_err-index-clause-of_making : goal.returns-in_err-index-clause-of_making
returns-in_err-index-clause-of_making c =
    handed_on _ NoMemory c.from_residual-in_err-index.result c.from_residual-in_err-index.ensures.1 tt

pub returns-clause-ok : goal.returns-clause-ok
returns-clause-ok c =
    let few : length c.in_ok-text.text.items ≤ MOST_BYTES =
    subst (λ k. k ≤ MOST_BYTES) c.in_ok-text.text.ok.0 c.in_ok-text.ensures.short in
    made_directed c.args.n c.in_ok-text.text.items c.in_ok-tin.tin c.in_ok-index.index c.in_ok-text.ensures.text few
    (rw (c.plainly.ensures, c.deref.ensures.value) at c.in_ok-tin.ensures.ok) c.in_ok-index.ensures
