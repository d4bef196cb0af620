-- Answers to the goals of `prepare_making` in src/maker.rt.
use Rattle.std.proofs.Common.{sym, subst}
use Rattle.tin_base.specs.Limits.{IsWithinLimits}
use Rattle.tin_base.specs.Triangulation.{Triangulation}
use Rattle.topo_check.specs.Changes.{AreAllComparable}
use Rattle.runs.proofs.PassedRefusals.{handed_on, refused_more, done_more}
use Rattle.migrate_mode.proofs.MakerSteps.{made_run_refused, made_changes_refused, made_comparable, made_done, made_form}
use Rattle.migrate_mode.proofs.maker.prepare_making.Goals as goal

pub returns-in_err-run-clause-refused : goal.returns-in_err-run-clause-refused
returns-in_err-run-clause-refused c =
    handed_on _ c.in_err-run.field-0.0 c.from_residual-in_err-run.result c.from_residual-in_err-run.ensures.1
    (made_run_refused c.args.n c.in_ok-index.index c.in_err-run.field-0.0 c.in_ok-index.ensures.ok
    c.in_err-run.ensures.refused)

pub report_alone-requires-clause-comparable : goal.report_alone-requires-clause-comparable
report_alone-requires-clause-comparable c =
    let limits : IsWithinLimits c.in_ok-index.index =
    subst (λ (t : Triangulation). IsWithinLimits t) c.into_tin-tin.ensures c.show_soundness.ensures.limits in
    subst (λ (t : Triangulation). AreAllComparable t c.in_ok-run.run'.pieces.items) (sym c.into_tin-tin.ensures)
    (made_comparable c.args.n c.in_ok-index.index c.in_ok-run.run' limits c.in_ok-run.ensures.ok)

pub returns-clause-ok : goal.returns-clause-ok
returns-clause-ok c =
    done_more _ _ c.report_alone.result
    (λ done is. made_done c.args.n c.in_ok-index.index c.in_ok-run.run' done.output c.in_ok-index.ensures.ok
    c.in_ok-run.ensures.ok c.in_ok-run.ensures.sides is) (rw c.into_tin-tin.ensures at c.report_alone.ensures.ok)

pub returns-clause-form : goal.returns-clause-form
returns-clause-form c =
    done_more _ _ c.report_alone.result
    (λ done is. made_form c.args.n c.in_ok-index.index c.in_ok-run.run' done.output c.in_ok-run.ensures.ok
    c.in_ok-run.ensures.sides is)
    (rw c.into_tin-tin.ensures at c.report_alone.ensures.ok)

pub returns-clause-refused : goal.returns-clause-refused
returns-clause-refused c =
    refused_more _ _ c.report_alone.result
    (λ refusal why. made_changes_refused c.args.n c.in_ok-index.index c.in_ok-run.run' refusal c.in_ok-index.ensures.ok
    c.in_ok-run.ensures.ok c.in_ok-run.ensures.sides why) (rw c.into_tin-tin.ensures at c.report_alone.ensures.refused)
