-- Answers to the goals of `carry_layers` in src/partial_runs.rt.
use Rattle.runs.proofs.PassedRefusals.{handed_on}
use Rattle.migrate_mode.proofs.partial_runs.carry_layers.Goals as goal

pub loop-number-init : goal.loop-number-init
loop-number-init g c = c.begin_run-run.ensures _ _ _

pub loop-number-preserved : goal.loop-number-preserved
loop-number-preserved g c = c.in_ok-carry_one.ensures.ok _ c.loop-number.invariant

pub returns-in_err-carry_one-clause-refused : goal.returns-in_err-carry_one-clause-refused
returns-in_err-carry_one-clause-refused g c =
    handed_on _ c.in_err-carry_one.field-0.0 c.from_residual.result c.from_residual.ensures.1
    (c.in_err-carry_one.ensures.refused _ c.loop-number.invariant)
