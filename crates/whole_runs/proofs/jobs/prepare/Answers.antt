-- Answers to the goals of `prepare` in src/jobs.rt.
use Rattle.std.proofs.Common.{Some}
use Rattle.migrate_mode.proofs.MakerSteps.{never_read}
use Rattle.whole_runs.proofs.JobRefusals.{making_causes}
use Rattle.whole_runs.proofs.RunEnds.{making_refused}
use Rattle.whole_runs.proofs.jobs.prepare.Goals as goal

pub returns-in-Make-clause-refused : goal.returns-in-Make-clause-refused
returns-in-Make-clause-refused g c =
    let why = c.in-Err-prepare_making.ensures in
    rw c.in-Make.is (record {
      refused = making_refused (g.S.Shelf.files c.args.shelf.now) c.in-Make.n _ c.in-Err-prepare_making.refusal why.refused;
      counted = making_causes _ c.in-Err-prepare_making.refusal why.of_making;
    })

pub returns-in-Make-clause-untold_refused : goal.returns-in-Make-clause-untold_refused
returns-in-Make-clause-untold_refused g c =
    λ without files. rw c.in-Make.is
    (making_refused (Some files) c.in-Make.n ⊥ c.in-Err-prepare_making.refusal c.in-Err-prepare_making.ensures.refused)

pub returns-in-Make-clause-unread : goal.returns-in-Make-clause-unread
returns-in-Make-clause-unread g c =
    λ without. never_read c.in-Err-prepare_making.refusal c.in-Err-prepare_making.ensures.of_making

pub returns-in-Ok-prepare_heights-clause-form : goal.returns-in-Ok-prepare_heights-clause-form
returns-in-Ok-prepare_heights-clause-form g c = rw c.in-Heights.is c.in-Ok-prepare_heights.ensures.form

pub returns-in-Migrate-clause-refused : goal.returns-in-Migrate-clause-refused
returns-in-Migrate-clause-refused g c =
    rw c.in-Migrate.is (record { refused = c.in-Err.ensures.refused; counted = c.in-Err.ensures.causes })
