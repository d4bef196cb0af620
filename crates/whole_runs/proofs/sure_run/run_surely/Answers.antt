-- Answers to the goals of `run_surely` in src/sure_run.rt.
use Rattle.std.proofs.Common.{◌∙◌, map, string_bytes, refl, sym}
use Rattle.shelf_io.specs.ReservedPress.{made_of}
use Rattle.runs.specs.declared.refusal.Refusal.TheVariants.{Words}
use Rattle.runs.specs.Status.{end_of}
use Rattle.runs.specs.Output.{files_of}
use Rattle.runs.specs.Refusals.{status_of, line_file}
use Rattle.runs.proofs.RefusalLines.{never-write}
use Rattle.runs.proofs.RunEnds.{never-write-end}
use Rattle.whole_runs.proofs.RunEnds.{makes_refusal, makes_no_job, makes_files}
use Rattle.whole_runs.proofs.SureEnds.{never_rises, sure_makes, sure_ends, sure_stated, sure_missing}
use Rattle.publication.proofs.RunEnds.{words_unread, end_unread}
use Rattle.whole_runs.proofs.sure_run.run_surely.Goals as goal

-- ---- words that are not understood
pub returns-in-Err-clause-ends : goal.returns-in-Err-clause-ends
returns-in-Err-clause-ends c =
    let e = c.refuse_surely.ensures in
    sure_ends (map string_bytes c.args.words.now) c.args.shelf.now.files (status_of (Words c.in-Err.fault))
    c.refuse_surely.result (line_file (Words c.in-Err.fault)) (made_of c.refuse_surely.new.press) e.status
    (makes_no_job _ _ _ c.in-Err.fault (c.in-Err.ensures.refused c.in-Err.fault refl)) e.made

pub returns-in-Err-clause-stated : goal.returns-in-Err-clause-stated
returns-in-Err-clause-stated c =
    let e = c.refuse_surely.ensures in
    sure_stated (map string_bytes c.args.words.now) c.args.shelf.now.files (status_of (Words c.in-Err.fault))
    c.refuse_surely.result (line_file (Words c.in-Err.fault)) c.args.press.now.store (made_of c.refuse_surely.new.press)
    e.status (makes_no_job _ _ _ c.in-Err.fault (c.in-Err.ensures.refused c.in-Err.fault refl)) e.stated

pub returns-in-Err-clause-written : goal.returns-in-Err-clause-written
returns-in-Err-clause-written c = λ e. never-write (Words c.in-Err.fault) (sym c.refuse_surely.ensures.status ∙ e)

pub returns-in-Err-clause-missing : goal.returns-in-Err-clause-missing
returns-in-Err-clause-missing c =
    λ e. absurd (words_unread c.in-Err.fault (sym c.refuse_surely.ensures.status ∙ e))

-- ---- a job that is done
pub publish_surely-requires-clause-writable : goal.publish_surely-requires-clause-writable
publish_surely-requires-clause-writable c = let form = c.in-Ok-prepare.ensures.form in form.writable

pub returns-in-Ok-prepare-clause-ends : goal.returns-in-Ok-prepare-clause-ends
returns-in-Ok-prepare-clause-ends c =
    let e = c.publish_surely.ensures in
    let output = c.in-Ok-prepare.done.output in
    sure_ends (map string_bytes c.args.words.now) c.args.shelf.now.files (end_of output.changed)
    c.publish_surely.result (files_of output) (made_of c.publish_surely.new.press) e.status
    (makes_files _ _ _ c.in-Ok.job (end_of output.changed) (files_of output) c.in-Ok.ensures.job
    c.in-Ok-prepare.ensures.ok) e.made

pub returns-in-Ok-prepare-clause-stated : goal.returns-in-Ok-prepare-clause-stated
returns-in-Ok-prepare-clause-stated c =
    let e = c.publish_surely.ensures in
    let output = c.in-Ok-prepare.done.output in
    sure_stated (map string_bytes c.args.words.now) c.args.shelf.now.files (end_of output.changed)
    c.publish_surely.result (files_of output) c.args.press.now.store (made_of c.publish_surely.new.press) e.status
    (makes_files _ _ _ c.in-Ok.job (end_of output.changed) (files_of output) c.in-Ok.ensures.job
    c.in-Ok-prepare.ensures.ok) e.stated

pub returns-in-Ok-prepare-clause-written : goal.returns-in-Ok-prepare-clause-written
returns-in-Ok-prepare-clause-written c =
    λ e. never-write-end c.in-Ok-prepare.done.output.changed (sym c.publish_surely.ensures.status ∙ e)

pub returns-in-Ok-prepare-clause-missing : goal.returns-in-Ok-prepare-clause-missing
returns-in-Ok-prepare-clause-missing c =
    λ e. absurd (end_unread c.in-Ok-prepare.done.output.changed (sym c.publish_surely.ensures.status ∙ e))

-- ---- a job that is refused
pub returns-in-Err-prepare-clause-ends : goal.returns-in-Err-prepare-clause-ends
returns-in-Err-prepare-clause-ends c =
    let e = c.refuse_surely-in-Err-prepare.ensures in
    let refusal = c.in-Err-prepare.refusal in
    let why = c.in-Err-prepare.ensures.refused in
    sure_ends (map string_bytes c.args.words.now) c.args.shelf.now.files (status_of refusal)
    c.refuse_surely-in-Err-prepare.result (line_file refusal) (made_of c.refuse_surely-in-Err-prepare.new.press)
    e.status (sure_makes _ _ _ (status_of refusal) (line_file refusal) never_rises
    (makes_refusal _ _ _ c.in-Ok.job refusal c.in-Ok.ensures.job why.refused)) e.made

pub returns-in-Err-prepare-clause-stated : goal.returns-in-Err-prepare-clause-stated
returns-in-Err-prepare-clause-stated c =
    let e = c.refuse_surely-in-Err-prepare.ensures in
    let refusal = c.in-Err-prepare.refusal in
    let why = c.in-Err-prepare.ensures.refused in
    sure_stated (map string_bytes c.args.words.now) c.args.shelf.now.files (status_of refusal)
    c.refuse_surely-in-Err-prepare.result (line_file refusal) c.args.press.now.store
    (made_of c.refuse_surely-in-Err-prepare.new.press) e.status
    (sure_makes _ _ _ (status_of refusal) (line_file refusal) never_rises
    (makes_refusal _ _ _ c.in-Ok.job refusal c.in-Ok.ensures.job why.refused)) e.stated

pub returns-in-Err-prepare-clause-written : goal.returns-in-Err-prepare-clause-written
returns-in-Err-prepare-clause-written c =
    λ e. never-write c.in-Err-prepare.refusal (sym c.refuse_surely-in-Err-prepare.ensures.status ∙ e)

pub returns-in-Err-prepare-clause-missing : goal.returns-in-Err-prepare-clause-missing
returns-in-Err-prepare-clause-missing c =
    sure_missing (map string_bytes c.args.words.now) c.args.shelf.now.files _ c.in-Ok.job c.in-Err-prepare.refusal
    c.refuse_surely-in-Err-prepare.result never_rises c.in-Ok.ensures.job c.in-Err-prepare.ensures.refused
    c.refuse_surely-in-Err-prepare.ensures.status
