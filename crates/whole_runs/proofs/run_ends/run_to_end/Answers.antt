-- Answers to the goals of `run_to_end` in src/run_ends.rt.
use Rattle.std.proofs.Common.{inl, inr, map, string_bytes, refl}
use Rattle.runs.specs.declared.refusal.Refusal.TheVariants.{Words}
use Rattle.runs.specs.Status.{end_of}
use Rattle.runs.specs.Output.{files_of, file_of}
use Rattle.runs.specs.Refusals.{status_of, line_file}
use Rattle.runs.proofs.RefusalLines.{never-write}
use Rattle.runs.proofs.RunEnds.{never-write-end, told, told_always, done_end}
use Rattle.whole_runs.specs.Ends.{by_job, by_refusal}
use Rattle.publication.proofs.RunEnds.{words_causes, handed_out}
use Rattle.whole_runs.proofs.RunEnds.{makes_refusal, makes_no_job, makes_files, refused_told}
use Rattle.whole_runs.proofs.MadeRuns.{run_made}
use Rattle.whole_runs.proofs.RunCauses.{words_job, refused_causes, refused_job, done_causes, done_job}
use Rattle.whole_runs.proofs.WordsEnd.{wants_none}
use Rattle.whole_runs.proofs.run_ends.run_to_end.Goals as goal

-- ---- words that are not understood
pub returns-in-Err-clause-made : goal.returns-in-Err-clause-made
returns-in-Err-clause-made g c =
    let words = map string_bytes c.args.words.now in
    let fault = c.in-Err.fault in
    let lacks = c.in-Err.ensures.refused fault refl in
    run_made words (g.S.Shelf.files c.args.shelf.now) _ _ (line_file (Words fault)) (status_of (Words fault))
    c.refuse.result (g.P.Press.made c.refuse.new.press) (never-write (Words fault))
    (by_refusal (Words fault) (record { status_is = refl; made_is = refl }))
    (told_always (g.S.Shelf.files c.args.shelf.now) (λ files. makes_no_job words files _ fault lacks))
    (λ none files. makes_no_job words files _ fault lacks) c.refuse.ensures.written c.refuse.ensures.press.rose

pub returns-in-Err-clause-causes : goal.returns-in-Err-clause-causes
returns-in-Err-clause-causes g c =
    words_causes _ _ _ c.refuse.result _ c.in-Err.fault
    (λ other. (c.in-Err.fault, c.in-Err.ensures.refused c.in-Err.fault refl other)) c.refuse.ensures.written

pub returns-in-Err-clause-job : goal.returns-in-Err-clause-job
returns-in-Err-clause-job g c =
    words_job (map string_bytes c.args.words.now) (g.S.Shelf.files c.args.shelf.now) _ c.refuse.result _ c.in-Err.fault
    (c.in-Err.ensures.refused c.in-Err.fault refl) c.refuse.ensures.written

pub returns-in-Err-clause-handed : goal.returns-in-Err-clause-handed
returns-in-Err-clause-handed g c = record {
  refusal = handed_out _ (line_file (Words c.in-Err.fault)) (status_of (Words c.in-Err.fault)) c.refuse.result
      (g.P.Press.made c.refuse.new.press) (never-write (Words c.in-Err.fault)) c.refuse.ensures.written
      (inl (c.in-Err.fault, refl, c.in-Err.ensures.refused c.in-Err.fault refl));
  no_report = refl;
  no_sound = refl;
  done = tt;
  status_is = tt;
}

-- ---- a job that is done
pub publish-requires-clause-writable : goal.publish-requires-clause-writable
publish-requires-clause-writable g c = let form = c.in-Ok-prepare.ensures.form in form.writable

pub returns-in-Ok-prepare-clause-made : goal.returns-in-Ok-prepare-clause-made
returns-in-Ok-prepare-clause-made g c =
    let words = map string_bytes c.args.words.now in
    let job = c.in-Ok.job in
    let given = c.in-Ok.ensures.job in
    let output = c.in-Ok-prepare.done.output in
    let form = c.in-Ok-prepare.ensures.form in
    run_made words (g.S.Shelf.files c.args.shelf.now) _ _ (files_of output) (end_of output.changed) c.publish.result
    (g.P.Press.made c.publish.new.press) (never-write-end output.changed)
    (by_job job given (map file_of output.layers.items) output.said form.is_of refl)
    (told (g.S.Shelf.files c.args.shelf.now)
    (λ files is. makes_files words files _ job (end_of output.changed) (files_of output) given is)
    c.in-Ok-prepare.ensures.ok)
    (λ none files. makes_files words files _ job (end_of output.changed) (files_of output) given
    (c.in-Ok-prepare.ensures.untold (wants_none words job given none) files))
    c.publish.ensures.written c.publish.ensures.press.rose

pub returns-in-Ok-prepare-clause-causes : goal.returns-in-Ok-prepare-clause-causes
returns-in-Ok-prepare-clause-causes g c =
    done_causes (map string_bytes c.args.words.now) (g.S.Shelf.files c.args.shelf.now) _ c.publish.result _ c.in-Ok.job
    c.in-Ok-prepare.done.output c.in-Ok.ensures.job c.in-Ok-prepare.ensures.form c.publish.ensures.written

pub returns-in-Ok-prepare-clause-job : goal.returns-in-Ok-prepare-clause-job
returns-in-Ok-prepare-clause-job g c =
    done_job (map string_bytes c.args.words.now) (g.S.Shelf.files c.args.shelf.now) _ c.publish.result _ c.in-Ok.job
    c.in-Ok-prepare.done.output c.in-Ok.ensures.job c.in-Ok-prepare.ensures.form c.in-Ok-prepare.ensures.may_end
    c.publish.ensures.written

pub returns-in-Ok-prepare-clause-handed : goal.returns-in-Ok-prepare-clause-handed
returns-in-Ok-prepare-clause-handed g c =
    let output = c.in-Ok-prepare.done.output in
    let form = c.in-Ok-prepare.ensures.form in
    record {
      refusal = tt;
      no_report = tt;
      no_sound = tt;
      done = record {
        job = c.in-Ok.job;
        given = c.in-Ok.ensures.job;
        layers = map file_of output.layers.items;
        said = output.said;
        wanted = end_of output.changed;
        form = form.is_of;
        done = c.in-Ok-prepare.ensures.ok;
        written = c.publish.ensures.written;
        reported = c.in-Ok-prepare.ensures.report;
        checked = c.in-Ok-prepare.ensures.sound;
      };
      status_is = done_end output.changed c.publish.result c.publish.ensures.written.status;
    }

-- ---- a job that is refused
pub returns-in-Err-prepare-clause-made : goal.returns-in-Err-prepare-clause-made
returns-in-Err-prepare-clause-made g c =
    let words = map string_bytes c.args.words.now in
    let job = c.in-Ok.job in
    let given = c.in-Ok.ensures.job in
    let refusal = c.in-Err-prepare.refusal in
    let why = c.in-Err-prepare.ensures.refused in
    run_made words (g.S.Shelf.files c.args.shelf.now) _ _ (line_file refusal) (status_of refusal)
    c.refuse-in-Err-prepare.result (g.P.Press.made c.refuse-in-Err-prepare.new.press) (never-write refusal)
    (by_refusal refusal (record { status_is = refl; made_is = refl }))
    (told (g.S.Shelf.files c.args.shelf.now) (λ files is. makes_refusal words files _ job refusal given is)
    (refused_told (g.S.Shelf.files c.args.shelf.now) job _ refusal why.refused))
    (λ none files. makes_refusal words files _ job refusal given
    (c.in-Err-prepare.ensures.untold_refused (wants_none words job given none) files))
    c.refuse-in-Err-prepare.ensures.written c.refuse-in-Err-prepare.ensures.press.rose

pub returns-in-Err-prepare-clause-causes : goal.returns-in-Err-prepare-clause-causes
returns-in-Err-prepare-clause-causes g c =
    refused_causes (map string_bytes c.args.words.now) (g.S.Shelf.files c.args.shelf.now) _
    c.refuse-in-Err-prepare.result _ c.in-Ok.job c.in-Err-prepare.refusal c.in-Ok.ensures.job
    c.in-Err-prepare.ensures.refused c.refuse-in-Err-prepare.ensures.written

pub returns-in-Err-prepare-clause-job : goal.returns-in-Err-prepare-clause-job
returns-in-Err-prepare-clause-job g c =
    refused_job (map string_bytes c.args.words.now) (g.S.Shelf.files c.args.shelf.now) _
    c.refuse-in-Err-prepare.result _ c.in-Ok.job c.in-Err-prepare.refusal c.in-Ok.ensures.job
    c.in-Err-prepare.ensures.refused c.in-Err-prepare.ensures.unread c.refuse-in-Err-prepare.ensures.written

pub returns-in-Err-prepare-clause-handed : goal.returns-in-Err-prepare-clause-handed
returns-in-Err-prepare-clause-handed g c = record {
  refusal = handed_out _ (line_file c.in-Err-prepare.refusal) (status_of c.in-Err-prepare.refusal)
      c.refuse-in-Err-prepare.result (g.P.Press.made c.refuse-in-Err-prepare.new.press)
      (never-write c.in-Err-prepare.refusal) c.refuse-in-Err-prepare.ensures.written
      (inr (c.in-Ok.job, c.in-Ok.ensures.job, c.in-Err-prepare.ensures.refused));
  no_report = refl;
  no_sound = refl;
  done = tt;
  status_is = tt;
}
