-- Answers to the goals of `verification_in` in src/words.rt.
use Rattle.std.proofs.Common.{sym, subst, ◌∙◌, Result}
use Rattle.clap.specs.Matches.{found_of}
use Rattle.clap.specs.Walk.{rows_of}
use Rattle.job_words.specs.declared.jobs.Job.{Job}
use Rattle.job_words.specs.declared.modes.Mode.TheVariants.{Verify}
use Rattle.job_words.specs.declared.faults.WordsFault.{WordsFault}
use Rattle.job_words.specs.Faults.{IsAnswer}
use Rattle.job_words.specs.Jobs.{job_in}
use Rattle.job_words.proofs.Migrations.{handed-on}
use Rattle.job_words.proofs.Verifications.{AreFiles, files-refused, files-taken, same-verification}
use Rattle.job_words.proofs.words.verification_in.Goals as goal

pub returns-in_err-check_verification : goal.returns-in_err-check_verification
returns-in_err-check_verification c =
    let rows = rows_of (found_of c.args.matches.now) in
    let named : AreFiles rows c.text_in-tin.result.now c.text_in-source.result.now c.text_in-written.result.now
    c.text_in-cert.result.now = record {
      tin = c.text_in-tin.ensures;
      source = c.text_in-source.ensures;
      written = c.text_in-written.ensures;
      cert = c.text_in-cert.ensures;
    } in
    let refused = files-refused rows _ _ _ _ c.in_err-check_verification.field-0.0 named
    c.in_err-check_verification.ensures in
    subst (λ (answer : Result Job WordsFault). IsAnswer (job_in Verify rows) answer)
    (sym (handed-on c.from_residual.result _ c.from_residual.ensures.1)) refused

pub returns : goal.returns
returns c =
    let rows = rows_of (found_of c.args.matches.now) in
    let named : AreFiles rows c.text_in-tin.result.now c.text_in-source.result.now c.text_in-written.result.now
    c.text_in-cert.result.now = record {
      tin = c.text_in-tin.ensures;
      source = c.text_in-source.ensures;
      written = c.text_in-written.ensures;
      cert = c.text_in-cert.ensures;
    } in
    let kept : AreFiles rows c.in_ok-of.field-0 c.in_ok-of-2.field-0 c.in_ok-of-3.field-0 c.in_ok-of-4.field-0 =
    record {
      tin = c.in_ok-of.ensures ∙ named.tin;
      source = c.in_ok-of-2.ensures ∙ named.source;
      written = c.in_ok-of-3.ensures ∙ named.written;
      cert = c.in_ok-of-4.ensures ∙ named.cert;
    } in
    files-taken rows _ _ _ _ _ named c.in_ok-check_verification.ensures
    (same-verification rows _ _ _ _ c.how_in.result c.is_set.result kept c.how_in.ensures c.is_set.ensures)
