-- Answers to the goals of `heights_in` in src/words.rt.
use Rattle.std.proofs.Common.{sym, subst, ◌∙◌, Result}
use Rattle.clap.specs.Matches.{found_of}
use Rattle.clap.specs.Walk.{rows_of}
use Rattle.job_words.specs.declared.jobs.Job.{Job}
use Rattle.job_words.specs.declared.modes.Mode.TheVariants.{Heights}
use Rattle.job_words.specs.declared.faults.WordsFault.{WordsFault}
use Rattle.job_words.specs.Faults.{IsAnswer}
use Rattle.job_words.specs.Jobs.{job_in}
use Rattle.job_words.proofs.Migrations.{handed-on}
use Rattle.job_words.proofs.HeightJobs.{AreNamed, points-refused, points-taken, same-heights}
use Rattle.job_words.proofs.words.heights_in.Goals as goal

pub returns-in_err-check_heights : goal.returns-in_err-check_heights
returns-in_err-check_heights c =
    let rows = rows_of (found_of c.args.matches.now) in
    let named : AreNamed rows c.text_in-tin.result.now c.text_in-out.result.now c.text_in-points.result.now = record {
      tin = c.text_in-tin.ensures;
      out = c.text_in-out.ensures;
      points = c.text_in-points.ensures;
    } in
    let refused = points-refused rows _ _ _ c.in_err-check_heights.field-0.0 named c.in_err-check_heights.ensures in
    subst (λ (answer : Result Job WordsFault). IsAnswer (job_in Heights rows) answer)
    (sym (handed-on c.from_residual.result _ c.from_residual.ensures.1)) refused

pub returns : goal.returns
returns c =
    let rows = rows_of (found_of c.args.matches.now) in
    let named : AreNamed rows c.text_in-tin.result.now c.text_in-out.result.now c.text_in-points.result.now = record {
      tin = c.text_in-tin.ensures;
      out = c.text_in-out.ensures;
      points = c.text_in-points.ensures;
    } in
    let kept : AreNamed rows c.in_ok-of.field-0 c.in_ok-of-2.field-0 c.in_ok-of-3.field-0 = record {
      tin = c.in_ok-of.ensures ∙ named.tin;
      out = c.in_ok-of-2.ensures ∙ named.out;
      points = c.in_ok-of-3.ensures ∙ named.points;
    } in
    points-taken rows _ _ _ _ named c.in_ok-check_heights.ensures
    (same-heights rows _ _ _ c.how_in.result kept c.how_in.ensures)
