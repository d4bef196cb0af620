-- Answers to the goals of `migration_in` in src/words.rt.
use Rattle.std.proofs.Common.{refl, sym, ap, ◌∙◌, subst, [], codes, unwrap_or, Result}
use Rattle.clap.specs.Matches.{found_of}
use Rattle.clap.specs.Walk.{rows_of}
use Rattle.clap.proofs.WalkLemmas.{raw_values-rows}
use Rattle.job_words.specs.declared.jobs.Job.{Job}
use Rattle.job_words.specs.declared.modes.Mode.TheVariants.{Migrate}
use Rattle.job_words.specs.declared.faults.WordsFault.{WordsFault}
use Rattle.job_words.specs.Faults.{IsAnswer}
use Rattle.job_words.specs.Jobs.{job_in}
use Rattle.job_words.proofs.Again.{behind}
use Rattle.job_words.proofs.Migrations.{AreNamed, handed-on, names-refused, names-taken, same-migration, texts-or}
use Rattle.job_words.proofs.words.migration_in.Goals as goal

pub returns-in_err-check_migration : goal.returns-in_err-check_migration
returns-in_err-check_migration c =
    let rows = rows_of (found_of c.args.matches.now) in
    let texts = ap behind (ap (λ t. t.now) c.unwrap_or-layers.ensures) ∙ texts-or c.get_strs.result _ refl in
    let named : AreNamed rows c.text_in-tin.result.now c.text_in-out.result.now (behind c.unwrap_or-layers.result.now) =
    record {
      tin = c.text_in-tin.ensures;
      out = c.text_in-out.ensures;
      layers = texts ∙ ap (λ t. unwrap_or t [])
          (c.get_strs.ensures ∙ raw_values-rows (found_of c.args.matches.now) (codes "layer"));
    } in
    let refused = names-refused rows _ _ _ c.in_err-check_migration.field-0.0 named c.in_err-check_migration.ensures in
    subst (λ (answer : Result Job WordsFault). IsAnswer (job_in Migrate rows) answer)
    (sym (handed-on c.from_residual.result _ c.from_residual.ensures.1)) refused

pub returns : goal.returns
returns c =
    let rows = rows_of (found_of c.args.matches.now) in
    let texts = ap behind (ap (λ t. t.now) c.unwrap_or-layers.ensures) ∙ texts-or c.get_strs.result _ refl in
    let named : AreNamed rows c.text_in-tin.result.now c.text_in-out.result.now (behind c.unwrap_or-layers.result.now) =
    record {
      tin = c.text_in-tin.ensures;
      out = c.text_in-out.ensures;
      layers = texts ∙ ap (λ t. unwrap_or t [])
          (c.get_strs.ensures ∙ raw_values-rows (found_of c.args.matches.now) (codes "layer"));
    } in
    let kept : AreNamed rows c.in_ok-of.field-0 c.in_ok-of-2.field-0 c.in_ok-names_of.field-0 = record {
      tin = c.in_ok-of.ensures ∙ named.tin;
      out = c.in_ok-of-2.ensures ∙ named.out;
      layers = c.in_ok-names_of.ensures ∙ named.layers;
    } in
    names-taken rows _ _ _ _ named c.in_ok-check_migration.ensures
    (same-migration rows _ _ c.how_in.result c.is_set.result c.is_set-2.result c.is_set-3.result _ kept c.how_in.ensures
    c.is_set.ensures c.is_set-2.ensures c.is_set-3.ensures)
