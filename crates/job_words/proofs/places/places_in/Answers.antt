-- Answers to the goals of `places_in` in src/places.rt.
use Rattle.std.proofs.Common.{refl, sym, ap, ◌∙◌, subst, [], codes, unwrap_or, Result}
use Rattle.clap.specs.Matches.{found_of}
use Rattle.clap.specs.Walk.{rows_of}
use Rattle.clap.proofs.WalkLemmas.{raw_values-rows}
use Rattle.job_words.specs.declared.places.PlacesJob.{PlacesJob}
use Rattle.job_words.specs.declared.faults.WordsFault.{WordsFault}
use Rattle.job_words.specs.Faults.{IsAnswer}
use Rattle.job_words.specs.PlacesJobs.{places_answer_in}
use Rattle.job_words.proofs.Again.{behind}
use Rattle.job_words.proofs.Migrations.{handed-on, texts-or}
use Rattle.job_words.proofs.PlacesAnswers.{AreNamed, HasFlags, places-refused, places-taken, same-places}
use Rattle.job_words.proofs.places.places_in.Goals as goal

pub returns-in_err-check_places : goal.returns-in_err-check_places
returns-in_err-check_places c =
    let rows = rows_of (found_of c.args.matches.now) in
    let texts = ap behind (ap (λ t. t.now) c.unwrap_or-layers.ensures) ∙ texts-or c.get_strs.result _ refl in
    let named : AreNamed rows c.text_in-tin.result.now (behind c.unwrap_or-layers.result.now) = record {
      tin = c.text_in-tin.ensures;
      layers = texts ∙ ap (λ t. unwrap_or t [])
          (c.get_strs.ensures ∙ raw_values-rows (found_of c.args.matches.now) (codes "layer"));
    } in
    let refused = places-refused rows _ _ c.in_err-check_places.field-0.0 named c.in_err-check_places.ensures in
    subst (λ (answer : Result PlacesJob WordsFault). IsAnswer (places_answer_in rows) answer)
    (sym (handed-on c.from_residual.result _ c.from_residual.ensures.1)) refused

pub returns : goal.returns
returns c =
    let rows = rows_of (found_of c.args.matches.now) in
    let texts = ap behind (ap (λ t. t.now) c.unwrap_or-layers.ensures) ∙ texts-or c.get_strs.result _ refl in
    let named : AreNamed rows c.text_in-tin.result.now (behind c.unwrap_or-layers.result.now) = record {
      tin = c.text_in-tin.ensures;
      layers = texts ∙ ap (λ t. unwrap_or t [])
          (c.get_strs.ensures ∙ raw_values-rows (found_of c.args.matches.now) (codes "layer"));
    } in
    let kept : AreNamed rows c.in_ok-of.field-0 c.in_ok-names_of.field-0 = record {
      tin = c.in_ok-of.ensures ∙ named.tin;
      layers = c.in_ok-names_of.ensures ∙ named.layers;
    } in
    let flags : HasFlags rows c.how_in.result c.is_set.result c.is_set-2.result c.is_set-3.result c.is_set-4.result =
    record {
      how_is = c.how_in.ensures;
      inverse_is = c.is_set.ensures;
      sides_is = c.is_set-2.ensures;
      lines_is = c.is_set-3.ensures;
      across_is = c.is_set-4.ensures;
    } in
    places-taken rows _ _ _ named c.in_ok-check_places.ensures
    (same-places rows _ _ _ _ _ _ _ _ kept flags c.in_ok-member_in.ensures)
