-- Answers to the goals of `changes_are_json` in src/premises.rt.
use Rattle.std.proofs.Common.{◌<◌, ◌^◌, length, rules, arith}
use Rattle.std.proofs.lemmas.List.{length-map}
use Rattle.change_places.specs.Words.{ring_words}
use Rattle.change_places.specs.Laws.{IsRingHeld}
use Rattle.change_places.proofs.PlacesJson.{places_json, printed_names, all_of_map}
use Rattle.change_places.proofs.premises.changes_are_json.Goals as goal

pub returns : goal.returns
returns c style changes printable held rings_copied =
    let texts = c.args.texts.now in
    let rings_few : length c.args.rings.now < 2 ^ 64 = search rules in
    let rings_count = length-map c.args.rings.now (ring_words texts) in
    places_json style c.args.names.now changes _ (printed_names c.args.names.now c.names_are_text.ensures printable) held
    (record {
      held = all_of_map IsRingHeld (ring_words texts) c.args.rings.now c.rings_fit.ensures;
      copied = rings_copied;
      few = omega (arith, rings_few, rings_count);
    })
