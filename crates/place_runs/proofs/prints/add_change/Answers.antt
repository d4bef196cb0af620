-- Answers to the goals of `add_change` in src/prints.rt.
use Rattle.std.proofs.Common.{◌∙◌, ◌++◌, ap, arith}
use Rattle.change_places.specs.Words.{ChangeText, change_words}
use Rattle.change_places.specs.PlacesText.{change_entry}
use Rattle.place_runs.specs.InsideMaps.{words_on}
use Rattle.place_runs.proofs.Outcomes.OneSpot.{spot_one}
use Rattle.place_runs.proofs.prints.add_change.Goals as goal

pub unreachable-requires : goal.unreachable-requires
unreachable-requires c =
    let fits = c.requires.room (change_words c.args.map.now.texts.items c.spot-spot.result) c.spot-spot.ensures.spot in
    let full = rw c.deref.ensures.value at c.in_default.ensures.full in
    omega (arith, fits, full)

pub returns-clause-text : goal.returns-clause-text
returns-clause-text c text is =
    let map = c.args.map.now in
    (rw c.deref.ensures.value at c.in-Ok.ensures.text)
    ∙ ap (λ (t : ChangeText). c.args.room.now.items ++ change_entry map.style c.args.names.now c.args.number t)
    (spot_one map.pieces.items c.requires.one (words_on map) c.args.change
    (change_words map.texts.items c.spot-spot.result) text c.spot-spot.ensures.spot is)
