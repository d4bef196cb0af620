-- Answers to the goals of `ring_spots` in src/sides.rt.
use Rattle.change_places.specs.Words.{layer_words}
use Rattle.place_runs.proofs.PrintedMaps.SideSpots.{some_rings_are}
use Rattle.place_runs.proofs.sides.ring_spots.Goals as goal

pub returns-in_ok-printed_rings-in-Some-clause-ok : goal.returns-in_ok-printed_rings-in-Some-clause-ok
returns-in_ok-printed_rings-in-Some-clause-ok c =
    some_rings_are c.args.run.now.sides c.args.across c.args.run.now.sheets.items c.args.run.now.images.items
    (layer_words c.args.texts.now c.args.places.now) _ c.in-Some.sides _ c.in-Some.is
    (rw (c.deref.ensures.value, c.deref-2.ensures.value) at c.in_ok-sides.ensures.ok)
    (rw (c.deref-in-Some.ensures.value, c.deref-in-Some-2.ensures.value, c.items.ensures) at
    (c.in_ok-printed_rings-in-Some.ensures c.args.texts.now))
