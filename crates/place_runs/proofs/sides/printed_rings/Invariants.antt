-- The invariant of the loop of `printed_rings` in src/sides.rt.
use Rattle.std.proofs.Common.{◌≡◌, ℕ, List, map, take}
use Rattle.change_places.specs.Words.{layer_words, ring_words}
use Rattle.place_runs.specs.SidePlaces.{printed_sides, ring_text_of}
use Rattle.place_runs.proofs.sides.printed_rings.Given as goal

abbrev pub invariant-loop-side : goal.invariant-loop-side
invariant-loop-side l = (texts : List (List ℕ)) → map (ring_words texts) l.rings.items
    ≡ map (ring_text_of l.sheets l.images (layer_words texts l.places)) (printed_sides l.across (take l.side-index l.sides))
