-- Answers to the goals of `printed_rings` in src/sides.rt.
use Rattle.std.proofs.Common.{sym, ◌∙◌}
use Rattle.change_places.specs.Words.{layer_words, ring_words}
use Rattle.place_runs.specs.SidePlaces.{ring_text_of}
use Rattle.place_runs.proofs.PrintedMaps.SideSpots.{one_more_ring, no_more_ring}
use Rattle.place_runs.proofs.sides.printed_rings.Goals.{then-is_side_printed+in_ok-push, else-is_side_printed}
use Rattle.place_runs.proofs.sides.printed_rings.Goals as goal

pub loop-side-preserved : goal.loop-side-preserved
loop-side-preserved c = elim c.if-is_side_printed.branch [
  | then-is_side_printed+in_ok-push w ↦ λ texts. rw w.rings-is
      (one_more_ring (ring_words texts) (ring_text_of c.args.sheets.now c.args.images.now (layer_words texts c.args.places.now))
      c.args.across c.args.sides.now c.loop-side.side-index _ c.loop-side-test.true w.ring_spot.result
      c.loop-side.rings.items w.push.new.self.items (c.loop-side.invariant texts)
      (sym c.is_side_printed.ensures ∙ w.if-is_side_printed.true) (w.ring_spot.ensures texts) w.in_ok-push.ensures.items)
  | else-is_side_printed w ↦ λ texts. rw w.rings-is
      (no_more_ring (ring_words texts) (ring_text_of c.args.sheets.now c.args.images.now (layer_words texts c.args.places.now))
      c.args.across c.args.sides.now c.loop-side.side-index _ c.loop-side-test.true c.loop-side.rings.items
      (c.loop-side.invariant texts) (sym c.is_side_printed.ensures ∙ w.if-is_side_printed.false))
]
