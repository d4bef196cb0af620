-- Answers to the goals of `put_ring` in src/rings.rt.
use Rattle.std.proofs.Common.{◌+◌, ◌<◌, codes, length, vec_len, vec_capacity, OnErr, sym, subst}
use Rattle.shelf_io.proofs.Made.{on_err_always}
use Rattle.ring_side.specs.declared.kinds.SideChange.{SideChange}
use Rattle.change_places.specs.Words.{texts_of, path_words, ring_layer}
use Rattle.change_places.specs.PlacesText.{layer_name, ring_from, place_properties}
use Rattle.change_places.proofs.rings.put_ring.Goals as goal

pub returns-in_err-put_ring_of-in-Turn-clause-full : goal.returns-in_err-put_ring_of-in-Turn-clause-full
returns-in_err-put_ring_of-in-Turn-clause-full c =
    subst (λ (change : SideChange). OnErr c.from_residual.result
    (vec_capacity c.args.out.now < vec_len c.args.out.now + length (place_properties c.args.style (codes "ring")
    (layer_name c.args.names.now (ring_layer change)) (ring_from change)
    (path_words (texts_of c.args.texts.now (ring_layer change)) c.args.ring.ring)))) (sym c.in-Turn.is)
    (on_err_always _ c.in_err-put_ring_of-in-Turn.ensures.full)

pub returns-in_err-put_ring_of-in-Point-clause-full : goal.returns-in_err-put_ring_of-in-Point-clause-full
returns-in_err-put_ring_of-in-Point-clause-full c =
    subst (λ (change : SideChange). OnErr c.from_residual-in_err-put_ring_of-in-Point.result
    (vec_capacity c.args.out.now < vec_len c.args.out.now + length (place_properties c.args.style (codes "ring")
    (layer_name c.args.names.now (ring_layer change)) (ring_from change)
    (path_words (texts_of c.args.texts.now (ring_layer change)) c.args.ring.ring)))) (sym c.in-Point.is)
    (on_err_always _ c.in_err-put_ring_of-in-Point.ensures.full)
