-- Answers to the goals of `put_point` in src/rings.rt.
use Rattle.std.proofs.Common.{◌+◌, ◌<◌, length, vec_len, vec_capacity, OnErr, sym, subst}
use Rattle.shelf_io.proofs.Made.{on_err_always}
use Rattle.ring_side.specs.declared.kinds.SideChange.{SideChange}
use Rattle.change_places.specs.Words.{texts_of, path_words, point_layer}
use Rattle.change_places.specs.PlacesText.{point_properties}
use Rattle.change_places.proofs.rings.put_point.Goals as goal

pub returns-in_err-put_point_of-in-Point-clause-full : goal.returns-in_err-put_point_of-in-Point-clause-full
returns-in_err-put_point_of-in-Point-clause-full c =
    subst (λ (change : SideChange). OnErr c.from_residual-in_err-put_point_of-in-Point.result
    (vec_capacity c.args.out.now < vec_len c.args.out.now + length (point_properties c.args.style c.args.names.now change
    (path_words (texts_of c.args.texts.now (point_layer change)) c.args.ring.point)))) (sym c.in-Point.is)
    (on_err_always _ c.in_err-put_point_of-in-Point.ensures.full)
